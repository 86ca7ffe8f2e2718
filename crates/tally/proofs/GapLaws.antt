-- Entries moved up by one to make room at a place, the last first, and an entry put there. Serves the insertion in src/entries.rt. Assumes nothing.
use Prim.Native.Nat.{ℕ, suc, ◌+◌, ◌-◌, ◌≤◌, ◌<◌}
use mathlib.Core.Path.{◌≡◌, sym, ap, ap₂, ◌∙◌}
use mathlib.Core.List.{List, [], ◌∷◌, ◌++◌, append_assoc}
use native.Mathlib.Numerals.{add-one}
use native.Mathlib.Omega.{arith}
use lib.ListN.{length, get_or, take, drop, set, take-append-drop, length-append, length-drop, get_or-append}
use lib.Seq.{take-suc, drop-cons, drop_at, take_at, set_at, set_split, length-take-le, take-append-le, take-append-add, take-take, get_or-take}
use Rattle.std.proofs.lemmas.List.{drop-take}
use Rattle.tally.specs.Gathering.{opened}

pub opened_start : {A : Type 0} (xs : List A) (count : ℕ) → xs ≡ opened xs count count
unfolding opened
opened_start xs count =
    let q : count - count ≡ 0 = omega arith in
    sym (rw q (take-append-drop (count + 1) xs))

module _ {A : Type 0} (d : A) (xs : List A) (i count : ℕ) (below : i < count) (room : count + 1 ≤ length xs) where
  -- what is not moved yet
  opened_read : get_or (opened xs (i + 1) count) i d ≡ get_or xs i d
  unfolding opened
  opened_read =
      let k : i + 1 + 1 ≤ length xs = omega arith in
      get_or-append (take (i + 1 + 1) xs) _ d i (rw (length-take-le (i + 1 + 1) xs k) (omega arith)) ∙ get_or-take (i + 1 + 1) xs i d (omega arith)

  opened_step : set (opened xs (i + 1) count) (i + 1) (get_or xs i d) ≡ opened xs i count
  unfolding opened
  opened_step =
      let k : i + 1 < length xs = omega arith in
      let e : i + 1 + 1 ≡ suc (i + 1) = omega arith in
      let f : count - i ≡ suc (count - (i + 1)) = omega arith in
      let l : i < length xs = omega arith in
      let R : List A = take (count - (i + 1)) (drop (i + 1) xs) ++ drop (count + 1) xs in
      ap (λ (l : List A). set (l ++ R) (i + 1) (get_or xs i d)) (ap (λ (n : ℕ). take n xs) e ∙ take-suc xs (i + 1) d k)
      ∙ ap (λ (l : List A). set l (i + 1) (get_or xs i d)) (append_assoc (take (i + 1) xs) (get_or xs (i + 1) d ∷ []) R)
      ∙ set_at (take (i + 1) xs) (get_or xs (i + 1) d) R (get_or xs i d) (i + 1) (length-take-le (i + 1) xs (omega arith))
      ∙ rw (f, drop-cons xs i d, add-one)

-- one entry more has moved
pub opened_turn : {A : Type 0} (d : A) (xs ys : List A) (j count : ℕ) → 0 < j → j ≤ count → count + 1 ≤ length xs → ys ≡ opened xs j count → set ys (j - 1 + 1) (get_or ys (j - 1) d) ≡ opened xs (j - 1) count
opened_turn d xs ys j count h k r e =
    let q : j ≡ j - 1 + 1 = omega arith in
    let e' : ys ≡ opened xs (j - 1 + 1) count = e ∙ ap (λ (n : ℕ). opened xs n count) q in
    let b : j - 1 < count = omega arith in
    ap (λ (l : List _). set l (j - 1 + 1) (get_or l (j - 1) d)) e'
    ∙ ap (λ (x : _). set (opened xs (j - 1 + 1) count) (j - 1 + 1) x) (opened_read d xs (j - 1) count b r) ∙ opened_step d xs (j - 1) count b r

-- all of them have
pub opened_whole : {A : Type 0} (xs ys : List A) (place j count : ℕ) → j ≡ place → ys ≡ opened xs j count → ys ≡ opened xs place count
opened_whole xs ys place j count e h = h ∙ ap (λ (n : ℕ). opened xs n count) e

-- the entry is put into the gap
pub put_in : {A : Type 0} (xs : List A) (place count : ℕ) (x : A) → place ≤ count → count < length xs → take (count + 1) (set (opened xs place count) place x) ≡ take place (take count xs) ++ (x ∷ drop place (take count xs))
unfolding opened
put_in xs place count x p c =
    let moved : List _ = take (count - place) (drop place xs) in
    let rest : List _ = drop (count + 1) xs in
    let whole : List _ = take (place + 1) xs ++ (moved ++ rest) in
    let front : length (take (place + 1) xs) ≡ place + 1 = length-take-le (place + 1) xs (omega arith) in
    let fore : length (take place xs) ≡ place = length-take-le place xs (omega arith) in
    let own : length moved ≡ count - place = length-take-le (count - place) (drop place xs) (omega (arith, length-drop place xs)) in
    let long : place < length whole = omega (arith, length-append (take (place + 1) xs) (moved ++ rest), front) in
    let upto : count ≡ place + (count - place) = omega arith in
    let size : count + 1 ≡ length (take place xs) + suc (count - place) = omega (arith, fore) in
    let low : take place whole ≡ take place xs = take-append-le place (take (place + 1) xs) (moved ++ rest) (omega (arith, front)) ∙ take-take place (place + 1) xs (omega arith) in
    let high : drop (suc place) whole ≡ moved ++ rest = drop_at (take (place + 1) xs) (moved ++ rest) (suc place) (omega (arith, front)) in
    ap (take (count + 1)) (set_split whole place x long ∙ ap₂ (λ (u v : List _). u ++ (x ∷ v)) low high)
    ∙ ap (λ (n : ℕ). take n (take place xs ++ (x ∷ (moved ++ rest)))) size
    ∙ take-append-add (take place xs) (x ∷ (moved ++ rest)) (suc (count - place))
    ∙ ap₂ (λ (u v : List _). u ++ (x ∷ v)) (sym (take-take place count xs p))
    (take_at moved rest (count - place) own ∙ sym (drop-take place (count - place) xs) ∙ ap (λ (n : ℕ). drop place (take n xs)) (sym upto))
