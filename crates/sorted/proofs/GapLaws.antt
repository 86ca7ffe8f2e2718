-- Cells moved up to make room (opened), and a region with one row more (with_row). Serves the insertion in src/join.rt. Assumes nothing.
use Prim.Native.Nat.{ℕ, suc, ◌+◌, ◌-◌, ◌*◌, ◌≤◌, ◌<◌}
use mathlib.Core.Path.{◌≡◌, sym, ap, ◌∙◌}
use mathlib.Core.List.{List, [], ◌∷◌, ◌++◌, append_assoc}
use native.Mathlib.Numerals.{add-one}
use native.Mathlib.Omega.{arith}
use lib.ListN.{length, get_or, take, drop, set, take-append-drop, length-append, length-drop, get_or-append}
use lib.Seq.{sets-eq, take-suc, drop-cons, drop_at, take_at, drop-append-add, set_at, length-take-le, take-append-le, take-take, get_or-take}
use Rattle.sorted.specs.Keyed.{opened, with_row}

pub opened_start : (t : List ℕ) (to w : ℕ) → t ≡ opened t to to w
unfolding opened
opened_start t to w =
    let q : to - to ≡ 0 = omega arith in
    sym (rw q (take-append-drop (to + w) t))

module _ (t : List ℕ) (i to w : ℕ) (below : i < to) (room : to + w ≤ length t) where
  -- what is not moved yet
  opened_read : get_or (opened t (i + 1) to w) i 0 ≡ get_or t i 0
  unfolding opened
  opened_read =
      let k : i + 1 + w ≤ length t = omega arith in
      get_or-append (take (i + 1 + w) t) _ 0 i (rw (length-take-le (i + 1 + w) t k) (omega arith)) ∙ get_or-take (i + 1 + w) t i 0 (omega arith)

  opened_step : set (opened t (i + 1) to w) (i + w) (get_or t i 0) ≡ opened t i to w
  unfolding opened
  opened_step =
      let k : i + w < length t = omega arith in
      let e : i + 1 + w ≡ suc (i + w) = omega arith in
      let f : to - i ≡ suc (to - (i + 1)) = omega arith in
      let l : i < length t = omega arith in
      let R : List ℕ = take (to - (i + 1)) (drop (i + 1) t) ++ drop (to + w) t in
      ap (λ (l : List ℕ). set (l ++ R) (i + w) (get_or t i 0)) (ap (λ (n : ℕ). take n t) e ∙ take-suc t (i + w) 0 k)
      ∙ ap (λ (l : List ℕ). set l (i + w) (get_or t i 0)) (append_assoc (take (i + w) t) (get_or t (i + w) 0 ∷ []) R)
      ∙ set_at (take (i + w) t) (get_or t (i + w) 0) R (get_or t i 0) (i + w) (length-take-le (i + w) t (omega arith))
      ∙ rw (f, drop-cons t i 0, add-one)

pub length_opened : (t : List ℕ) (from to w : ℕ) → from ≤ to → to + w ≤ length t → length (opened t from to w) ≡ length t
unfolding opened
length_opened t from to w h k =
    let a : length (take (from + w) t) ≡ from + w = length-take-le _ t (omega arith) in
    let b : length (take (to - from) (drop from t)) ≡ to - from = length-take-le _ (drop from t) (simp length-drop (omega arith)) in
    simp (length-append, length-drop, a, b) (omega arith)

-- one cell more is moved
pub opened_turn : (t₀ t : List ℕ) (j to w : ℕ) → 0 < j → j ≤ to → to + w ≤ length t₀ → t ≡ opened t₀ j to w → set t (j - 1 + w) (get_or t (j - 1) 0) ≡ opened t₀ (j - 1) to w
opened_turn t₀ t j to w h k r e =
    let q : j ≡ j - 1 + 1 = omega arith in
    let e' : t ≡ opened t₀ (j - 1 + 1) to w = e ∙ ap (λ (n : ℕ). opened t₀ n to w) q in
    let b : j - 1 < to = omega arith in
    ap (λ (l : List ℕ). set l (j - 1 + w) (get_or l (j - 1) 0)) e'
    ∙ ap (λ (x : ℕ). set (opened t₀ (j - 1 + 1) to w) (j - 1 + w) x) (opened_read t₀ (j - 1) to w b r) ∙ opened_step t₀ (j - 1) to w b r

-- all of them are
pub opened_whole : (t₀ t : List ℕ) (from j to w : ℕ) → j ≡ from → t ≡ opened t₀ j to w → t ≡ opened t₀ from to w
opened_whole t₀ t from j to w e h = h ∙ ap (λ (n : ℕ). opened t₀ n to w) e

-- THE TWO STORES into the gap
module _ (t : List ℕ) (f to x y : ℕ) (h : f ≤ to) (k : to + 2 ≤ length t) where
  take_opened : take f (opened t f to 2) ≡ take f t
  unfolding opened
  take_opened =
      let q : length (take (f + 2) t) ≡ f + 2 = length-take-le (f + 2) t (omega arith) in
      take-append-le f (take (f + 2) t) _ (omega arith) ∙ take-take f (f + 2) t (omega arith)

  drop_opened : drop (f + 2) (opened t f to 2) ≡ take (to - f) (drop f t) ++ drop (to + 2) t
  unfolding opened
  drop_opened = drop_at (take (f + 2) t) _ (f + 2) (length-take-le (f + 2) t (omega arith))

  gap_stored : set (set (opened t f to 2) f x) (f + 1) y ≡ take f t ++ (x ∷ y ∷ (take (to - f) (drop f t) ++ drop (to + 2) t))
  gap_stored =
      let q : f + 2 ≤ length (opened t f to 2) = rw (length_opened t f to 2 h k) (omega arith) in
      ap (λ (n : ℕ). set (set (opened t f to 2) f x) n y) (add-one f)
      ∙ sets-eq (x ∷ y ∷ []) (opened t f to 2) f q
      ∙ rw (take_opened, drop_opened) (append_assoc (take f t) (x ∷ y ∷ []) _)

pub row_stored : (t₀ t : List ℕ) (place count key payload : ℕ) → place ≤ count → 2 * count + 2 ≤ length t₀ → t ≡ opened t₀ (2 * place) (2 * count) 2
    → set (set t (2 * place) key) (2 * place + 1) payload ≡ with_row t₀ place count key payload
unfolding with_row
row_stored t₀ t place count key payload h k e =
    ap (λ (u : List ℕ). set (set u (2 * place) key) (2 * place + 1) payload) e ∙ gap_stored t₀ (2 * place) (2 * count) key payload (omega arith) k

-- the rows before the place, those behind it, and what stands behind the rows
pub row_between : (a b z : List ℕ) (place count key payload : ℕ) → length a ≡ 2 * place → length (a ++ b) ≡ 2 * count
    → with_row (a ++ (b ++ z)) place count key payload ≡ a ++ (key ∷ payload ∷ (b ++ drop 2 z))
unfolding with_row
row_between a b z place count key payload p q =
    let c : length b ≡ 2 * count - 2 * place = omega (arith, length-append a b) in
    let d : drop (2 * count + 2) (a ++ (b ++ z)) ≡ drop 2 z =
    ap (λ (l : List ℕ). drop (2 * count + 2) l) (sym (append_assoc a b z)) ∙ ap (λ (n : ℕ). drop (n + 2) ((a ++ b) ++ z)) (sym q) ∙ drop-append-add (a ++ b) z 2 in
    rw (d, take_at a (b ++ z) (2 * place) p, drop_at a (b ++ z) (2 * place) p, take_at b z (2 * count - 2 * place) c)
