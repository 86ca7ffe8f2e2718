-- Marks: what one bond of the table does to them, the bonds from one of them on, and why there is one group where every atom but the first is marked. Document 02,
-- L1. Over plain lists. Assumes nothing.
use Prim.Native.Nat.{ℕ, zero, suc, ◌+◌, ◌-◌, ◌*◌, ◌^◌, ◌≤◌, ◌<◌}
use mathlib.Core.Path.{◌≡◌, refl, sym, ap, ap₂, ◌∙◌, subst}
use mathlib.Core.Bool.{Bool, true, false, ◌&&◌}
use mathlib.Core.List.{List, [], ◌∷◌, map}
use native.Mathlib.Omega.{arith}
use lib.ListN.{length, get_or, set, take, drop, replicate, length-set, length-replicate, length-drop}
use lib.Seq.{ext_get_or, get_or-set_other, get_or-drop, drop-drop}
use lib.IntN.{ℤ, pos, negsuc, nat_abs}
use lib.Dec.{eqb, ltb}
use lib.Signed.{lt_z, mag}
use mir.Val.{bool_byte}
use borrow.Author.Tests.{eqb-true, eqb-false, ltb-true, lt-ltb, le-ltb}
use Rattle.lists.specs.Lists.{share, all, rows_from}
use Rattle.lists.proofs.Bools.{torn, and_parts, and_both, and_left_false, and_right_false}
use Rattle.lists.proofs.ListLaws.{all_nil, all_both, all_at, all_parts, all_replicate}
use Rattle.lists.proofs.IndexLaws.{noughts_at, map_length, map_at}
use Rattle.lists.proofs.RegionLaws.{rows_zero, rows_suc}
use Rattle.format.specs.Bytes.{within}
use Rattle.format.specs.Labels.{Bonds}
use Rattle.format.specs.Rows.{Row}
use Rattle.format.specs.Structure.{ranging, row_ok, lowest_of, lowest}
use Rattle.format.specs.Table.{bond_at}
use Rattle.format.proofs.ByteLaws.{within_is, within_high, within_true}
use Rattle.format.proofs.GroupLaws.{Ends, bond_ends, Level, Levels, more, known}
use Rattle.cells.proofs.SignLaws.{machine, below_limit, Plain, not_below_limit, ranging_plain}
use Rattle.groups.specs.Grouping.{AllFine, LowestAtoms}
use Rattle.groups.specs.Marks.{marked_by, marked, ones, OneGroup}
use Rattle.groups.proofs.BondLaws.{second_is}

-- A BOND marks its second atom, or none
abbrev marks : (second kind : ℤ) (ms : List ℕ) → Bool
marks s k ms = ranging 1 4 k && ranging 2 (length ms) s

unmarked : (s k : ℤ) (ms : List ℕ) → marks s k ms ≡ false → ms ≡ marked_by s k ms
unmarked s k ms e = rw (e, marked_by) refl

is_marked : (s k : ℤ) (ms : List ℕ) → marks s k ms ≡ true → set ms (nat_abs s - 1) 1 ≡ marked_by s k ms
is_marked s k ms e = rw (e, marked_by) refl

-- by its two numbers as the machine reads them
module _ (s k : ℤ) (ms : List ℕ) (b : mag k < 2 ^ 31) where
  pub kind_low : lt_z (machine k) (pos 1) ≡ true → ms ≡ marked_by s k ms
  kind_low e = unmarked s k ms (and_left_false (ranging 1 4 k) _ (below_limit 1 4 k b e))

  module _ (e : lt_z (machine k) (pos 1) ≡ false) where
    kind_plain : Plain 1 k
    kind_plain = not_below_limit 1 k b e

    pub kind_weak : 4 < nat_abs (machine k) → ms ≡ marked_by s k ms
    kind_weak h = unmarked s k ms (and_left_false (ranging 1 4 k) _ (ranging_plain 1 4 k kind_plain.is ∙ within_high 1 4 (nat_abs k) (omega (arith, h, kind_plain.same))))

    module _ (f : nat_abs (machine k) ≤ 4) (c : mag s < 2 ^ 31) where
      pub second_low : lt_z (machine s) (pos 2) ≡ true → ms ≡ marked_by s k ms
      second_low g = unmarked s k ms (and_right_false (ranging 1 4 k) _ (below_limit 2 (length ms) s c g))

      module _ (g : lt_z (machine s) (pos 2) ≡ false) where
        second_plain : Plain 2 s
        second_plain = not_below_limit 2 s c g

        pub second_some : 1 ≤ nat_abs (machine s)
        second_some = omega (arith, second_plain.same, second_plain.low)

        pub second_beyond : length ms < nat_abs (machine s) → ms ≡ marked_by s k ms
        second_beyond h = unmarked s k ms (and_right_false (ranging 1 4 k) _ (ranging_plain 2 (length ms) s second_plain.is ∙ within_high 2 (length ms) (nat_abs s) (omega (arith, h, second_plain.same))))

        pub second_in : nat_abs (machine s) ≤ length ms → set ms (nat_abs (machine s) - 1) 1 ≡ marked_by s k ms
        second_in h =
            ap (λ (m : ℕ). set ms (m - 1) 1) second_plain.same
            ∙ is_marked s k ms (and_both (ranging 1 4 k) _ (ranging_plain 1 4 k kind_plain.is ∙ within_is 1 4 (nat_abs k) kind_plain.low (omega (arith, f, kind_plain.same)))
            (ranging_plain 2 (length ms) s second_plain.is ∙ within_is 2 (length ms) (nat_abs s) second_plain.low (omega (arith, h, second_plain.same))))

-- THE BONDS from the i-th on
marked_none : (rows : List ℤ) (ms : List ℕ) → marked 0 rows ms ≡ ms
unfolding marked
marked_none rows ms = refl

marked_next : (n : ℕ) (rows : List ℤ) (ms : List ℕ) → marked (suc n) rows ms ≡ marked_by (get_or rows 1 (pos 0)) (get_or rows 2 (pos 0)) (marked n (drop 3 rows) ms)
unfolding marked
marked_next n rows ms = refl

module _ (rows : List ℤ) (bonds : ℕ) (ms₀ : List ℕ) where
  abbrev pub marked_from : ℕ → List ℕ
  marked_from i = marked (bonds - i) (drop (3 * i) rows) ms₀

  pub marks_none : ms₀ ≡ marked_from bonds
  marks_none = let q : bonds - bonds ≡ 0 = omega arith in sym (ap (λ (n : ℕ). marked n (drop (3 * bonds) rows) ms₀) q ∙ marked_none (drop (3 * bonds) rows) ms₀)

  pub marks_more : (i place : ℕ) (ms qs : List ℕ) → 0 < i → i ≤ bonds → place ≡ 3 * (i - 1) → ms ≡ marked_from i → qs ≡ marked_by (get_or rows (place + 1) (pos 0)) (get_or rows (place + 2) (pos 0)) ms → qs ≡ marked_from (i - 1)
  marks_more i place ms qs Some le e before turn =
      let u : List ℤ = drop (3 * (i - 1)) rows in
      let q : bonds - (i - 1) ≡ suc (bonds - i) = omega arith in
      let r : 3 * (i - 1) + 3 ≡ 3 * i = omega arith in
      let at : (j : ℕ) → get_or rows (place + j) (pos 0) ≡ get_or u j (pos 0) = λ j. ap (λ (k : ℕ). get_or rows (k + j) (pos 0)) e ∙ sym (get_or-drop (3 * (i - 1)) rows j (pos 0)) in
      let next : marked_from i ≡ marked (bonds - i) (drop 3 u) ms₀ = sym (ap (λ (l : List ℤ). marked (bonds - i) l ms₀) (drop-drop 3 (3 * (i - 1)) rows ∙ ap (λ (k : ℕ). drop k rows) r)) in
      turn ∙ ap₂ (λ (s k : ℤ). marked_by s k ms) (at 1) (at 2) ∙ ap (marked_by (get_or u 1 (pos 0)) (get_or u 2 (pos 0))) (before ∙ next)
      ∙ sym (ap (λ (n : ℕ). marked n u ms₀) q ∙ marked_next (bonds - i) u ms₀)

-- HOW MANY ARE MARKED
ones_nil : ones [] ≡ 0
unfolding ones
ones_nil = refl

ones_cons : (m : ℕ) (ms : List ℕ) → ones (m ∷ ms) ≡ share (ltb 0 m) 1 + ones ms
unfolding ones
ones_cons m ms = refl

ones_mark : (m : ℕ) (ms : List ℕ) → 0 < m → ones (m ∷ ms) ≡ suc (ones ms)
ones_mark m ms h = ones_cons m ms ∙ ap (λ (t : Bool). share t 1 + ones ms) (lt-ltb 0 m h) ∙ omega arith

ones_free : (m : ℕ) (ms : List ℕ) → m ≡ 0 → ones (m ∷ ms) ≡ ones ms
ones_free m ms e = ones_cons m ms ∙ ap (λ (t : Bool). share t 1 + ones ms) (le-ltb 0 m (omega (arith, e))) ∙ omega arith

ones_most : (ms : List ℕ) → ones ms ≤ length ms
ones_most [] = omega (arith, ones_nil)
ones_most (zero ∷ ms) = omega (arith, ones_free 0 ms refl, ones_most ms)
ones_most (suc m ∷ ms) = omega (arith, ones_mark (suc m) ms (omega arith), ones_most ms)

ones_full : (ms : List ℕ) → length ms ≤ ones ms → all (ltb 0) ms ≡ true
ones_full [] h = all_nil (ltb 0)
ones_full (zero ∷ ms) h = absurd (omega (arith, h, ones_free 0 ms refl, ones_most ms))
ones_full (suc m ∷ ms) h = all_both (ltb 0) (suc m) ms (lt-ltb 0 (suc m) (omega arith)) (ones_full ms (omega (arith, h, ones_mark (suc m) ms (omega arith))))

ones_zeros : (n : ℕ) → ones (replicate n 0) ≡ 0
ones_zeros zero = ones_nil
ones_zeros (suc n) = ones_free 0 (replicate n 0) refl ∙ ones_zeros n

all_but_first : (ms : List ℕ) → get_or ms 0 0 ≡ 0 → length ms ≤ ones ms + 1 → all (ltb 0) (drop 1 ms) ≡ true
all_but_first [] e h = all_nil (ltb 0)
all_but_first (m ∷ ms) e h = ones_full ms (omega (arith, h, ones_free m ms e))

ones_new : (ms : List ℕ) (i : ℕ) → i < length ms → get_or ms i 0 ≡ 0 → ones (set ms i 1) ≡ 1 + ones ms
ones_new [] i h e = absurd (omega (arith, h))
ones_new (m ∷ ms) zero h e = omega (arith, ones_mark 1 ms (omega arith), ones_free m ms e)
ones_new (m ∷ ms) (suc i) h e = omega (arith, ones_cons m (set ms i 1), ones_cons m ms, ones_new ms i (omega (arith, h)) e)

ones_again : (ms : List ℕ) (i : ℕ) → i < length ms → (get_or ms i 0 ≡ 0 → ⊥) → ones (set ms i 1) ≡ 0 + ones ms
ones_again [] i h e = absurd (omega (arith, h))
ones_again (m ∷ ms) zero h e = omega (arith, ones_mark 1 ms (omega arith), ones_mark m ms (omega (arith, e)))
ones_again (m ∷ ms) (suc i) h e = omega (arith, ones_cons m (set ms i 1), ones_cons m ms, ones_again ms i (omega (arith, h)) e)

pub ones_set : (ms : List ℕ) (i : ℕ) → i < length ms → ones (set ms i 1) ≡ share (eqb (get_or ms i 0) 0) 1 + ones ms
ones_set ms i h = by (eqb (get_or ms i 0) 0) refl
  where
    by : (b : Bool) → eqb (get_or ms i 0) 0 ≡ b → ones (set ms i 1) ≡ share b 1 + ones ms
    by true e = ones_new ms i h (eqb-true (get_or ms i 0) 0 e)
    by false e = ones_again ms i h (eqb-false (get_or ms i 0) 0 e)

-- told by a flag
pub flag_is : (b : Bool) → bool_byte b ≡ share b 1
flag_is true = refl
flag_is false = refl

pub flag_most : (b : Bool) → bool_byte b ≤ 1
flag_most true = omega arith
flag_most false = omega arith

-- AN ATOM THAT IS MARKED has a lower one of its group
pub record Lower (ls : List ℕ) (j : ℕ) : Type 0 where
  pub at : ℕ
  pub below : at < j
  pub level : get_or ls at 0 ≡ get_or ls j 0

ranging_from : (l h : ℕ) (z : ℤ) → ranging l h z ≡ true → l ≤ nat_abs z
unfolding ranging
ranging_from l h (pos n) e = (within_true l h n e).0
ranging_from l h (negsuc n) e = torn false e refl

by_long : (s k : ℤ) (ms : List ℕ) → length (marked_by s k ms) ≡ length ms
by_long s k ms = go (marks s k ms) refl
  where
    go : (t : Bool) → marks s k ms ≡ t → length (marked_by s k ms) ≡ length ms
    go true e = ap length (sym (is_marked s k ms e)) ∙ length-set ms _ 1
    go false e = ap length (sym (unmarked s k ms e))

pub marked_long : (n : ℕ) (rows : List ℤ) (ms : List ℕ) → length (marked n rows ms) ≡ length ms
marked_long zero rows ms = ap length (marked_none rows ms)
marked_long (suc n) rows ms = ap length (marked_next n rows ms) ∙ by_long (get_or rows 1 (pos 0)) (get_or rows 2 (pos 0)) (marked n (drop 3 rows) ms) ∙ marked_long n (drop 3 rows) ms

-- the first atom is not
by_first : (s k : ℤ) (ms : List ℕ) → get_or ms 0 0 ≡ 0 → get_or (marked_by s k ms) 0 0 ≡ 0
by_first s k ms e = go (marks s k ms) refl
  where
    go : (t : Bool) → marks s k ms ≡ t → get_or (marked_by s k ms) 0 0 ≡ 0
    go true f = ap (λ (l : List ℕ). get_or l 0 0) (sym (is_marked s k ms f)) ∙ get_or-set_other ms (nat_abs s - 1) 0 1 0 (λ q. omega (arith, q, ranging_from 2 (length ms) s (and_parts (ranging 1 4 k) _ f).1)) ∙ e
    go false f = ap (λ (l : List ℕ). get_or l 0 0) (sym (unmarked s k ms f)) ∙ e

marked_first : (m : ℕ) (u : List ℤ) (ms : List ℕ) → get_or ms 0 0 ≡ 0 → get_or (marked m u ms) 0 0 ≡ 0
marked_first zero u ms e = ap (λ (l : List ℕ). get_or l 0 0) (marked_none u ms) ∙ e
marked_first (suc m) u ms e = ap (λ (l : List ℕ). get_or l 0 0) (marked_next m u ms) ∙ by_first (get_or u 1 (pos 0)) (get_or u 2 (pos 0)) (marked m (drop 3 u) ms) (marked_first m (drop 3 u) ms e)

second_lower : (n : ℕ) (ls : List ℕ) (r : Row) → row_ok Bonds n r ≡ true → lowest_of ls (get_or r.atoms 0 0) ≡ lowest_of ls (get_or r.atoms 1 0) → Lower ls (get_or r.atoms 1 0 - 1)
second_lower n ls r ok level = go (bond_ends n r ok)
  where
    go : Ends n r → Lower ls (get_or r.atoms 1 0 - 1)
    go d =
        let p : get_or r.atoms 0 0 ≡ d.x = ap (λ (l : List ℕ). get_or l 0 0) d.atoms in
        let q : get_or r.atoms 1 0 ≡ d.y = ap (λ (l : List ℕ). get_or l 1 0) d.atoms in
        record { at = get_or r.atoms 0 0 - 1; below = omega (arith, p, q, d.low, d.rising); level = level }

-- one bond more, which stands at the front of some numbers
joins_ranging : (z : ℤ) → ranging 1 4 z ≡ true → within 1 4 (nat_abs z) ≡ true
unfolding ranging
joins_ranging (pos n) e = e
joins_ranging (negsuc n) e = torn false e refl

module _ (n : ℕ) (ls : List ℕ) (u : List ℤ) (ms : List ℕ) (ok : row_ok Bonds n (bond_at u) ≡ true) (level : Level ls (bond_at u)) (j : ℕ) (h : 0 < get_or (marked_by (get_or u 1 (pos 0)) (get_or u 2 (pos 0)) ms) j 0) where
  abbrev s : ℤ
  s = get_or u 1 (pos 0)

  abbrev k : ℤ
  k = get_or u 2 (pos 0)

  by_lower : (0 < get_or ms j 0 → Lower ls j) → Lower ls j
  by_lower ih = go (marks s k ms) refl
    where
      here : marks s k ms ≡ true → (t : Bool) → eqb j (nat_abs s - 1) ≡ t → Lower ls j
      here e true f =
          subst (Lower ls) (ap (λ (m : ℕ). m - 1) (second_is u) ∙ sym (eqb-true j (nat_abs s - 1) f))
          (second_lower n ls (bond_at u) ok (level (joins_ranging k (and_parts (ranging 1 4 k) _ e).0)))
      here e false f = ih (omega (arith, h, ap (λ (q : List ℕ). get_or q j 0) (sym (is_marked s k ms e)) ∙ get_or-set_other ms (nat_abs s - 1) j 1 0 (eqb-false j (nat_abs s - 1) f)))

      go : (t : Bool) → marks s k ms ≡ t → Lower ls j
      go true e = here e (eqb j (nat_abs s - 1)) refl
      go false e = ih (omega (arith, h, ap (λ (q : List ℕ). get_or q j 0) (sym (unmarked s k ms e))))

split : (ls : List ℕ) (r : Row) (rs : List Row) → Levels ls (r ∷ rs) → Level ls r × Levels ls rs
split ls r rs (more _ _ l m) = (l, m)

marked_lower : (n : ℕ) (ls : List ℕ) (m : ℕ) (u : List ℤ) → AllFine n (rows_from 3 bond_at m u) → Levels ls (rows_from 3 bond_at m u) → (j : ℕ) → 0 < get_or (marked m u (replicate n 0)) j 0 → Lower ls j
marked_lower n ls zero u fine levels j h = absurd (omega (arith, h, ap (λ (l : List ℕ). get_or l j 0) (marked_none u (replicate n 0)) ∙ noughts_at n j))
marked_lower n ls (suc m) u fine levels j h =
    let e = rows_suc 3 bond_at m u in
    let ok = all_parts (row_ok Bonds n) (bond_at u) (rows_from 3 bond_at m (drop 3 u)) (ap (all (row_ok Bonds n)) (sym e) ∙ fine) in
    let l = split ls (bond_at u) (rows_from 3 bond_at m (drop 3 u)) (subst (Levels ls) e levels) in
    by_lower n ls u (marked m (drop 3 u) (replicate n 0)) ok.0 l.0 j (omega (arith, h, ap (λ (q : List ℕ). get_or q j 0) (marked_next m u (replicate n 0)))) (marked_lower n ls m (drop 3 u) ok.1 l.1 j)

-- ONE GROUP: where every atom but the first has a lower one, all lead to the first
one_lowest : (ls : List ℕ) → ((j : ℕ) → 0 < j → j < length ls → Lower ls j) → (m j : ℕ) → j < m → j < length ls → get_or ls j 0 ≡ get_or ls 0 0
one_lowest ls lower zero j h k = absurd (omega arith)
one_lowest ls lower (suc m) j h k = go (eqb j 0) refl (one_lowest ls lower m)
  where
    down : Lower ls j → ((i : ℕ) → i < m → i < length ls → get_or ls i 0 ≡ get_or ls 0 0) → get_or ls j 0 ≡ get_or ls 0 0
    down w ih = sym w.level ∙ ih w.at (omega (arith, w.below, h)) (omega (arith, w.below, k))

    go : (t : Bool) → eqb j 0 ≡ t → ((i : ℕ) → i < m → i < length ls → get_or ls i 0 ≡ get_or ls 0 0) → get_or ls j 0 ≡ get_or ls 0 0
    go true e ih = ap (λ (i : ℕ). get_or ls i 0) (eqb-true j 0 e)
    go false e ih = down (lower j (omega (arith, eqb-false j 0 e)) k) ih

module _ (n m : ℕ) (u : List ℤ) (ms : List ℕ) (e : ms ≡ marked m u (replicate n 0)) (all_are : all (ltb 0) (drop 1 ms) ≡ true) where
  long : length ms ≡ n
  long = ap length e ∙ marked_long m u (replicate n 0) ∙ length-replicate n 0

  each_marked : (j : ℕ) → 0 < j → j < n → 0 < get_or (marked m u (replicate n 0)) j 0
  each_marked j h k =
      let q : 1 + (j - 1) ≡ j = omega arith in
      let r : ltb 0 (get_or (drop 1 ms) (j - 1) 0) ≡ true = all_at (ltb 0) 0 (drop 1 ms) (j - 1) all_are (omega (arith, long, length-drop 1 ms)) in
      let s : get_or (drop 1 ms) (j - 1) 0 ≡ get_or (marked m u (replicate n 0)) j 0 = get_or-drop 1 ms (j - 1) 0 ∙ ap (λ (m : ℕ). get_or ms m 0) q ∙ ap (λ (l : List ℕ). get_or l j 0) e in
      omega (arith, ltb-true 0 (get_or (drop 1 ms) (j - 1) 0) r, s)

  abbrev rs : List Row
  rs = rows_from 3 bond_at m u

  lows_one : AllFine n rs → map suc (replicate n 0) ≡ lowest n rs
  lows_one fine =
      let k = known n rs fine in
      let size : length {A = ℕ} (replicate n 0) ≡ n = length-replicate n 0 in
      ext_get_or 0 (map suc (replicate n 0)) (lowest n rs) (map_length suc (replicate n 0) ∙ size ∙ sym k.lows.long)
      (λ i b.
      let c : i < n = omega (arith, b, map_length suc (replicate n 0), size) in
      let first : get_or (lowest n rs) 0 0 ≡ 1 = omega (arith, k.lows.low 1 (omega arith) (omega (arith, c)), k.lows.high 1 (omega arith) (omega (arith, c))) in
      let same = one_lowest (lowest n rs) (λ j h f. marked_lower n (lowest n rs) m u fine k.level j (each_marked j h (omega (arith, f, k.lows.long)))) (suc i) i (omega arith) (omega (arith, c, k.lows.long)) in
      map_at suc 0 0 (replicate n 0) i (omega (arith, c, size)) ∙ ap suc (noughts_at n i) ∙ sym (same ∙ first))

  named_one : all (λ l. ltb l n) (replicate n 0) ≡ true
  named_one = go n refl
    where
      go : (m : ℕ) → n ≡ m → all (λ l. ltb l n) (replicate n 0) ≡ true
      go zero f = ap (λ (m : ℕ). all (λ l. ltb l n) (replicate m 0)) f ∙ all_nil (λ l. ltb l n)
      go (suc m) f = all_replicate (λ l. ltb l n) n 0 (lt-ltb 0 n (omega (arith, f)))

  pub one_group : LowestAtoms n rs (replicate n 0)
  one_group = (length-replicate n 0, named_one, lows_one)

-- the bonds of the table's region are those of the table
rows_cut : (m k : ℕ) (u : List ℤ) → 3 * m ≤ k → 3 * m ≤ length u → rows_from 3 bond_at m (take k u) ≡ rows_from 3 bond_at m u
rows_cut zero k u h l = rows_zero 3 bond_at (take k u) ∙ sym (rows_zero 3 bond_at u)
rows_cut (suc m) zero u h l = absurd (omega (arith, h))
rows_cut (suc m) (suc zero) u h l = absurd (omega (arith, h))
rows_cut (suc m) (suc (suc zero)) u h l = absurd (omega (arith, h))
rows_cut (suc m) (suc (suc (suc k))) [] h l = absurd (omega (arith, l))
rows_cut (suc m) (suc (suc (suc k))) (x ∷ []) h l = absurd (omega (arith, l))
rows_cut (suc m) (suc (suc (suc k))) (x ∷ y ∷ []) h l = absurd (omega (arith, l))
rows_cut (suc m) (suc (suc (suc k))) (x ∷ y ∷ z ∷ u) h l =
    rows_suc 3 bond_at m (x ∷ y ∷ z ∷ take k u) ∙ ap (λ (rs : List Row). bond_at (x ∷ y ∷ z ∷ u) ∷ rs) (rows_cut m k u (omega (arith, h)) (omega (arith, l))) ∙ sym (rows_suc 3 bond_at m (x ∷ y ∷ z ∷ u))

-- TOLD: after the marks are cleared, set and looked at, and cleared once more; the bonds are those of the table's region
module _ (n m : ℕ) (t : List ℤ) (few : m ≤ 512) (long : 3856 ≤ length t) (xs ys : List ℕ) (cleared : xs ≡ replicate n 0) (set_so : ys ≡ marked m (take (2832 - 1296) (drop 1296 t)) xs) where
  abbrev u : List ℤ
  u = take (2832 - 1296) (drop 1296 t)

  as_long : length ys ≡ n
  as_long = ap length (set_so ∙ ap (marked m u) cleared) ∙ marked_long m u (replicate n 0) ∙ length-replicate n 0

  rows_are : rows_from 3 bond_at m u ≡ rows_from 3 bond_at m (drop 1296 t)
  rows_are = rows_cut m (2832 - 1296) (drop 1296 t) (omega arith) (omega (arith, length-drop 1296 t))

  pub one : (count : ℕ) (zs : List ℕ) → ones ys ≡ count + ones xs → length ys ≤ count + 1 → zs ≡ replicate (length ys) 0 → (length zs ≡ n) × OneGroup n (rows_from 3 bond_at m (drop 1296 t)) true zs
  one count zs e f g =
      let h : zs ≡ replicate n 0 = g ∙ ap (λ (m : ℕ). replicate m 0) as_long in
      let none_before : ones xs ≡ 0 = ap ones cleared ∙ ones_zeros n in
      let first : get_or ys 0 0 ≡ 0 = ap (λ (l : List ℕ). get_or l 0 0) (set_so ∙ ap (marked m u) cleared) ∙ marked_first m u (replicate n 0) (noughts_at n 0) in
      let full : all (ltb 0) (drop 1 ys) ≡ true = all_but_first ys first (omega (arith, e, f, none_before)) in
      (ap length h ∙ length-replicate n 0, λ _. subst (λ (rs : List Row). LowestAtoms n rs zs) rows_are (subst (LowestAtoms n (rows_from 3 bond_at m u)) (sym h) (one_group n m u ys (set_so ∙ ap (marked m u) cleared) full)))
