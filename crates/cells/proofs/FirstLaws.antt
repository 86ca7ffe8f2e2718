-- A table's first 3,856 numbers are all that is read of it: what stands behind them does not matter. Serves document 01, "The structure table". Assumes nothing.
use Prim.Native.Nat.{ℕ, zero, suc, ◌+◌, ◌-◌, ◌*◌, ◌≤◌, ◌<◌, min}
use mathlib.Core.Path.{◌≡◌, sym, ap, ◌∙◌}
use mathlib.Core.List.{List}
use native.Mathlib.Nat.{mul-suc}
use native.Mathlib.Omega.{arith}
use lib.ListN.{take, drop}
use lib.Seq.{get_or-take, take-take}
use lib.IntN.{ℤ, pos, nat_abs}
use Rattle.std.proofs.lemmas.List.{drop-take}
use Rattle.lists.specs.Lists.{rows_from}
use Rattle.lists.proofs.RegionLaws.{rows_zero, rows_suc}
use Rattle.format.specs.Table.{cell, count_at, atom_records, bond_at, marked_at, span_at, spans_of, decode}

-- ROWS that look at their own cells only
module _ {A B : Type 0} (w : ℕ) (row : List B → A) (own : (s : List B) → row (take w s) ≡ row s) where
  rows_front : (n m : ℕ) (s : List B) → w * n ≤ m → rows_from w row n (take m s) ≡ rows_from w row n s
  rows_front zero m s h = rows_zero w row (take m s) ∙ sym (rows_zero w row s)
  rows_front (suc n) m s h =
      let k : w + w * n ≡ w * suc n = omega (arith, mul-suc w n) in
      let q : w + (m - w) ≡ m = omega arith in
      let one : row (take m s) ≡ row s = sym (own (take m s)) ∙ ap row (take-take w m s (omega arith)) ∙ own s in
      let two : drop w (take m s) ≡ take (m - w) (drop w s) = ap (λ (j : ℕ). drop w (take j s)) (sym q) ∙ drop-take w (m - w) s in
      rows_suc w row n (take m s) ∙ rw (one, two, rows_front n (m - w) (drop w s) (omega arith)) (sym (rows_suc w row n s))

  rows_first : (from n : ℕ) (t : List B) → from + w * n ≤ 3856 → rows_from w row n (drop from (take 3856 t)) ≡ rows_from w row n (drop from t)
  rows_first from n t h =
      let q : from + (3856 - from) ≡ 3856 = omega arith in
      ap (rows_from w row n) (ap (λ (j : ℕ). drop from (take j t)) (sym q) ∙ drop-take from (3856 - from) t) ∙ rows_front n (3856 - from) (drop from t) (omega arith)

own_marked : (n w : ℕ) → suc n < w → (s : List ℤ) → marked_at n (take w s) ≡ marked_at n s
own_marked n w h s = rw (take-take n w s (omega arith), get_or-take w s n (pos 0) (omega arith), get_or-take w s (suc n) (pos 0) h)

own_bond : (s : List ℤ) → bond_at (take 3 s) ≡ bond_at s
own_bond s = rw (take-take 2 3 s (omega arith), get_or-take 3 s 2 (pos 0) (omega arith))

own_span : (s : List ℤ) → span_at (take 2 s) ≡ span_at s
own_span s = rw (get_or-take 2 s 0 (pos 0) (omega arith), get_or-take 2 s 1 (pos 0) (omega arith))

-- THE TABLE
module _ (t : List ℤ) where
  cell_first : (p : ℕ) → p < 3856 → cell (take 3856 t) p ≡ cell t p
  cell_first p h = ap nat_abs (get_or-take 3856 t p (pos 0) h)

  count_first : (p m : ℕ) → p < 3856 → count_at (take 3856 t) p m ≡ count_at t p m
  unfolding count_at
  count_first p m h = ap (min m) (cell_first p h)

  count_most : (p m : ℕ) → count_at t p m ≤ m
  unfolding count_at
  count_most p m = omega arith

  values_first : (from c : ℕ) → from + c ≤ 3856 → take c (drop from (take 3856 t)) ≡ take c (drop from t)
  values_first from c h =
      let q : from + (3856 - from) ≡ 3856 = omega arith in
      ap (take c) (ap (λ (j : ℕ). drop from (take j t)) (sym q) ∙ drop-take from (3856 - from) t) ∙ take-take c (3856 - from) (drop from t) (omega arith)

  records_first : atom_records (take 3856 t) ≡ atom_records t
  unfolding atom_records
  records_first =
      rw (count_first 0 256 (omega arith)) (rows_first 5 (take 5) (λ s. take-take 5 5 s (omega arith)) 16 (count_at t 0 256) t (omega (arith, count_most 0 256)))

  pub spans_first : spans_of (take 3856 t) ≡ spans_of t
  unfolding spans_of
  spans_first = rows_first 2 span_at own_span 7 3 t (omega arith)

  pub decode_first : decode (take 3856 t) ≡ decode t
  unfolding decode
  decode_first =
      rw (
        records_first,
        count_first 1 512 (omega arith),
        count_first 2 64 (omega arith),
        count_first 3 64 (omega arith),
        count_first 4 128 (omega arith),
        count_first 5 128 (omega arith),
        rows_first 3 bond_at own_bond 1296 (count_at t 1 512) t (omega (arith, count_most 1 512)),
        values_first 2832 (count_at t 2 64) (omega (arith, count_most 2 64)),
        values_first 2896 (count_at t 3 64) (omega (arith, count_most 3 64)),
        rows_first 3 (marked_at 1) (own_marked 1 3 (omega arith)) 2960 (count_at t 4 128) t (omega (arith, count_most 4 128)),
        rows_first 4 (marked_at 2) (own_marked 2 4 (omega arith)) 3344 (count_at t 5 128) t (omega (arith, count_most 5 128)),
        cell_first 6 (omega arith),
        cell_first 13 (omega arith),
      )
