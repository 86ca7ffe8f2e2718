-- A list that stands by key, record by record: the keys ascend from 0 if and only if each record is a row of the list, is that row's, and the rows stand in order. Proved
-- once for bonds, centres and pairs, from what one record of each says. Serves document 01, "The structure table". Assumes nothing.
use Prim.Native.Nat.{ℕ, zero, suc, ◌+◌, ◌*◌, ◌≤◌, ◌<◌}
use mathlib.Core.Path.{◌≡◌, refl, sym, ap, ◌∙◌}
use mathlib.Core.Bool.{true, false}
use mathlib.Core.List.{List, [], ◌∷◌, ◌++◌, map}
use native.Mathlib.Nat.{mul-suc, mul-zero}
use native.Mathlib.Omega.{arith}
use lib.ListN.{length, take, drop, length-append, length-drop}
use lib.Seq.{take-add, length-take-le}
use lib.IntN.{ℤ}
use lib.Dec.{ltb}
use borrow.Author.Tests.{ltb-true, lt-ltb}
use Rattle.lists.specs.Lists.{all, pairs, flat, rows_from}
use Rattle.lists.specs.Order.{ascends, leads}
use Rattle.lists.proofs.Bools.{and_parts, and_both}
use Rattle.lists.proofs.ListLaws.{all_parts}
use Rattle.lists.proofs.PartLaws.{append_parts}
use Rattle.lists.proofs.LexLaws.{ltb_strict}
use Rattle.lists.proofs.SortLaws.{ascends_first, ascends_parts, ascends_both}
use Rattle.format.specs.Labels.{ListOf}
use Rattle.format.specs.Rows.{Row}
use Rattle.format.specs.Structure.{meets, row_before, row_ok}
use Rattle.format.specs.Table.{row_cells}
use Rattle.soundness.proofs.KeyLaws.{key_of, Keyed, order_key, order_apart}

-- What a record says: where its key is not 0, its row is one of the list, and its cells are that row's; and the other way
pub record Says (l : ListOf) (n w : ℕ) (row_at : List ℤ → Row) (key : List ℤ → ℕ) : Type 0 where
  pub wide : (s : List ℤ) → w ≤ length s → length (row_cells l (row_at s)) ≡ w
  pub there : (s : List ℤ) → w ≤ length s → 0 < key s → (row_ok l n (row_at s) ≡ true) × (row_cells l (row_at s) ≡ take w s) × (key_of (row_at s) ≡ key s)
  pub back : (s : List ℤ) → w ≤ length s → row_ok l n (row_at s) ≡ true → row_cells l (row_at s) ≡ take w s → (0 < key s) × (key_of (row_at s) ≡ key s)

-- keys that ascend from 0: none is 0
leads_some : (x : ℕ) (xs : List ℕ) → all (ltb x) xs ≡ true → leads ltb x xs ≡ true
leads_some x [] h = refl
leads_some x (y ∷ ys) h = (all_parts (ltb x) y ys h).0

module _ (l : ListOf) (n w : ℕ) (row_at : List ℤ → Row) (key : List ℤ → ℕ) (S : Says l n w row_at key) where
  abbrev rows : (c : ℕ) → List ℤ → List Row
  rows c s = rows_from w row_at c s

  abbrev keys : (c : ℕ) → List ℤ → List ℕ
  keys c s = rows_from w key c s

  more : (c : ℕ) (s : List ℤ) → take (w * suc c) s ≡ take w s ++ take (w * c) (drop w s)
  more c s = let q : w * suc c ≡ w + w * c = omega (arith, mul-suc w c) in ap (λ (m : ℕ). take m s) q ∙ take-add w (w * c) s

  pub cells_long : (c : ℕ) (s : List ℤ) → w * c ≤ length s → length (flat (row_cells l) (rows c s)) ≡ w * c
  unfolding flat rows_from
  cells_long zero s h = sym (mul-zero w)
  cells_long (suc c) s h =
      let i : w ≤ length s = omega (arith, mul-suc w c) in
      let j : w * c ≤ length (drop w s) = omega (arith, mul-suc w c, length-drop w s) in
      omega (arith, length-append (row_cells l (row_at s)) (flat (row_cells l) (rows c (drop w s))), S.wide s i, cells_long c (drop w s) j, mul-suc w c)

  each_there : (c : ℕ) (s : List ℤ) → w * c ≤ length s → all (ltb 0) (keys c s) ≡ true →
      (all (row_ok l n) (rows c s) ≡ true) × (flat (row_cells l) (rows c s) ≡ take (w * c) s) × (map key_of (rows c s) ≡ keys c s)
  unfolding flat rows_from all
  each_there zero s h k = (refl, ap (λ (m : ℕ). take m s) (sym (mul-zero w)), refl)
  each_there (suc c) s h k =
      let i : w ≤ length s = omega (arith, mul-suc w c) in
      let j : w * c ≤ length (drop w s) = omega (arith, mul-suc w c, length-drop w s) in
      let p : (ltb 0 (key s) ≡ true) × (all (ltb 0) (keys c (drop w s)) ≡ true) = and_parts (ltb 0 (key s)) (all (ltb 0) (keys c (drop w s))) k in
      let a = S.there s i (ltb-true 0 (key s) p.0) in
      let b = each_there c (drop w s) j p.1 in (
        and_both (row_ok l n (row_at s)) (all (row_ok l n) (rows c (drop w s))) a.0 b.0,
        rw (a.1, b.1) (sym (more c s)),
        rw (a.2, b.2),
      )

  each_back : (c : ℕ) (s : List ℤ) → w * c ≤ length s → all (row_ok l n) (rows c s) ≡ true → flat (row_cells l) (rows c s) ≡ take (w * c) s →
      (all (ltb 0) (keys c s) ≡ true) × (map key_of (rows c s) ≡ keys c s)
  unfolding flat rows_from all
  each_back zero s h o e = (refl, refl)
  each_back (suc c) s h o e =
      let i : w ≤ length s = omega (arith, mul-suc w c) in
      let j : w * c ≤ length (drop w s) = omega (arith, mul-suc w c, length-drop w s) in
      let p : (row_ok l n (row_at s) ≡ true) × (all (row_ok l n) (rows c (drop w s)) ≡ true) = and_parts (row_ok l n (row_at s)) (all (row_ok l n) (rows c (drop w s))) o in
      let q = append_parts (row_cells l (row_at s)) (take w s) (flat (row_cells l) (rows c (drop w s))) (take (w * c) (drop w s)) (S.wide s i ∙ sym (length-take-le w s i)) (e ∙ more c s) in
      let a = S.back s i p.0 q.0 in
      let b = each_back c (drop w s) j p.1 q.1 in
      (and_both (ltb 0 (key s)) (all (ltb 0) (keys c (drop w s))) (lt-ltb 0 (key s) a.0) b.0, rw (a.1, b.1))

  -- THE LIST
  module _ (K : Keyed l) (small : n < 1024) (c : ℕ) (s : List ℤ) (h : w * c ≤ length s) where
    pub keyed_there : ascends ltb (0 ∷ keys c s) ≡ true →
        (all (row_ok l n) (rows c s) ≡ true) × (ascends row_before (rows c s) ≡ true) × (pairs (meets l) (rows c s) ≡ false) × (flat (row_cells l) (rows c s) ≡ take (w * c) s)
    keyed_there e =
        let a = each_there c s h (ascends_first ltb ltb_strict 0 (keys c s) e) in
        let o : ascends row_before (rows c s) ≡ true = order_key l K n small (rows c s) a.0 ∙ ap (ascends ltb) a.2 ∙ (ascends_parts ltb 0 (keys c s) e).1 in
        (a.0, o, order_apart l K n small (rows c s) o, a.1)

    pub keyed_back : all (row_ok l n) (rows c s) ≡ true → ascends row_before (rows c s) ≡ true → flat (row_cells l) (rows c s) ≡ take (w * c) s → ascends ltb (0 ∷ keys c s) ≡ true
    keyed_back o e f =
        let a = each_back c s h o f in
        ascends_both ltb 0 (keys c s) (leads_some 0 (keys c s) a.0) (ap (ascends ltb) (sym a.1) ∙ sym (order_key l K n small (rows c s) o) ∙ e)
