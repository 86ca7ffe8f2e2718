-- What one record of bonds, centres or pairs says: its key is not 0 if and only if its row is one of the list and its numbers are that row's. Serves document 01, "The
-- structure table" ("lower atom, higher atom, kind 1 to 5"; "atom, 1 P or 2 M, group byte"; "lower, higher, 0, 1 P or 2 M, group byte"). Assumes nothing.
use Prim.Native.Nat.{ℕ, suc, ◌+◌, ◌*◌, ◌≤◌, ◌<◌}
use mathlib.Core.Path.{◌≡◌, refl, sym, ap, ◌∙◌}
use mathlib.Core.Bool.{Bool, true, false, ◌&&◌, ◌||◌}
use mathlib.Core.List.{List, [], ◌∷◌}
use native.Mathlib.Omega.{arith}
use lib.ListN.{length, take}
use lib.IntN.{ℤ, pos, negsuc, nat_abs}
use lib.Dec.{eqb, ltb}
use borrow.Author.Tests.{eqb-true, eq-eqb, ltb-true, lt-ltb}
use Rattle.lists.specs.Lists.{all}
use Rattle.lists.specs.Order.{ascends}
use Rattle.lists.proofs.Bools.{torn, both_ways, and_parts, and_both}
use Rattle.lists.proofs.ListLaws.{all_nil, all_parts, all_both}
use Rattle.lists.proofs.SortLaws.{ascends_one, ascends_both, ascends_parts}
use Rattle.format.specs.Bytes.{within}
use Rattle.format.specs.Labels.{Bonds, Centres, Pairs}
use Rattle.format.specs.Rows.{Row, row, upper, lower}
use Rattle.format.specs.Structure.{arity, ranging, ranged, group_ok, row_ok}
use Rattle.format.specs.Table.{cell, row_cells, marked_at, bond_at}
use Rattle.format.proofs.ByteLaws.{within_true, within_is}
use Rattle.format.proofs.RowLaws.{FineRow, row_fine_lem, fine_row}
use Rattle.soundness.specs.Sounding.{number_at, group_fine, mark_fine, key_if, pair_key, atoms_key, record_key}
use Rattle.soundness.proofs.SplitLaws.{Ranged, ranged_of, ranging_of}
use Rattle.soundness.proofs.KeyLaws.{key_of}
use Rattle.soundness.proofs.KeyedLaws.{Says}

-- A KEY THAT IS NOT 0
key_parts : (b : Bool) (k : ℕ) → 0 < key_if b k → (b ≡ true) × (key_if b k ≡ k)
key_parts true k h = (refl, refl)
key_parts false k h = absurd (omega arith)

key_is : (b : Bool) (k : ℕ) → b ≡ true → key_if b k ≡ k
key_is true k e = refl
key_is false k e = torn false e refl

-- ONE ATOM, TWO ATOMS
module _ (n : ℕ) where
  pub record OneAtom (s : List ℤ) : Type 0 where
    pub first : Ranged 1 n (number_at s 0)

  pub record TwoAtoms (s : List ℤ) : Type 0 where
    pub first : Ranged 1 n (number_at s 0)
    pub second : Ranged (suc (cell s 0)) n (number_at s 1)

  one_key : (s : List ℤ) → OneAtom s → atoms_key false n s ≡ 1024 * cell s 0
  unfolding atoms_key
  one_key s f = key_is _ _ (ranging_of 1 n (number_at s 0) f.first.is f.first.low_is f.first.high_is)

  one_there : (s : List ℤ) → 0 < atoms_key false n s → OneAtom s
  unfolding atoms_key
  one_there s h = record { first = ranged_of 1 n (number_at s 0) (key_parts (ranging 1 n (number_at s 0)) (1024 * cell s 0) h).0 }

  two_key : (s : List ℤ) → TwoAtoms s → atoms_key true n s ≡ 1024 * cell s 0 + cell s 1
  unfolding atoms_key pair_key
  two_key s f =
      key_is _ _ (ranging_of 1 n (number_at s 0) f.first.is f.first.low_is f.first.high_is)
      ∙ key_is _ _ (ranging_of (suc (cell s 0)) n (number_at s 1) f.second.is f.second.low_is f.second.high_is)

  two_there : (s : List ℤ) → 0 < atoms_key true n s → TwoAtoms s
  unfolding atoms_key pair_key
  two_there s h =
      let k : ℕ = key_if (ranging (suc (cell s 0)) n (number_at s 1)) (1024 * cell s 0 + cell s 1) in
      let p : (ranging 1 n (number_at s 0) ≡ true) × (key_if (ranging 1 n (number_at s 0)) k ≡ k) = key_parts (ranging 1 n (number_at s 0)) k h in
      let q = key_parts (ranging (suc (cell s 0)) n (number_at s 1)) (1024 * cell s 0 + cell s 1) (omega (arith, h, p.1)) in
      record { first = ranged_of 1 n (number_at s 0) p.0; second = ranged_of (suc (cell s 0)) n (number_at s 1) q.0 }

  -- as a row's atoms
  one_listed : (a : ℕ) → 1 ≤ a → a ≤ n → (all (within 1 n) (a ∷ []) ≡ true) × (ascends ltb (a ∷ []) ≡ true)
  one_listed a h k = (all_both (within 1 n) a [] (within_is 1 n a h k) (all_nil (within 1 n)), ascends_one ltb a)

  two_listed : (a b : ℕ) → 1 ≤ a → a ≤ n → suc a ≤ b → b ≤ n → (all (within 1 n) (a ∷ b ∷ []) ≡ true) × (ascends ltb (a ∷ b ∷ []) ≡ true)
  two_listed a b h k i j =
      (all_both (within 1 n) a (b ∷ []) (within_is 1 n a h k) (one_listed b (omega arith) j).0, ascends_both ltb a (b ∷ []) (lt-ltb a b i) (ascends_one ltb b))

  listed_one : (x : ℤ) (z : List ℤ) → pos (nat_abs x) ≡ x → all (within 1 n) (nat_abs x ∷ []) ≡ true → OneAtom (x ∷ z)
  listed_one x z e h = let p = within_true 1 n (nat_abs x) (all_parts (within 1 n) (nat_abs x) [] h).0 in record { first = record { is = e; low_is = p.0; high_is = p.1 } }

  listed_two : (x y : ℤ) (z : List ℤ) → pos (nat_abs x) ≡ x → pos (nat_abs y) ≡ y → all (within 1 n) (nat_abs x ∷ nat_abs y ∷ []) ≡ true → ascends ltb (nat_abs x ∷ nat_abs y ∷ []) ≡ true → TwoAtoms (x ∷ y ∷ z)
  listed_two x y z e f h o =
      let q = all_parts (within 1 n) (nat_abs x) (nat_abs y ∷ []) h in
      let p = within_true 1 n (nat_abs x) q.0 in
      let r = within_true 1 n (nat_abs y) (all_parts (within 1 n) (nat_abs y) [] q.1).0 in
      let a : nat_abs x < nat_abs y = ltb-true (nat_abs x) (nat_abs y) (ascends_parts ltb (nat_abs x) (nat_abs y ∷ []) o).0 in
      record { first = record { is = e; low_is = p.0; high_is = p.1 }; second = record { is = f; low_is = a; high_is = r.1 } }

-- THE GROUP
zero_test : (m : ℕ) → within 0 0 m ≡ eqb m 0
zero_test m =
    both_ways (within 0 0 m) (eqb m 0) (λ e. eq-eqb m 0 (omega (arith, (within_true 0 0 m e).1))) (λ e. within_is 0 0 m (omega arith) (omega (arith, eqb-true m 0 e)))

group_test : (m : ℕ) → group_fine true (pos m) ≡ (eqb m 0 || (upper m || lower m))
unfolding group_fine ranging
group_test m = rw (zero_test m)

group_there : (g : ℤ) → group_fine true g ≡ true → (pos (nat_abs g) ≡ g) × ((eqb (nat_abs g) 0 || (upper (nat_abs g) || lower (nat_abs g))) ≡ true)
unfolding group_fine ranging
group_there (pos m) h = (refl, sym (group_test m) ∙ h)
group_there (negsuc m) h = torn false h refl

group_back : (g : ℤ) → pos (nat_abs g) ≡ g → (eqb (nat_abs g) 0 || (upper (nat_abs g) || lower (nat_abs g))) ≡ true → group_fine true g ≡ true
group_back g e h = ap (group_fine true) (sym e) ∙ group_test (nat_abs g) ∙ h

-- two equal lists, number by number
at : (i : ℕ) (s t : List ℤ) → s ≡ t → number_at s i ≡ number_at t i
at i s t e = ap (λ (l : List ℤ). number_at l i) e

-- THE THREE LISTS
module _ (n : ℕ) where
  bond_there : (s : List ℤ) → 3 ≤ length s → 0 < record_key 2 1 5 false n s → (row_ok Bonds n (bond_at s) ≡ true) × (row_cells Bonds (bond_at s) ≡ take 3 s) × (key_of (bond_at s) ≡ record_key 2 1 5 false n s)
  unfolding record_key mark_fine group_fine ranged group_ok arity row_cells
  bond_there [] h k = absurd (omega arith)
  bond_there (x ∷ []) h k = absurd (omega arith)
  bond_there (x ∷ y ∷ []) h k = absurd (omega arith)
  bond_there (x ∷ y ∷ v ∷ z) h k =
      let s : List ℤ = x ∷ y ∷ v ∷ z in
      let p : ((ranging 1 5 v && true) ≡ true) × (key_if (ranging 1 5 v && true) (atoms_key true n s) ≡ atoms_key true n s) = key_parts (ranging 1 5 v && true) (atoms_key true n s) k in
      let f : TwoAtoms n s = two_there n s (omega (arith, k, p.1)) in
      let l = two_listed n (nat_abs x) (nat_abs y) f.first.low_is f.first.high_is f.second.low_is f.second.high_is in (
        fine_row Bonds n (row (nat_abs x ∷ nat_abs y ∷ []) v 0) (record { value = (and_parts (ranging 1 5 v) true p.0).0; group = refl; size = refl; listed = l.0; ascending = l.1 }),
        rw (f.first.is, f.second.is),
        sym (p.1 ∙ two_key n s f),
      )

  bond_back : (s : List ℤ) → 3 ≤ length s → row_ok Bonds n (bond_at s) ≡ true → row_cells Bonds (bond_at s) ≡ take 3 s → (0 < record_key 2 1 5 false n s) × (key_of (bond_at s) ≡ record_key 2 1 5 false n s)
  unfolding record_key mark_fine group_fine ranged row_cells
  bond_back [] h o e = absurd (omega arith)
  bond_back (x ∷ []) h o e = absurd (omega arith)
  bond_back (x ∷ y ∷ []) h o e = absurd (omega arith)
  bond_back (x ∷ y ∷ v ∷ z) h o e =
      let s : List ℤ = x ∷ y ∷ v ∷ z in
      let F : FineRow Bonds n (row (nat_abs x ∷ nat_abs y ∷ []) v 0) = row_fine_lem Bonds n (row (nat_abs x ∷ nat_abs y ∷ []) v 0) o in
      let f : TwoAtoms n s = listed_two n x y (v ∷ z) (at 0 _ _ e) (at 1 _ _ e) F.listed F.ascending in
      let q : record_key 2 1 5 false n s ≡ 1024 * nat_abs x + nat_abs y = key_is (ranging 1 5 v && true) (atoms_key true n s) (and_both (ranging 1 5 v) true F.value refl) ∙ two_key n s f in
      (omega (arith, q, f.first.low_is), sym q)

  centre_there : (s : List ℤ) → 3 ≤ length s → 0 < record_key 1 1 2 true n s →
      (row_ok Centres n (marked_at 1 s) ≡ true) × (row_cells Centres (marked_at 1 s) ≡ take 3 s) × (key_of (marked_at 1 s) ≡ record_key 1 1 2 true n s)
  unfolding record_key mark_fine ranged group_ok arity row_cells
  centre_there [] h k = absurd (omega arith)
  centre_there (x ∷ []) h k = absurd (omega arith)
  centre_there (x ∷ v ∷ []) h k = absurd (omega arith)
  centre_there (x ∷ v ∷ g ∷ z) h k =
      let s : List ℤ = x ∷ v ∷ g ∷ z in
      let m : Bool = ranging 1 2 v && group_fine true g in
      let p : (m ≡ true) × (key_if m (atoms_key false n s) ≡ atoms_key false n s) = key_parts m (atoms_key false n s) k in
      let q = and_parts (ranging 1 2 v) (group_fine true g) p.0 in
      let r = group_there g q.1 in
      let f : OneAtom n s = one_there n s (omega (arith, k, p.1)) in
      let l = one_listed n (nat_abs x) f.first.low_is f.first.high_is in (
        fine_row Centres n (row (nat_abs x ∷ []) v (nat_abs g)) (record { value = q.0; group = r.1; size = refl; listed = l.0; ascending = l.1 }),
        rw (f.first.is, r.0),
        omega (arith, p.1, one_key n s f),
      )

  centre_back : (s : List ℤ) → 3 ≤ length s → row_ok Centres n (marked_at 1 s) ≡ true → row_cells Centres (marked_at 1 s) ≡ take 3 s →
      (0 < record_key 1 1 2 true n s) × (key_of (marked_at 1 s) ≡ record_key 1 1 2 true n s)
  unfolding record_key mark_fine ranged group_ok row_cells
  centre_back [] h o e = absurd (omega arith)
  centre_back (x ∷ []) h o e = absurd (omega arith)
  centre_back (x ∷ v ∷ []) h o e = absurd (omega arith)
  centre_back (x ∷ v ∷ g ∷ z) h o e =
      let s : List ℤ = x ∷ v ∷ g ∷ z in
      let F : FineRow Centres n (row (nat_abs x ∷ []) v (nat_abs g)) = row_fine_lem Centres n (row (nat_abs x ∷ []) v (nat_abs g)) o in
      let f : OneAtom n s = listed_one n x (v ∷ g ∷ z) (at 0 _ _ e) F.listed in
      let q : record_key 1 1 2 true n s ≡ 1024 * nat_abs x =
      key_is (ranging 1 2 v && group_fine true g) (atoms_key false n s) (and_both (ranging 1 2 v) (group_fine true g) F.value (group_back g (at 2 _ _ e) F.group)) ∙ one_key n s f in
      (omega (arith, q, f.first.low_is), omega (arith, q))

  pair_there : (s : List ℤ) → 4 ≤ length s → 0 < record_key 2 0 2 true n s →
      (row_ok Pairs n (marked_at 2 s) ≡ true) × (row_cells Pairs (marked_at 2 s) ≡ take 4 s) × (key_of (marked_at 2 s) ≡ record_key 2 0 2 true n s)
  unfolding record_key mark_fine ranged group_ok arity row_cells
  pair_there [] h k = absurd (omega arith)
  pair_there (x ∷ []) h k = absurd (omega arith)
  pair_there (x ∷ y ∷ []) h k = absurd (omega arith)
  pair_there (x ∷ y ∷ v ∷ []) h k = absurd (omega arith)
  pair_there (x ∷ y ∷ v ∷ g ∷ z) h k =
      let s : List ℤ = x ∷ y ∷ v ∷ g ∷ z in
      let m : Bool = ranging 0 2 v && group_fine true g in
      let p : (m ≡ true) × (key_if m (atoms_key true n s) ≡ atoms_key true n s) = key_parts m (atoms_key true n s) k in
      let q = and_parts (ranging 0 2 v) (group_fine true g) p.0 in
      let r = group_there g q.1 in
      let f : TwoAtoms n s = two_there n s (omega (arith, k, p.1)) in
      let l = two_listed n (nat_abs x) (nat_abs y) f.first.low_is f.first.high_is f.second.low_is f.second.high_is in (
        fine_row Pairs n (row (nat_abs x ∷ nat_abs y ∷ []) v (nat_abs g)) (record { value = q.0; group = r.1; size = refl; listed = l.0; ascending = l.1 }),
        rw (f.first.is, f.second.is, r.0),
        sym (p.1 ∙ two_key n s f),
      )

  pair_back : (s : List ℤ) → 4 ≤ length s → row_ok Pairs n (marked_at 2 s) ≡ true → row_cells Pairs (marked_at 2 s) ≡ take 4 s →
      (0 < record_key 2 0 2 true n s) × (key_of (marked_at 2 s) ≡ record_key 2 0 2 true n s)
  unfolding record_key mark_fine ranged group_ok row_cells
  pair_back [] h o e = absurd (omega arith)
  pair_back (x ∷ []) h o e = absurd (omega arith)
  pair_back (x ∷ y ∷ []) h o e = absurd (omega arith)
  pair_back (x ∷ y ∷ v ∷ []) h o e = absurd (omega arith)
  pair_back (x ∷ y ∷ v ∷ g ∷ z) h o e =
      let s : List ℤ = x ∷ y ∷ v ∷ g ∷ z in
      let r : Row = row (nat_abs x ∷ nat_abs y ∷ []) v (nat_abs g) in
      let F : FineRow Pairs n r = row_fine_lem Pairs n r o in
      let f : TwoAtoms n s = listed_two n x y (v ∷ g ∷ z) (at 0 _ _ e) (at 1 _ _ e) F.listed F.ascending in
      let q : record_key 2 0 2 true n s ≡ 1024 * nat_abs x + nat_abs y =
      key_is (ranging 0 2 v && group_fine true g) (atoms_key true n s) (and_both (ranging 0 2 v) (group_fine true g) F.value (group_back g (at 3 _ _ e) F.group)) ∙ two_key n s f in
      (omega (arith, q, f.first.low_is), sym q)

  -- how many numbers a record has
  bond_wide : (s : List ℤ) → 3 ≤ length s → length (row_cells Bonds (bond_at s)) ≡ 3
  unfolding row_cells
  bond_wide [] h = absurd (omega arith)
  bond_wide (x ∷ []) h = absurd (omega arith)
  bond_wide (x ∷ y ∷ s) h = refl

  centre_wide : (s : List ℤ) → 3 ≤ length s → length (row_cells Centres (marked_at 1 s)) ≡ 3
  unfolding row_cells
  centre_wide [] h = absurd (omega arith)
  centre_wide (x ∷ s) h = refl

  pair_wide : (s : List ℤ) → 4 ≤ length s → length (row_cells Pairs (marked_at 2 s)) ≡ 4
  unfolding row_cells
  pair_wide [] h = absurd (omega arith)
  pair_wide (x ∷ []) h = absurd (omega arith)
  pair_wide (x ∷ y ∷ s) h = refl

  pub bonds_say : Says Bonds n 3 bond_at (record_key 2 1 5 false n)
  bonds_say = record { wide = bond_wide; there = bond_there; back = bond_back }

  pub centres_say : Says Centres n 3 (marked_at 1) (record_key 1 1 2 true n)
  centres_say = record { wide = centre_wide; there = centre_there; back = centre_back }

  pub pairs_say : Says Pairs n 4 (marked_at 2) (record_key 2 0 2 true n)
  pairs_say = record { wide = pair_wide; there = pair_there; back = pair_back }
