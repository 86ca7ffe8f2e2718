-- The atoms' records: each number is in its range if and only if the atoms are those of the list and the records are their own, where the rows' numbers are those of the
-- records. Serves document 01, "The structure table" ("element, mass (0 none), implied hydrogens, charge row, radical row (from 1; 0 none)"). Assumes nothing.
use Prim.Native.Nat.{ℕ, zero, suc, ◌+◌, ◌*◌, ◌≤◌, ◌<◌}
use mathlib.Core.Path.{◌≡◌, refl, sym, ap, ◌∙◌}
use mathlib.Core.Bool.{Bool, true, false}
use mathlib.Core.List.{List, [], ◌∷◌, ◌++◌, map}
use native.Mathlib.Nat.{mul-suc}
use native.Mathlib.Omega.{arith}
use lib.ListN.{length, get_or, take, drop}
use lib.Seq.{take-add, get_or-take}
use lib.IntN.{ℤ, pos, nat_abs}
use lib.Dec.{leb}
use borrow.Author.Tests.{leb-true, le-leb}
use Rattle.lists.specs.Lists.{all, rows_from}
use Rattle.lists.proofs.Bools.{and_parts, and_both}
use Rattle.format.specs.Bytes.{within, is_in}
use Rattle.format.specs.Rows.{Row}
use Rattle.format.specs.Structure.{ranging, atom_ok}
use Rattle.format.specs.Table.{cell, row_with, atom_cells, atom_at}
use Rattle.format.proofs.ByteLaws.{within_true, within_is}
use Rattle.soundness.specs.Numbered.{column, up_to}
use Rattle.soundness.specs.Sounding.{number_at, atom_fine}
use Rattle.soundness.proofs.SplitLaws.{Ranged, ranged_of, ranging_of, ranging_pos}

abbrev pub records : (n : ℕ) → List ℤ → List (List ℤ)
records n s = rows_from 5 (take 5) n s

-- ONE RECORD: its five numbers
pub record FineAtom (k cs rs : ℕ) (s : List ℤ) : Type 0 where
  pub element : Ranged 1 k (number_at s 0)
  pub mass : Ranged 0 300 (number_at s 1)
  pub hydrogens : Ranged 0 15 (number_at s 2)
  pub charge : Ranged 0 cs (number_at s 3)
  pub radical : Ranged 0 rs (number_at s 4)

fine_atom : (k cs rs : ℕ) (s : List ℤ) → atom_fine k cs rs s ≡ true → FineAtom k cs rs s
unfolding atom_fine
fine_atom k cs rs s h =
    let a = and_parts (ranging 1 k (number_at s 0)) _ h in
    let b = and_parts (ranging 0 300 (number_at s 1)) _ a.1 in
    let c = and_parts (ranging 0 15 (number_at s 2)) _ b.1 in
    let d = and_parts (ranging 0 cs (number_at s 3)) (ranging 0 rs (number_at s 4)) c.1 in
    record {
      element = ranged_of 1 k (number_at s 0) a.0;
      mass = ranged_of 0 300 (number_at s 1) b.0;
      hydrogens = ranged_of 0 15 (number_at s 2) c.0;
      charge = ranged_of 0 cs (number_at s 3) d.0;
      radical = ranged_of 0 rs (number_at s 4) d.1;
    }

-- a row's number is at most the count of rows
row_most : (from m : ℕ) (rs : List Row) → row_with (suc from) m rs ≤ from + length rs
unfolding row_with
row_most from m [] = omega arith
row_most from m (r ∷ rs) = by (is_in m r.atoms) (row_most (suc from) m rs)
  where
    by : (t : Bool) → row_with (suc (suc from)) m rs ≤ suc from + length rs → elim t [ true ↦ suc from | false ↦ row_with (suc (suc from)) m rs ] ≤ from + suc (length rs)
    by true h = omega arith
    by false h = omega arith

more : (n : ℕ) (s : List ℤ) → take (5 * suc n) s ≡ take 5 s ++ take (5 * n) (drop 5 s)
more n s = let q : 5 * suc n ≡ 5 + 5 * n = omega (arith, mul-suc 5 n) in ap (λ (m : ℕ). take m s) q ∙ take-add 5 (5 * n) s

module _ (k : ℕ) (cs rs : List Row) where
  atom_there : (e m h x y : ℤ) (z : List ℤ) (i : ℕ) → atom_ok k (atom_at (e ∷ m ∷ h ∷ x ∷ y ∷ [])) ≡ true → pos (nat_abs e) ≡ e → pos (nat_abs m) ≡ m → pos (nat_abs h) ≡ h →
      pos (row_with 1 i cs) ≡ x → pos (row_with 1 i rs) ≡ y → atom_fine k (length cs) (length rs) (e ∷ m ∷ h ∷ x ∷ y ∷ z) ≡ true
  unfolding atom_ok atom_fine
  atom_there e m h x y z i ok a b c p q =
      let u = and_parts (within 1 k (nat_abs e)) _ ok in
      let v = and_parts (leb (nat_abs m) 300) (leb (nat_abs h) 15) u.1 in
      let w = within_true 1 k (nat_abs e) u.0 in
      rw (
        ranging_of 1 k e a w.0 w.1,
        ranging_of 0 300 m b (omega arith) (leb-true (nat_abs m) 300 v.0),
        ranging_of 0 15 h c (omega arith) (leb-true (nat_abs h) 15 v.1),
        ap (ranging 0 (length cs)) (sym p) ∙ ranging_pos 0 (length cs) (row_with 1 i cs) (omega arith) (omega (arith, row_most 0 i cs)),
      )
      (ap (ranging 0 (length rs)) (sym q) ∙ ranging_pos 0 (length rs) (row_with 1 i rs) (omega arith) (omega (arith, row_most 0 i rs)))

  pub atoms_there : (n : ℕ) (s : List ℤ) (i : ℕ) → 5 * n ≤ length s → all (atom_ok k) (map atom_at (records n s)) ≡ true → atom_cells i cs rs (map atom_at (records n s)) ≡ take (5 * n) s →
      all (λ b. b) (rows_from 5 (atom_fine k (length cs) (length rs)) n s) ≡ true
  unfolding rows_from atom_cells all
  atoms_there zero s i l o e = refl
  atoms_there (suc n) [] i l o e = absurd (omega (arith, mul-suc 5 n))
  atoms_there (suc n) (a ∷ []) i l o e = absurd (omega (arith, mul-suc 5 n))
  atoms_there (suc n) (a ∷ b ∷ []) i l o e = absurd (omega (arith, mul-suc 5 n))
  atoms_there (suc n) (a ∷ b ∷ c ∷ []) i l o e = absurd (omega (arith, mul-suc 5 n))
  atoms_there (suc n) (a ∷ b ∷ c ∷ x ∷ []) i l o e = absurd (omega (arith, mul-suc 5 n))
  atoms_there (suc n) (a ∷ b ∷ c ∷ x ∷ y ∷ z) i l o e =
      let p = and_parts (atom_ok k (atom_at (a ∷ b ∷ c ∷ x ∷ y ∷ []))) (all (atom_ok k) (map atom_at (records n z))) o in
      let f = e ∙ more n (a ∷ b ∷ c ∷ x ∷ y ∷ z) in
      let at : (j : ℕ) → _ = λ j. ap (λ (u : List ℤ). number_at u j) f in
      and_both (atom_fine k (length cs) (length rs) (a ∷ b ∷ c ∷ x ∷ y ∷ z)) _ (atom_there a b c x y z i p.0 (at 0) (at 1) (at 2) (at 3) (at 4))
      (atoms_there n z (suc i) (omega (arith, mul-suc 5 n)) p.1 (ap (drop 5) f))

-- WHERE EACH IS FINE
module _ (k c r : ℕ) where
  -- the rows' numbers are within their counts
  pub columns_fine : (n : ℕ) (s : List ℤ) → all (λ b. b) (rows_from 5 (atom_fine k c r) n s) ≡ true → (up_to c (column 3 (records n s)) ≡ true) × (up_to r (column 4 (records n s)) ≡ true)
  unfolding rows_from column all
  columns_fine zero s h = (refl, refl)
  columns_fine (suc n) s h =
      let p = and_parts (atom_fine k c r s) (all (λ b. b) (rows_from 5 (atom_fine k c r) n (drop 5 s))) h in
      let f : FineAtom k c r s = fine_atom k c r s p.0 in
      let q = columns_fine n (drop 5 s) p.1 in
      let x : cell (take 5 s) 3 ≡ cell s 3 = ap nat_abs (get_or-take 5 s 3 (pos 0) (omega arith)) in
      let y : cell (take 5 s) 4 ≡ cell s 4 = ap nat_abs (get_or-take 5 s 4 (pos 0) (omega arith)) in (
        and_both (leb (cell (take 5 s) 3) c) _ (le-leb (cell (take 5 s) 3) c (omega (arith, x, f.charge.high_is))) q.0,
        and_both (leb (cell (take 5 s) 4) r) _ (le-leb (cell (take 5 s) 4) r (omega (arith, y, f.radical.high_is))) q.1,
      )

  module _ (cs rs : List Row) where
    pub atoms_back : (n : ℕ) (s : List ℤ) (m : ℕ) → 5 * n ≤ length s → all (λ b. b) (rows_from 5 (atom_fine k c r) n s) ≡ true →
        ((i : ℕ) → i < n → row_with 1 (m + i) cs ≡ cell (get_or (records n s) i []) 3) → ((i : ℕ) → i < n → row_with 1 (m + i) rs ≡ cell (get_or (records n s) i []) 4) →
        (all (atom_ok k) (map atom_at (records n s)) ≡ true) × (atom_cells m cs rs (map atom_at (records n s)) ≡ take (5 * n) s)
    unfolding rows_from atom_cells all atom_ok
    atoms_back zero s m l h f g = (refl, refl)
    atoms_back (suc n) [] m l h f g = absurd (omega (arith, mul-suc 5 n))
    atoms_back (suc n) (a ∷ []) m l h f g = absurd (omega (arith, mul-suc 5 n))
    atoms_back (suc n) (a ∷ b ∷ []) m l h f g = absurd (omega (arith, mul-suc 5 n))
    atoms_back (suc n) (a ∷ b ∷ d ∷ []) m l h f g = absurd (omega (arith, mul-suc 5 n))
    atoms_back (suc n) (a ∷ b ∷ d ∷ x ∷ []) m l h f g = absurd (omega (arith, mul-suc 5 n))
    atoms_back (suc n) (a ∷ b ∷ d ∷ x ∷ y ∷ z) m l h f g =
        let s : List ℤ = a ∷ b ∷ d ∷ x ∷ y ∷ z in
        let p = and_parts (atom_fine k c r s) (all (λ b. b) (rows_from 5 (atom_fine k c r) n z)) h in
        let F : FineAtom k c r s = fine_atom k c r s p.0 in
        let q = atoms_back n z (suc m) (omega (arith, mul-suc 5 n)) p.1 (λ i j. ap (λ (v : ℕ). row_with 1 v cs) (next m i) ∙ f (suc i) (omega arith)) (λ i j. ap (λ (v : ℕ). row_with 1 v rs) (next m i) ∙ g (suc i) (omega arith)) in
        let o : m ≡ m + 0 = omega arith in
        let u : pos (row_with 1 m cs) ≡ x = ap (λ (v : ℕ). pos (row_with 1 v cs)) o ∙ ap pos (f 0 (omega arith)) ∙ F.charge.is in
        let w : pos (row_with 1 m rs) ≡ y = ap (λ (v : ℕ). pos (row_with 1 v rs)) o ∙ ap pos (g 0 (omega arith)) ∙ F.radical.is in (
          rw (within_is 1 k (nat_abs a) F.element.low_is F.element.high_is, le-leb (nat_abs b) 300 F.mass.high_is, le-leb (nat_abs d) 15 F.hydrogens.high_is) q.0,
          rw (F.element.is, F.mass.is, F.hydrogens.is, u, w, q.1) (sym (more n s)),
        )
      where
        next : (m i : ℕ) → suc m + i ≡ m + suc i
        next m i = omega arith
