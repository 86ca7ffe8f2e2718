-- Records stand at their places: in the table of a well-formed structure, row i of a list, atom i and text i are found where `row_place`, `atom_place` and `text_place`
-- have them. Document 01, "The structure table". Assumes nothing.
use Prim.Native.Nat.{ℕ, zero, suc, ◌+◌, ◌-◌, ◌*◌, ◌<◌}
use mathlib.Core.Path.{◌≡◌, refl, sym, ap, ◌∙◌}
use mathlib.Core.Bool.{Bool, true}
use mathlib.Core.List.{List, [], ◌∷◌, ◌++◌, append_assoc, append-nil}
use native.Mathlib.Omega.{arith}
use lib.ListN.{length, get_or, take, drop, replicate}
use lib.Seq.{drop-cons, take_at, drop-drop}
use lib.IntN.{ℤ, pos}
use Rattle.lists.specs.Lists.{all, flat, filled}
use Rattle.lists.proofs.ListLaws.{all_at}
use Rattle.lists.proofs.PartLaws.{flat_behind, filled_is}
use Rattle.lists.proofs.RegionLaws.{flat_drop}
use Rattle.format.specs.Labels.{ListOf, Bonds, Charges, Radicals, Centres, Pairs}
use Rattle.format.specs.Rows.{Row}
use Rattle.format.specs.Structure.{Atom, Structure, rows_of, most, row_ok, well_formed}
use Rattle.format.specs.Reading.{Span}
use Rattle.format.specs.Table.{base, width, row_place, atom_place, text_place, atom_cells, row_cells, rows_part, counts, span_cells, encode}
use Rattle.format.proofs.Places.{place_in}
use Rattle.demands.specs.Places.{numbers_at, atom_numbers}
use Rattle.demands.proofs.WayBack.{Fine, fine_structure}
use Rattle.demands.proofs.WayBackDecoded.{row_wide}
use Rattle.demands.proofs.WayBackSound.{from_atoms, from_bonds, from_charges, from_radicals, from_centres, from_pairs}

-- ROWS OF ONE WIDTH: row i starts at i widths
module _ {A B : Type 0} (w : ℕ) (cells : A → List B) (fine : A → Bool) (wide : (x : A) → fine x ≡ true → length (cells x) ≡ w) where
  row_at : (other : A) (xs : List A) (z : List B) (i : ℕ) → i < length xs → all fine xs ≡ true → take w (drop (w * i) (flat cells xs ++ z)) ≡ cells (get_or xs i other)
  row_at other xs z i h f =
      let x : A = get_or xs i other in
      ap (take w) (flat_drop w cells fine wide i xs z (omega arith) f ∙ ap (λ (l : List A). flat cells l ++ z) (drop-cons xs i other h) ∙ flat_behind cells x (drop (suc i) xs) z)
      ∙ take_at (cells x) _ w (wide x (all_at fine other xs i f h))

atom_at_lem : (cs rs : List Row) (other : Atom) (n : ℕ) (atoms : List Atom) (z : List ℤ) (i : ℕ) → i < length atoms →
    take 5 (drop (5 * i) (atom_cells n cs rs atoms ++ z)) ≡ atom_cells (n + i) cs rs (get_or atoms i other ∷ [])
unfolding atom_cells
atom_at_lem cs rs other n [] z i h = absurd (omega arith)
atom_at_lem cs rs other n (a ∷ rest) z zero h = let q : n ≡ n + 0 = omega arith in ap (λ (m : ℕ). atom_cells m cs rs (a ∷ [])) q
atom_at_lem cs rs other n (a ∷ rest) z (suc i) h =
    let q : 5 * suc i ≡ suc (suc (suc (suc (suc (5 * i))))) = omega arith in
    let r : suc n + i ≡ n + suc i = omega arith in
    ap (λ (m : ℕ). take 5 (drop m (atom_cells n cs rs (a ∷ rest) ++ z))) q ∙ atom_at_lem cs rs other (suc n) rest z i (omega arith) ∙ ap (λ (m : ℕ). atom_cells m cs rs (get_or rest i other ∷ [])) r

-- a region filled up with zeros, and what stands behind it
filled_front : (n : ℕ) (l z : List ℤ) → filled (pos 0) n l ++ z ≡ l ++ (replicate (n - length l) (pos 0) ++ z)
filled_front n l z = ap (λ (r : List ℤ). r ++ z) (filled_is (pos 0) n l) ∙ append_assoc l (replicate (n - length l) (pos 0)) z

module _ (k : ℕ) (s : Structure) (a b c : Span) (ok : well_formed k s ≡ true) where
  abbrev table : List ℤ
  table = encode s (a ∷ b ∷ c ∷ [])

  keeps : Fine k s
  keeps = fine_structure k s ok

  -- what stands from a list's first record on
  list_from : (l : ListOf) → (z : List ℤ) × (drop (base l) table ≡ rows_part s l ++ z)
  unfolding base
  list_from Bonds = (_, ap (drop 1296) (sym (append-nil table)) ∙ from_bonds k s keeps a b c [])
  list_from Charges = (_, ap (drop 2832) (sym (append-nil table)) ∙ from_charges k s keeps a b c [])
  list_from Radicals = (_, ap (drop 2896) (sym (append-nil table)) ∙ from_radicals k s keeps a b c [])
  list_from Centres = (_, ap (drop 2960) (sym (append-nil table)) ∙ from_centres k s keeps a b c [])
  list_from Pairs = (_, ap (drop 3344) (sym (append-nil table)) ∙ from_pairs k s keeps a b c [])

  pub row_in_place : (l : ListOf) (i : ℕ) (other : Row) → i < length (rows_of l s) → numbers_at (row_place l i) (width l) (encode s (a ∷ b ∷ c ∷ [])) ≡ row_cells l (get_or (rows_of l s) i other)
  unfolding row_place rows_part
  row_in_place l i other h =
      let w : ℕ = width l in
      let F : List ℤ = flat (row_cells l) (rows_of l s) in
      let p : (z : List ℤ) × (drop (base l) table ≡ rows_part s l ++ z) = list_from l in
      ap (λ (m : ℕ). take w (drop m table)) (place_in (base l) w (most l) i (omega (arith, (keeps.rows l).few)))
      ∙ ap (take w) (sym (drop-drop (w * i) (base l) table) ∙ ap (drop (w * i)) (p.1 ∙ filled_front (w * most l) F p.0))
      ∙ row_at w (row_cells l) (row_ok l (length s.atoms)) (row_wide (length s.atoms) l) other (rows_of l s) _ i h (keeps.rows l).fine

  pub atom_in_place : (i : ℕ) (other : Atom) → i < length s.atoms → numbers_at (atom_place i) 5 (encode s (a ∷ b ∷ c ∷ [])) ≡ atom_numbers s i other
  unfolding atom_place
  atom_in_place i other h =
      let F : List ℤ = atom_cells 1 s.charges s.radicals s.atoms in
      let q : 1 + i ≡ suc i = omega arith in
      ap (λ (m : ℕ). take 5 (drop m table)) (place_in 16 5 256 i (omega (arith, keeps.high)))
      ∙ ap (take 5) (sym (drop-drop (5 * i) 16 table) ∙ ap (drop (5 * i)) (ap (drop 16) (sym (append-nil table)) ∙ from_atoms k s keeps a b c [] ∙ filled_front 1280 F _))
      ∙ atom_at_lem s.charges s.radicals other 1 s.atoms _ i h ∙ ap (λ (m : ℕ). atom_cells m s.charges s.radicals (get_or s.atoms i other ∷ [])) q

-- the texts' places are three, and any structure's table has them
pub text_in_place : (s : Structure) (a b c : Span) (i : ℕ) (other : Span) → i < 3 → numbers_at (text_place i) 2 (encode s (a ∷ b ∷ c ∷ [])) ≡ span_cells (get_or (a ∷ b ∷ c ∷ []) i other)
unfolding text_place encode counts flat
text_in_place s a b c zero other h = refl
text_in_place s a b c (suc zero) other h = refl
text_in_place s a b c (suc (suc zero)) other h = refl
text_in_place s a b c (suc (suc (suc i))) other h = absurd (omega arith)
