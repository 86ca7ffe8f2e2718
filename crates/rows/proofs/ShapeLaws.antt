-- The shape of a row from its parts, once over the number of atoms, the letters and what may follow; the shape of an atom's row and of a row of XYZ; and the answer
-- that a shape gives: document 01, "Rows"; document 02, L2. Assumes nothing.
use Prim.Native.Nat.{ℕ, suc}
use Prim.Native.String.{String}
use mathlib.Core.Path.{◌≡◌, refl, sym, ap, ◌∙◌}
use mathlib.Core.Bool.{Bool, cond}
use Rattle.std.specs.declared.option.Option.{Option}
use Rattle.std.specs.declared.option.Option.TheVariants.{None, Some}
use mathlib.Core.List.{List, [], ◌∷◌}
use lib.IntN.{pos}
use lib.ListN.{drop}
use Rattle.lists.specs.Lists.{is_nil}
use Rattle.format.specs.Bytes.{Bytes, bytes, fields}
use Rattle.format.specs.Rows.{◌and_then◌, Sym, number, symbol, field, optional, nothing_more, place_in, first_numbers, atom_shape, row, marked}
use Rattle.format.specs.Coordinates.{xyz_shape}
use Rattle.fields.specs.NextFields.{field_in, NextField}
use Rattle.fields.specs.declared.Field.{Field}
use Rattle.rows.specs.Parts.{Behind}
use Rattle.rows.proofs.PartLaws.{field_behind, behind_next}

-- THE END of a row, or a field too many
abbrev pub end_or_none : (end : Bool) → Option ℕ
end_or_none t = cond t (Some 0) None

pub at_end_is : (fs : List Bytes) (t : Bool) → t ≡ is_nil fs → end_or_none t ≡ optional nothing_more fs
at_end_is [] t e = rw e refl
at_end_is (f ∷ []) t e = rw e refl
at_end_is (f ∷ g ∷ fs) t e = rw e refl

-- ATOMS, A LETTER, AND WHAT MAY FOLLOW
module _ (n from : ℕ) (letters : String) (last : Bytes → Option ℕ) (line : Bytes) where
  pub no_atoms : first_numbers n (fields line) ≡ None → None ≡ marked n from letters last (fields line)
  unfolding marked
  no_atoms e = sym (rw (e, ◌and_then◌))

  pub marked_is : (ns : List ℕ) → first_numbers n (fields line) ≡ Some ns → (at : ℕ) → Behind line n at → (f : Field) → NextField line at f
      → (v g : Option ℕ) → v ≡ place_in from (field_in line f) (bytes letters) → g ≡ optional last (fields (drop f.to line))
      → (v and_then λ v. g and_then λ g. Some (row ns (pos v) g)) ≡ marked n from letters last (fields line)
  unfolding marked
  marked_is ns a at b f next v g p q =
      let letter : place_in from (field n (fields line)) (bytes letters) ≡ v = sym (p ∙ ap (λ (w : Bytes). place_in from w (bytes letters)) (field_behind line at f next n b)) in
      let rest : optional last (drop (suc n) (fields line)) ≡ g = sym (q ∙ ap (optional last) (behind_next line at f next n b).rest) in
      sym (rw (a, letter, rest) refl)

-- AN ATOM'S ROW
pub no_number : (fs : List Bytes) → number (field 0 fs) ≡ None → None ≡ atom_shape fs
unfolding atom_shape
no_number fs e = sym (rw (e, ◌and_then◌))

pub atom_is : (line : Bytes) (n : ℕ) → number (field 0 (fields line)) ≡ Some n → (at : ℕ) → Behind line 1 at → (f : Field) → NextField line at f
    → (x : Option Sym) (h : Option ℕ) → x ≡ symbol (field_in line f) → h ≡ optional number (fields (drop f.to line))
    → (x and_then λ x. h and_then λ h. Some (record { number = n; symbol = x; hydrogens = h })) ≡ atom_shape (fields line)
unfolding atom_shape
atom_is line n a at b f next x h p q =
    let letters : symbol (field 1 (fields line)) ≡ x = sym (p ∙ ap symbol (field_behind line at f next 1 b)) in
    let rest : optional number (drop 2 (fields line)) ≡ h = sym (q ∙ ap (optional number) (behind_next line at f next 1 b).rest) in
    sym (rw (a, letters, rest) refl)

-- A ROW OF XYZ
pub no_atom : (fs : List Bytes) → number (field 0 fs) ≡ None → None ≡ xyz_shape fs
unfolding xyz_shape
no_atom fs e = sym (rw (e, ◌and_then◌))
