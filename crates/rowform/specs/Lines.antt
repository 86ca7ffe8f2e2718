-- The lines of atoms and rows as they stand in a table: document 01, "The structure table" and "The one written form". Assumes nothing.
use Rattle.std.specs.Prelude.{ℕ, ◌+◌, ◌*◌, ◌<◌, ◌≡◌, Bool, true, false, List, [], ◌∷◌, ◌++◌, map, length, get_or, ℤ, pos}
use Rattle.format.specs.Bytes.{Bytes}
use Rattle.format.specs.Labels.{ListOf, Bonds, Charges, Radicals, Centres, Pairs}
use Rattle.format.specs.Rows.{Row, row}
use Rattle.format.specs.Structure.{isotope_of, Atom, rows_of}
use Rattle.format.specs.Table.{cell, decode}
use Rattle.format.specs.Writing.{digits, unless_zero, line, atom_words, row_words}
use Rattle.printing.specs.Printing.{Printed}
use Rattle.printing.specs.declared.Sheet.{Sheet}
use Rattle.rowform.specs.declared.Listed.{Listed}
use Rattle.rowform.specs.declared.Listed.TheVariants.{Bond, Charge, Radical, Centre, Pair}

-- the letter of a row and its group, as words: "group 0 left out"
abbrev pub mark_words : (letter group : ℕ) → List Bytes
mark_words l g = (l ∷ []) ∷ unless_zero g (g ∷ [])

-- a row with a letter, of so many atoms
abbrev pub mark_line : (atoms : List ℕ) → (letter group : ℕ) → Bytes
mark_line ns l g = line (map digits ns ++ mark_words l g)

-- an atom of a table; the first has index 0
abbrev pub atom_no : List ℤ → ℕ → Atom
atom_no t i = record { kind = isotope_of (cell t (16 + 5 * i)) (cell t (16 + 5 * i + 1)); hydrogens = cell t (16 + 5 * i + 2) }

abbrev pub atom_line : List ℤ → ℕ → Bytes
atom_line t i = line (atom_words (i + 1) (atom_no t i))

-- an atom's number behind a space, if it is a member
abbrev pub member_of : Bool → ℕ → Bytes
member_of true n = 32 ∷ digits n
member_of false n = []

-- the list that is meant
abbrev pub list_of : Listed → ListOf
list_of Bond = Bonds
list_of Charge = Charges
list_of Radical = Radicals
list_of Centre = Centres
list_of Pair = Pairs

-- a row of a list of a table, and what printing it promises: its group is a byte wherever the table is sound
unfoldable pub row_no : ListOf → List ℤ → ℕ → Row
row_no l t i = get_or (rows_of l (decode t)) i (row [] (pos 0) 0)

abbrev pub RowLaid : ListOf → List ℤ → (i : ℕ) (before later : Sheet) → Type 0
RowLaid l t i s s' = i < length (rows_of l (decode t)) → (row_no l t i).group < 256 → Printed s (line (row_words l (row_no l t i))) s'

-- whatever is printed, and where nothing is promised of it too: the sheet's buffer is still the one that was lent, as long as it was
pub record Lent (before later : Sheet) : Type 0 where
  pub lent : later.buffer.ghost_name ≡ before.buffer.ghost_name
  pub size : length later.buffer.now ≡ length before.buffer.now
