-- What an accepted block is read as, said of its lines and rows alone: document 01, "The structure table", and document 02, L4. The structure has the atoms in their
-- order, the rows of each list without repeats and sorted, the block id, and is handed where the YES stands; the texts stand where their records do. Assumes nothing.
use Rattle.std.specs.Prelude.{ℕ, ◌+◌, ◌-◌, Bool, true, false, not, List, [], ◌∷◌, ◌++◌, map, reverse, length, eqb}
use Rattle.lists.specs.Lists.{is_nil, flat}
use Rattle.lists.specs.Order.{sort}
use Rattle.lists.specs.Folding.{kept}
use Rattle.format.specs.Bytes.{Bytes, cut, fields, strip}
use Rattle.format.specs.Labels.{ListOf, Bonds, Charges, Radicals, Centres, Pairs, Holds, Text, Version, Formula, BlockId, Atoms, Rows, Xyz, Handedness, End, Skipped, Line, Plain, Unparted, Labelled, line_of}
use Rattle.format.specs.Rows.{Row, number, field}
use Rattle.format.specs.Coordinates.{Geometry, geometry}
use Rattle.format.specs.Structure.{Structure, meets, row_before}
use Rattle.format.specs.Reading.{Prose, prose, Span, span_of}
use Rattle.format.specs.Walking.{until_label, value_of}
use Rattle.demands.specs.Accepted.{listed, value_in, told_of, atom_rows, list_rows, atom_of, yes_rows, xyz_rows, greatest_in, factor_in}

-- "block id (0 none)"
abbrev pub ids_in : Bytes → List ℕ
ids_in b = flat (λ v. listed (number (field 0 (fields (strip v))))) (flat (value_in BlockId) (told_of b))

abbrev pub id_as : List ℕ → ℕ
id_as [] = 0
id_as (n ∷ ns) = n

-- "The same pair and kind again is dropped"; "Bonds, centres and pairs ascend by their atoms. Charge and radical rows ascend by lowest atom, the row without
-- atoms last."
abbrev pub rows_in_order : ListOf → Bytes → List Row
rows_in_order l b = sort row_before (kept (meets l) [] (list_rows l b))

abbrev pub structure_in : (k : ℕ) → Bytes → Structure
structure_in k b = record {
  atoms = map (atom_of k) (atom_rows b);
  bonds = rows_in_order Bonds b;
  charges = rows_in_order Charges b;
  radicals = rows_in_order Radicals b;
  centres = rows_in_order Centres b;
  pairs = rows_in_order Pairs b;
  id = id_as (ids_in b);
  handed = not (is_nil (yes_rows b));
}

-- "TITLE, ORIGIN and OWNER are texts: from `=` to the end of the record": the place of the first byte behind the `=` of text i's label line, and the record's
-- bytes from there on; a text without a record is empty
abbrev pub holds_text : (i : ℕ) → Holds → Bool
holds_text i (Text j) = eqb i j
holds_text i Version = false
holds_text i Formula = false
holds_text i BlockId = false
holds_text i Atoms = false
holds_text i (Rows m) = false
holds_text i (Xyz x) = false
holds_text i Handedness = false
holds_text i End = false
holds_text i Skipped = false

abbrev pub starts_text : (i : ℕ) → Line → Bool
starts_text i Plain = false
starts_text i Unparted = false
starts_text i (Labelled x v) = holds_text i x.holds

unfoldable pub text_from : (i at : ℕ) → List Bytes → Prose
text_from i at [] = prose 0 []
text_from i at (l ∷ ls) = elim (starts_text i (line_of l)) [
  | true ↦ prose (at + (length l - length (value_of (line_of l)))) (value_of (line_of l) ++ until_label ls)
  | false ↦ text_from i (at + length l) ls
]

-- "start and length in the block of title, origin, owner (empty: 0, 0)"
abbrev pub spans_in : Bytes → List Span
spans_in b = map (λ i. span_of (text_from i 0 (cut b))) (0 ∷ 1 ∷ 2 ∷ [])

-- L2: MAX_XYZ, the factor, and the rows of XYZ, latest first
abbrev pub geometry_in : Bytes → Geometry
geometry_in b = geometry (greatest_in b) (factor_in b) (reverse (xyz_rows b))
