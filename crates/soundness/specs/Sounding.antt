-- Soundness of a table's numbers region by region, as the code tests it: document 01, "The structure table", and "Refusal numbers" ("a count, range, order, clash or
-- zero rule broken"); document 02, L4 (number 13). That all regions together are the definition's soundness is proved in proofs/RegionsLaws. Assumes nothing.
use Rattle.std.specs.Prelude.{ℕ, suc, ◌+◌, ◌-◌, ◌*◌, Bool, true, false, ◌&&◌, ◌||◌, not, List, ◌∷◌, get_or, take, drop, ℤ, pos, nat_abs, eqb, ltb}
use Rattle.lists.specs.Lists.{all, rows_from}
use Rattle.lists.specs.Order.{ascends}
use Rattle.format.specs.Bytes.{within}
use Rattle.format.specs.Structure.{ranging}
use Rattle.format.specs.Table.{cell}
use Rattle.cells.specs.Signs.{negative}
use Rattle.soundness.specs.Numbered.{column_of, in_turn}
use Rattle.soundness.specs.declared.shapes.Shape.{Shape}

abbrev pub number_at : List ℤ → ℕ → ℤ
number_at t p = get_or t p (pos 0)

-- "unused ones are 0"
unfoldable pub unused : List ℤ → Bool
unused t = all (ranging 0 0) t

-- "atoms, bonds, charge rows, radical rows, centres, pairs, block id (0 none)": each within its list's limit, one atom at least
unfoldable pub counts_fine : List ℤ → Bool
counts_fine t =
    ranging 1 256 (number_at t 0)
    && (ranging 0 512 (number_at t 1)
    && (ranging 0 64 (number_at t 2)
    && (ranging 0 64 (number_at t 3) && (ranging 0 128 (number_at t 4) && (ranging 0 128 (number_at t 5) && ranging 0 999999 (number_at t 6))))))

-- the texts' places and lengths: none is negative
unfoldable pub places_fine : List ℤ → Bool
places_fine t = all (λ z. not (negative z)) (take 6 (drop 7 t))

-- "A sound table with 13 set has no centres and no pairs." (document 02, L4): the number is 0, or it is 1 and neither list has a row
unfoldable pub handed_fine : List ℤ → Bool
handed_fine t = ranging 0 0 (number_at t 13) || (ranging 1 1 (number_at t 13) && (eqb (cell t 4) 0 && eqb (cell t 5) 0))

-- the two numbers behind that one are 0
unfoldable pub header_fine : List ℤ → Bool
header_fine t = counts_fine t && (places_fine t && (handed_fine t && unused (take 2 (drop 14 t))))

-- an atom's record: "element, mass (0 none), implied hydrogens, charge row, radical row (from 1; 0 none)", with so many elements and rows
unfoldable pub atom_fine : (k charges radicals : ℕ) → List ℤ → Bool
atom_fine k cs rs a =
    ranging 1 k (number_at a 0)
    && (ranging 0 300 (number_at a 1) && (ranging 0 15 (number_at a 2) && (ranging 0 cs (number_at a 3) && ranging 0 rs (number_at a 4))))

unfoldable pub atoms_fine : (k : ℕ) → List ℤ → Bool
atoms_fine k t =
    all (λ b. b) (rows_from 5 (atom_fine k (cell t 2) (cell t 3)) (cell t 0) (drop 16 t)) && unused (take (1280 - 5 * cell t 0) (drop (16 + 5 * cell t 0) t))

-- LISTS THAT STAND BY THEIR ATOMS
-- A record of one or two atoms, a value and, where the list has groups, a group.
-- "group `0`, A to Z or a to z": 0, or its letter's byte
unfoldable pub group_fine : (grouped : Bool) → ℤ → Bool
group_fine false z = true
group_fine true z = ranging 0 0 z || (ranging 65 90 z || ranging 97 122 z)

-- the value and the group, from the value on
unfoldable pub mark_fine : (low high : ℕ) → (grouped : Bool) → List ℤ → Bool
mark_fine low high grouped m = ranging low high (number_at m 0) && group_fine grouped (number_at m 1)

-- a key where a test passes, 0 where it does not: no key of listed atoms is 0
abbrev pub key_if : (fine : Bool) → ℕ → ℕ
key_if true key = key
key_if false key = 0

-- the atoms as one number, lower atom first; 0 where one is not listed, or where the second does not follow the first
unfoldable pub pair_key : (n : ℕ) → List ℤ → ℕ
pair_key n s = key_if (ranging (suc (cell s 0)) n (number_at s 1)) (1024 * cell s 0 + cell s 1)

unfoldable pub atoms_key : (paired : Bool) → (n : ℕ) → List ℤ → ℕ
atoms_key false n s = key_if (ranging 1 n (number_at s 0)) (1024 * cell s 0)
atoms_key true n s = key_if (ranging 1 n (number_at s 0)) (pair_key n s)

-- a record's key, of so many members; 0 where its atoms, its value or its group are not fine
unfoldable pub record_key : (members low high : ℕ) → (grouped : Bool) → (n : ℕ) → List ℤ → ℕ
record_key members low high grouped n s = key_if (mark_fine low high grouped (drop members s)) (atoms_key (ltb 1 members) n s)

-- "Bonds, centres and pairs ascend by their atoms.": the keys ascend from 0, so that each record is fine and no two have the same atoms
unfoldable pub records_fine : (members low high : ℕ) → (grouped : Bool) → (width n rows : ℕ) → List ℤ → Bool
records_fine members low high grouped w n rows s = ascends ltb (0 ∷ rows_from w (record_key members low high grouped n) rows s)

unfoldable pub keyed_fine : (members low high : ℕ) → (grouped : Bool) → (first width size n rows : ℕ) → List ℤ → Bool
keyed_fine members low high grouped first w size n rows t =
    records_fine members low high grouped w n rows (drop first t) && unused (take (size - w * rows) (drop (first + w * rows) t))

-- the same of a list of some shape
abbrev pub list_fine : Shape → List ℤ → Bool
list_fine l t = keyed_fine l.members l.low l.high l.grouped l.first l.width (l.end - l.first) (cell t 0) (cell t l.count) t

-- "512 bonds: lower atom, higher atom, kind 1 to 5"; "128 centres: atom, 1 P or 2 M, group byte"; "128 pairs: lower, higher, 0, 1 P or 2 M, group byte"
unfoldable pub bonds_fine : List ℤ → Bool
bonds_fine t = keyed_fine 2 1 5 false 1296 3 1536 (cell t 0) (cell t 1) t

unfoldable pub centres_fine : List ℤ → Bool
centres_fine t = keyed_fine 1 1 2 true 2960 3 384 (cell t 0) (cell t 4) t

unfoldable pub pairs_fine : List ℤ → Bool
pairs_fine t = keyed_fine 2 0 2 true 3344 4 512 (cell t 0) (cell t 5) t

-- CHARGES AND RADICALS: "-99 to 99 and not 0", "1 to 15"
unfoldable pub value_fine : (signed : Bool) → ℤ → Bool
value_fine true v = within 1 99 (nat_abs v)
value_fine false v = ranging 1 15 v

unfoldable pub values_fine : (signed : Bool) → (first rows : ℕ) → List ℤ → Bool
values_fine signed first rows t = all (value_fine signed) (take rows (drop first t)) && unused (take (64 - rows) (drop (first + rows) t))

-- and the rows' order, by the numbers that the atoms' records hold
unfoldable pub charges_fine : List ℤ → Bool
charges_fine t = values_fine true 2832 (cell t 2) t && in_turn 0 (cell t 2) (column_of 3 (cell t 0) t)

unfoldable pub radicals_fine : List ℤ → Bool
radicals_fine t = values_fine false 2896 (cell t 3) t && in_turn 0 (cell t 3) (column_of 4 (cell t 0) t)

-- the same of a list of values: where its rows are counted, where the first value stands, and the place of a row's number in an atom's record
abbrev pub spread_fine : (signed : Bool) → (count first column : ℕ) → List ℤ → Bool
spread_fine signed count first column t = values_fine signed first (cell t count) t && in_turn 0 (cell t count) (column_of column (cell t 0) t)

-- ALL REGIONS
unfoldable pub lists_fine : List ℤ → Bool
lists_fine t = bonds_fine t && (charges_fine t && (radicals_fine t && (centres_fine t && pairs_fine t)))

unfoldable pub regions_fine : (k : ℕ) → List ℤ → Bool
regions_fine k t = header_fine t && (atoms_fine k t && lists_fine t)
