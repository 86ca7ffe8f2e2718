-- The structure table: document 01, "The structure table", "Refusal numbers" (what reading leaves in it; when a table is sound). Assumes nothing.
use Rattle.std.specs.Prelude.{ℕ, zero, suc, ◌+◌, ◌*◌, min, Bool, true, false, ◌&&◌, ◌||◌, List, [], ◌∷◌, ◌++◌, map, length, get_or, take, drop, replicate, ℤ, pos, negsuc, nat_abs, eqb, ltb, leb, Float}
use Rattle.lists.specs.Lists.{all, same_by, flat, filled, rows_from}
use Rattle.format.specs.Bytes.{Bytes, is_in, same, allowed, trim, unlabelled}
use Rattle.format.specs.Labels.{ListOf, Bonds, Charges, Radicals, Centres, Pairs}
use Rattle.format.specs.Rows.{Row, row}
use Rattle.format.specs.Coordinates.{nought, position_table}
use Rattle.format.specs.Structure.{isotope_of, Atom, Structure, rows_of, most, lists, well_formed}
use Rattle.format.specs.Reading.{Span, Reading, Read, Unread, strict, read_block}

unfoldable pub zeros : ℕ → List ℤ
zeros n = replicate n (pos 0)

-- Where a list's records start, how wide they are, and where record i stands; beyond the list's last: the table's end
unfoldable pub base : ListOf → ℕ
base l = elim l [ Bonds ↦ 1296 | Charges ↦ 2832 | Radicals ↦ 2896 | Centres ↦ 2960 | Pairs ↦ 3344 ]

unfoldable pub width : ListOf → ℕ
width l = elim l [ Bonds ↦ 3 | Charges ↦ 1 | Radicals ↦ 1 | Centres ↦ 3 | Pairs ↦ 4 ]

abbrev pub place_from : (base width most i : ℕ) → ℕ
place_from b w m i = elim (ltb i m) [ true ↦ b + w * i | false ↦ 3856 ]

unfoldable pub row_place : ListOf → ℕ → ℕ
row_place l i = place_from (base l) (width l) (most l) i

unfoldable pub atom_place : ℕ → ℕ
atom_place i = place_from 16 5 256 i

unfoldable pub text_place : ℕ → ℕ
text_place i = place_from 7 2 3 i

-- the number of the row that atom n stands in, "from 1; 0 none"
unfoldable pub row_with : (from n : ℕ) → List Row → ℕ
row_with from n [] = 0
row_with from n (r ∷ rs) = elim (is_in n r.atoms) [ true ↦ from | false ↦ row_with (suc from) n rs ]

-- "256 atoms: element, mass (0 none), implied hydrogens, charge row, radical row (from 1; 0 none)"; n is the first one's number
unfoldable pub atom_cells : (n : ℕ) → (charges radicals : List Row) → List Atom → List ℤ
atom_cells n cs rs [] = []
atom_cells n cs rs (a ∷ rest) = pos a.kind.element ∷ pos a.kind.mass ∷ pos a.hydrogens ∷ pos (row_with 1 n cs) ∷ pos (row_with 1 n rs) ∷ atom_cells (suc n) cs rs rest

-- "512 bonds: lower atom, higher atom, kind"; "64 charge values, 64 radical values"; "128 centres: atom, 1 P or 2 M, group byte (0 for `0`)";
-- "128 pairs: lower, higher, 0, 1 P or 2 M, group byte"
unfoldable pub row_cells : ListOf → Row → List ℤ
row_cells Bonds r = map pos r.atoms ++ (r.value ∷ [])
row_cells Charges r = r.value ∷ []
row_cells Radicals r = r.value ∷ []
row_cells Centres r = map pos r.atoms ++ (r.value ∷ pos r.group ∷ [])
row_cells Pairs r = map pos r.atoms ++ (r.value ∷ pos r.group ∷ [])

unfoldable pub rows_part : Structure → ListOf → List ℤ
rows_part s l = filled (pos 0) (width l * most l) (flat (row_cells l) (rows_of l s))

-- "atoms, bonds, charge rows, radical rows, centres, pairs, block id (0 none)"
unfoldable pub counts : Structure → List ℕ
counts s = length s.atoms ∷ length s.bonds ∷ length s.charges ∷ length s.radicals ∷ length s.centres ∷ length s.pairs ∷ s.id ∷ []

abbrev pub span_cells : Span → List ℤ
span_cells x = pos x.place ∷ pos x.size ∷ []

-- "13 to 15 are 0": the numbers that are derived from the structure; "Table number 13 becomes 1" where the molecule is handed as a whole (document 02, L4)
abbrev pub flag : Bool → ℤ
flag true = pos 1
flag false = pos 0

unfoldable pub derived : Structure → List ℤ
derived s = flag s.handed ∷ pos 0 ∷ pos 0 ∷ []

-- "3,856 signed 32-bit numbers; unused ones are 0"
unfoldable pub encode : Structure → List Span → List ℤ
encode s spans =
    map pos (counts s) ++ (flat span_cells spans ++ (derived s ++ (filled (pos 0) 1280 (atom_cells 1 s.charges s.radicals s.atoms) ++ flat (rows_part s) lists)))

-- The structure that a table holds. A count is cut to what its list holds, so that nothing is read beyond it; such a table is not sound.
abbrev pub cell : List ℤ → ℕ → ℕ
cell t p = nat_abs (get_or t p (pos 0))

unfoldable pub count_at : List ℤ → (place most : ℕ) → ℕ
count_at t p m = min m (cell t p)

abbrev pub atom_at : List ℤ → Atom
atom_at t = record { kind = isotope_of (cell t 0) (cell t 1); hydrogens = cell t 2 }

abbrev pub marked_at : (atoms : ℕ) → List ℤ → Row
marked_at n t = row (map nat_abs (take n t)) (get_or t n (pos 0)) (cell t (suc n))

abbrev pub bond_at : List ℤ → Row
bond_at t = row (map nat_abs (take 2 t)) (get_or t 2 (pos 0)) 0

-- the atoms, counted from n, whose cell at place p of their record is j
unfoldable pub members_at : (p j n : ℕ) → List (List ℤ) → List ℕ
members_at p j n [] = []
members_at p j n (a ∷ rest) = elim (eqb (cell a p) j) [ true ↦ n ∷ members_at p j (suc n) rest | false ↦ members_at p j (suc n) rest ]

unfoldable pub spread_at : (p j : ℕ) → (atoms : List (List ℤ)) → List ℤ → List Row
spread_at p j records [] = []
spread_at p j records (v ∷ vs) = row (members_at p j 1 records) v 0 ∷ spread_at p (suc j) records vs

unfoldable pub atom_records : List ℤ → List (List ℤ)
atom_records t = rows_from 5 (take 5) (count_at t 0 256) (drop 16 t)

unfoldable pub decode : List ℤ → Structure
decode t = record {
  atoms = map atom_at (atom_records t);
  bonds = rows_from 3 bond_at (count_at t 1 512) (drop 1296 t);
  charges = spread_at 3 1 (atom_records t) (take (count_at t 2 64) (drop 2832 t));
  radicals = spread_at 4 1 (atom_records t) (take (count_at t 3 64) (drop 2896 t));
  centres = rows_from 3 (marked_at 1) (count_at t 4 128) (drop 2960 t);
  pairs = rows_from 4 (marked_at 2) (count_at t 5 128) (drop 3344 t);
  id = cell t 6;
  handed = eqb (cell t 13) 1;
}

abbrev pub span_at : List ℤ → Span
span_at t = record { place = cell t 0; size = cell t 1 }

unfoldable pub spans_of : List ℤ → List Span
spans_of t = rows_from 2 span_at 3 (drop 7 t)

abbrev pub same_number : ℤ → ℤ → Bool
same_number (pos m) (pos n) = eqb m n
same_number (pos m) (negsuc n) = false
same_number (negsuc m) (pos n) = false
same_number (negsuc m) (negsuc n) = eqb m n

-- "21, the table isn't sound (no atom, or a count, range, order, clash or zero rule broken": its structure keeps the rules, and the table is that structure's
unfoldable pub sound_numbers : (k : ℕ) → List ℤ → Bool
sound_numbers k t = well_formed k (decode t) && same_by same_number (encode (decode t) (spans_of t)) (take 3856 t)

-- "or a text out of bounds, untrimmed, with a byte not allowed, or with `##` right after a line feed)"; "(empty: 0, 0)"
unfoldable pub text_fine : Bytes → Bool
text_fine x = same (trim x) x && (all allowed x && unlabelled x)

unfoldable pub text_at : Bytes → Span → Bytes
text_at b x = take x.size (drop x.place b)

abbrev pub span_ok : (place size : ℕ) → Bytes → Bool
span_ok p zero b = eqb p 0
span_ok p (suc n) b = leb (p + suc n) (length b)

unfoldable pub text_ok : Bytes → Span → Bool
text_ok b x = span_ok x.place x.size b && text_fine (text_at b x)

unfoldable pub sound : (k : ℕ) → List ℤ → Bytes → Bool
sound k t b = sound_numbers k t && all (text_ok b) (spans_of t)

-- What is lent to a reading: the structure table, and the positions in "a lent table of their own, 1,024 64-bit floats" (L2)
pub record Lent : Type 0 where
  pub table : List ℤ
  pub positions : List Float

abbrev pub lent : List ℤ → List Float → Lent
lent t p = record { table = t; positions = p }

unfoldable pub noughts : ℕ → List Float
noughts n = replicate n nought

-- "1: table shorter than 3,856; untouched"; "a short position table is 1, nothing touched"
unfoldable pub short : Lent → Bool
short l = ltb (length l.table) 3856 || ltb (length l.positions) 1024

-- what a reading puts in front of each table; "those beyond are untouched"
abbrev pub overlaid : List ℤ → List Float → Lent → Lent
overlaid t p l = lent (t ++ drop 3856 l.table) (p ++ drop 1024 l.positions)

-- "Refusals 2 to 17 zero the 3,856 numbers."; positions are "cleared on refusals other than 1"
unfoldable pub cleared : Lent → Lent
cleared l = overlaid (zeros 3856) (noughts 1024) l

-- tables that are long enough
unfoldable pub ample : Lent
ample = lent (zeros 3856) (noughts 1024)

-- The answer of a reading and the tables after it: "Accepted is 0, place 0."
pub record ReadResult : Type 0 where
  pub number : ℕ
  pub place : ℕ
  pub after : Lent

abbrev pub read_answer : (number place : ℕ) → Lent → ReadResult
read_answer n p l = record { number = n; place = p; after = l }

abbrev pub read_into : Lent → Reading → ReadResult
read_into l (Read s spans p) = read_answer 0 0 (overlaid (encode s spans) (position_table p) l)
read_into l (Unread n p) = read_answer n p (cleared l)

unfoldable pub read_result : (k : ℕ) → Bytes → Lent → ReadResult
read_result k b l = elim (short l) [ true ↦ read_answer 1 0 l | false ↦ read_into l (read_block (strict k) b) ]
