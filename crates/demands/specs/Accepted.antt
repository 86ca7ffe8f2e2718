-- When a block is accepted, said of its lines and rows alone, without a reader's state: document 01, "Lines and labels", "Rows" and "Refusal numbers", and
-- document 02, L2 and L4, each sentence one field of `Obeys`. Where the reading judges line by line, this judges the whole block. Assumes nothing.
use Rattle.std.specs.Prelude.{ℕ, suc, ◌+◌, ◌≤◌, ◌<◌, ◌≡◌, Bool, true, false, ◌&&◌, ◌||◌, not, List, [], ◌∷◌, ◌++◌, map, length, drop, eqb, ltb, leb}
use Rattle.std.specs.declared.option.Option.{Option}
use Rattle.std.specs.declared.option.Option.TheVariants.{None, Some}
use Rattle.lists.specs.Lists.{is_nil, all, any, pairs, flat}
use Rattle.lists.specs.Folding.{kept}
use Rattle.format.specs.Bytes.{Bytes, bytes, within, same, gap, allowed, cut, fields, strip}
use Rattle.format.specs.Labels.{ListOf, Bonds, Charges, Radicals, Centres, Pairs, XyzOf, MaxXyz, XyzFactor, XyzRows, Holds, Text, Version, Formula, BlockId, Atoms, Rows, Xyz, Handedness, End, Skipped, Label, Line, Plain, Unparted, Labelled, line_of, title_line, end_line}
use Rattle.format.specs.Rows.{Row, AtomRow, number, field, atom_shape, row_shape}
use Rattle.format.specs.Formula.{Counted}
use Rattle.format.specs.Grammar.{Says}
use Rattle.format.specs.Coordinates.{XyzRow, xyz_shape, Factor, factor, factor_shape, geometry, exceeds}
use Rattle.format.specs.Structure.{Isotope, isotope, unknown, mass_ok, Atom, most, ranged, meets, clash, Entry, entry, entries_of, total}
use Rattle.format.specs.Reading.{ordered, noted, only_field, partly}

-- LINES. A line as it counts in its record, by what the record holds: "What follows `=` on a label line counts as the record's first line.", or a further line
pub data Told : Type 0 where
  Value : Holds → Bytes → Told
  Further : Holds → Bytes → Told

abbrev pub told_as : Holds → Bytes → Line → List Told
told_as h l Plain = Further h l ∷ []
told_as h l Unparted = []
told_as h l (Labelled x v) = Value x.holds v ∷ []

-- "The record runs to the next label line."
abbrev pub runs_on : Holds → Line → Holds
runs_on h Plain = h
runs_on h Unparted = h
runs_on h (Labelled x v) = x.holds

unfoldable pub told : (running : Holds) → List Bytes → List Told
told h [] = []
told h (l ∷ ls) = told_as h l (line_of l) ++ told (runs_on h (line_of l)) ls

abbrev pub unparted : Line → Bool
unparted Plain = false
unparted Unparted = true
unparted (Labelled x v) = false

abbrev pub title_first : List Bytes → Bool
title_first [] = false
title_first (l ∷ ls) = title_line l

unfoldable pub behind_end : List Bytes → List Bytes
behind_end [] = []
behind_end (l ∷ ls) = elim (end_line l) [ true ↦ ls | false ↦ behind_end ls ]

-- LABELS: the known ones, in the order of their lines
abbrev pub label_on : Line → List Label
label_on Plain = []
label_on Unparted = []
label_on (Labelled x v) = noted x.code x []

abbrev pub labels : List Bytes → List Label
labels ls = flat (λ l. label_on (line_of l)) ls

-- "Each at most once. A label is out of order if a known label that must follow it has been seen."
abbrev pub out_of_order : (earlier later : Label) → Bool
out_of_order x y = eqb x.code y.code || ltb y.high x.low

abbrev pub named : List Label → (code : ℕ) → Bool
named xs c = any (λ x. eqb x.code c) xs

-- RECORDS, told apart by the kind of what they hold (the three texts are of one kind): the value of such a record; its value and its further lines
abbrev pub place : ListOf → ℕ
place l = elim l [ Bonds ↦ 0 | Charges ↦ 1 | Radicals ↦ 2 | Centres ↦ 3 | Pairs ↦ 4 ]

abbrev pub part : XyzOf → ℕ
part x = elim x [ MaxXyz ↦ 0 | XyzFactor ↦ 1 | XyzRows ↦ 2 ]

abbrev pub kind : Holds → ℕ
kind (Text i) = 0
kind Version = 1
kind Formula = 2
kind BlockId = 3
kind Atoms = 4
kind End = 5
kind Skipped = 6
kind (Rows l) = 7 + place l
kind (Xyz x) = 12 + part x
kind Handedness = 15

abbrev pub only_if : {A : Type 0} → Bool → A → List A
only_if true x = x ∷ []
only_if false x = []

abbrev pub value_in : Holds → Told → List Bytes
value_in h (Value g v) = only_if (eqb (kind h) (kind g)) v
value_in h (Further g l) = []

abbrev pub line_in : Holds → Told → List Bytes
line_in h (Value g v) = only_if (eqb (kind h) (kind g)) v
line_in h (Further g l) = only_if (eqb (kind h) (kind g)) l

-- ROWS: "lines then blank are skipped", and each other line has its row, if it has the shape of one
abbrev pub listed : {A : Type 0} → Option A → List A
listed None = []
listed (Some a) = a ∷ []

abbrev pub row_on : {A : Type 0} → (List Bytes → Option A) → (fields : List Bytes) → List A
row_on shape [] = []
row_on shape (f ∷ fs) = listed (shape (f ∷ fs))

abbrev pub rows_by : {A : Type 0} → (List Bytes → Option A) → (lines : List Bytes) → List A
rows_by shape ls = flat (λ l. row_on shape (fields (strip l))) ls

-- the entries of a formula, an atom
abbrev pub entries_as : (k : ℕ) → Option (List Counted) → List Entry
entries_as k None = []
entries_as k (Some cs) = map (λ c. entry (isotope k c.symbol) c.count) cs

abbrev pub atom_of : (k : ℕ) → AtomRow → Atom
atom_of k r = record { kind = isotope k r.symbol; hydrogens = r.hydrogens }

-- THE RULES THAT A LINE KEEPS OR BREAKS BY ITSELF. A row has its shape, and its values are in their ranges
abbrev pub fits : {A : Type 0} → (A → Bool) → Option A → Bool
fits test None = false
fits test (Some a) = test a

abbrev pub row_fits : {A : Type 0} → (List Bytes → Option A) → (A → Bool) → List Bytes → Bool
row_fits shape test [] = true
row_fits shape test (f ∷ fs) = fits test (shape (f ∷ fs))

-- "ATOMLIST: .. optional hydrogens 0 to 15", "mass 1 to 300", "Symbols are those of elements 1 (H) to 103 (Lr)."
abbrev pub atom_fine : (k : ℕ) → AtomRow → Bool
atom_fine k r = (mass_ok r.symbol && leb r.hydrogens 15) && not (unknown k r.symbol)

-- "-99 to 99 and not 0", "1 to 15"; "an atom with itself, is a clash"
abbrev pub row_fine : ListOf → Row → Bool
row_fine l r = ranged l r.value && not (pairs eqb r.atoms)

-- "MOLFORM: entries of a symbol and an optional count 1 to 9,999"
abbrev pub formula_fine : (k : ℕ) → List Counted → Bool
formula_fine k cs = all (λ c. mass_ok c.symbol && within 1 9999 c.count) cs && not (any (λ c. unknown k c.symbol) cs)

-- "JCAMP-CS: `3.7` only. BLOCK_ID: one unsigned number, 1 to 999,999."
abbrev pub version_fine : List Bytes → Bool
version_fine fs = same (field 0 fs) (bytes "3.7") && is_nil (drop 1 fs)

abbrev pub id_fine : List Bytes → Bool
id_fine fs = fits (λ n. is_nil (drop 1 fs) && not (eqb n 0)) (number (field 0 fs))

-- L2: "MAX_XYZ is unsigned, 1 to 6 digits"; the factor is "1 to 9 digits with at most one point", not zero; "Both stand on their label line; an empty one or a further
-- row is 9". "Rows are an atom and three signed numbers of 1 to 6 digits"
abbrev pub greatest_fine : List Bytes → Bool
greatest_fine fs = fits (λ n. true) (number (only_field fs))

abbrev pub factor_fine : List Bytes → Bool
factor_fine fs = fits (λ f. not (eqb f.digits 0)) (factor_shape (only_field fs))

abbrev pub xyz_fine : XyzOf → List Bytes → Bool
xyz_fine MaxXyz fs = greatest_fine fs
xyz_fine XyzFactor fs = factor_fine fs
xyz_fine XyzRows fs = row_fits xyz_shape (λ r. true) fs

abbrev pub xyz_further_fine : XyzOf → Bytes → Bool
xyz_further_fine MaxXyz l = all gap l
xyz_further_fine XyzFactor l = all gap l
xyz_further_fine XyzRows l = row_fits xyz_shape (λ r. true) (fields l)

-- STEREOMOLECULE: "its only value is `YES`, on the label line or the next row" (document 02, L4)
pub data Yes : Type 0 where
  YES : Yes

abbrev pub yes_shape : List Bytes → Option Yes
yes_shape fs = elim (same (only_field fs) (bytes "YES")) [ true ↦ Some YES | false ↦ None ]

-- of MOLFORM's value the grammar judges, in `Obeys`
abbrev pub value_rule : (k : ℕ) → Holds → Bytes → Bool
value_rule k (Text i) v = true
value_rule k Version v = version_fine (fields (strip v))
value_rule k Formula v = true
value_rule k BlockId v = id_fine (fields (strip v))
value_rule k Atoms v = row_fits atom_shape (atom_fine k) (fields (strip v))
value_rule k (Rows l) v = row_fits (row_shape l) (row_fine l) (fields (strip v))
value_rule k (Xyz x) v = xyz_fine x (fields (strip v))
value_rule k Handedness v = row_fits yes_shape (λ y. true) (fields (strip v))
value_rule k End v = is_nil (fields (strip v))
value_rule k Skipped v = true

-- "These and MOLFORM have their value on the label line; a further row is refused 9."; what may stand behind END is said of the block
abbrev pub further_rule : (k : ℕ) → Holds → Bytes → Bool
further_rule k (Text i) l = true
further_rule k Version l = all gap (strip l)
further_rule k Formula l = all gap (strip l)
further_rule k BlockId l = all gap (strip l)
further_rule k Atoms l = row_fits atom_shape (atom_fine k) (fields (strip l))
further_rule k (Rows r) l = row_fits (row_shape r) (row_fine r) (fields (strip l))
further_rule k (Xyz x) l = xyz_further_fine x (strip l)
further_rule k Handedness l = row_fits yes_shape (λ y. true) (fields (strip l))
further_rule k End l = true
further_rule k Skipped l = true

abbrev pub own_rule : (k : ℕ) → Told → Bool
own_rule k (Value h v) = value_rule k h v
own_rule k (Further h l) = further_rule k h l

-- "Numbers run 1, 2, 3 and on."
unfoldable pub numbered : (from : ℕ) → List AtomRow → Bool
numbered n [] = true
numbered n (r ∷ rs) = eqb r.number n && numbered (suc n) rs

-- THE BLOCK: its lines as they count, its atom rows, the rows of each list with their atoms ascending, the values of MOLFORM
abbrev pub told_of : Bytes → List Told
told_of b = told Skipped (cut b)

abbrev pub atom_rows : Bytes → List AtomRow
atom_rows b = rows_by atom_shape (flat (line_in Atoms) (told_of b))

abbrev pub list_rows : ListOf → Bytes → List Row
list_rows l b = map ordered (rows_by (row_shape l) (flat (line_in (Rows l)) (told_of b)))

abbrev pub molforms : Bytes → List Bytes
molforms b = flat (value_in Formula) (told_of b)

abbrev pub first_or : {A : Type 0} → A → List A → A
first_or a [] = a
first_or a (x ∷ xs) = x

-- what the block says of its geometry: the rows of XYZ in their order, MAX_XYZ, the factor
abbrev pub xyz_rows : Bytes → List XyzRow
xyz_rows b = rows_by xyz_shape (flat (line_in (Xyz XyzRows)) (told_of b))

abbrev pub greatest_in : Bytes → ℕ
greatest_in b = first_or 0 (flat (λ v. listed (number (only_field (fields (strip v))))) (flat (value_in (Xyz MaxXyz)) (told_of b)))

abbrev pub factor_in : Bytes → Factor
factor_in b = first_or (factor 0 0) (flat (λ v. listed (factor_shape (only_field (fields (strip v))))) (flat (value_in (Xyz XyzFactor)) (told_of b)))

-- the rows of STEREOMOLECULE
abbrev pub yes_rows : Bytes → List Yes
yes_rows b = rows_by yes_shape (flat (line_in Handedness) (told_of b))

pub record Obeys (k : ℕ) (b : Bytes) : Type 0 where
  -- "The longest block has 32,768 bytes." "Allowed bytes: 9, 10, 13 and 32 to 126."
  pub short : length b ≤ 32768
  pub allowed_bytes : all (all allowed) (cut b) ≡ true
  -- the first line is a TITLE line, no label line is without `=`, no known label stands twice or behind one that must follow it
  pub title_first_lem : title_first (cut b) ≡ true
  pub labels_parted : any (λ l. unparted (line_of l)) (cut b) ≡ false
  pub labels_ordered : pairs out_of_order (labels (cut b)) ≡ false
  -- each line keeps the rules of its own
  pub lines_fine : all (own_rule k) (told_of b) ≡ true
  -- MOLFORM has one value; without its comment it says, by the grammar, a formula, whose masses, counts and symbols are fine
  pub molform : Bytes
  pub molform_once : molforms b ≡ molform ∷ []
  pub formula : List Counted
  pub formula_said : Says (strip molform) formula
  pub formula_fine_lem : formula_fine k formula ≡ true
  -- the atoms are numbered 1, 2, 3 and on, and are 1 to 256
  pub atoms_numbered : numbered 1 (atom_rows b) ≡ true
  pub atoms_held_lem : length (atom_rows b) ≤ 256
  pub atoms_there : 0 < length (atom_rows b)
  -- in each list every atom is a listed one, no two rows clash, and the rows without repeats are no more than the list holds
  pub rows_listed : (l : ListOf) → all (λ r. all (within 1 (length (atom_rows b))) r.atoms) (list_rows l b) ≡ true
  pub rows_apart : (l : ListOf) → pairs (clash l) (list_rows l b) ≡ false
  pub rows_held : (l : ListOf) → length (kept (meets l) [] (list_rows l b)) ≤ most l
  -- JCAMP-CS, ORIGIN, OWNER, MOLFORM are there
  pub required : all (named (labels (cut b))) (2 ∷ 3 ∷ 4 ∷ 5 ∷ []) ≡ true
  -- "for every element and mass, the formula's total over all fragments equals the atoms listed, with implied hydrogens counted as hydrogen without mass"
  pub totals : (i : Isotope) → total i (entries_as k (Some formula)) ≡ total i (entries_of (map (atom_of k) (atom_rows b)))
  -- L2: the rows of XYZ name listed atoms, ascending; MAX_XYZ, XYZ_FACTOR and XYZ are there together or not at all; no value is above MAX_XYZ
  pub xyz_listed : all (λ r. within 1 (length (atom_rows b)) r.atom) (xyz_rows b) ≡ true
  pub xyz_ascending : pairs (λ q r. leb r.atom q.atom) (xyz_rows b) ≡ false
  pub xyz_together : partly (labels (cut b)) (14 ∷ 15 ∷ 16 ∷ []) ≡ false
  pub xyz_bounded : exceeds (geometry (greatest_in b) (factor_in b) (xyz_rows b)) ≡ false
  -- "another value or a second row 9", "no value 9", "YES beside any centre or pair row 13" (document 02, L4): the rows of STEREOMOLECULE are one YES where its label
  -- stands, else none; where the YES stands there is no row of STEREOCENTER and none of STEREOPAIR
  pub yes_once : yes_rows b ≡ only_if (named (labels (cut b)) 17) YES
  pub yes_alone : yes_rows b ≡ YES ∷ [] → (list_rows Centres b ≡ []) × (list_rows Pairs b ≡ [])
  -- an END line stands there, and behind it only blanks
  pub end_there : any end_line (cut b) ≡ true
  pub end_last : all (all gap) (behind_end (cut b)) ≡ true

-- each follows from the other
infix 5 ◌exactly_when◌
abbrev pub ◌exactly_when◌ : Type 0 → Type 0 → Type 0
A exactly_when B = (A → B) × (B → A)
