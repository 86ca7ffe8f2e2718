-- Reading one block: document 01, "Lines and labels", "Rows", "Refusal numbers". "The earliest line that breaks a rule decides, and on it the lowest number":
-- the lines are judged in turn, and on each the tests stand in the order of their numbers. Assumes nothing.
use Rattle.std.specs.Prelude.{ℕ, suc, ◌+◌, ◌-◌, Bool, true, false, ◌&&◌, ◌||◌, not, List, [], ◌∷◌, ◌++◌, map, length, get_or, set, drop, eqb, ltb, leb}
use Rattle.std.specs.declared.option.Option.{Option}
use Rattle.std.specs.declared.option.Option.TheVariants.{None, Some}
use Rattle.lists.specs.Lists.{is_nil, all, any, pairs}
use Rattle.lists.specs.Order.{sort}
use Rattle.format.specs.Bytes.{Bytes, bytes, within, same, gap, allowed, cut, fields, strip, lead, trim}
use Rattle.format.specs.Labels.{ListOf, Bonds, Charges, Radicals, Centres, Pairs, XyzOf, MaxXyz, XyzFactor, XyzRows, Holds, Text, Version, Formula, BlockId, Atoms, Rows, Xyz, Handedness, End, Skipped, Label, Line, Plain, Unparted, Labelled, line_of, title_line, misplaced}
use Rattle.format.specs.Rows.{Row, row, AtomRow, number, field, atom_shape, row_shape}
use Rattle.format.specs.Formula.{Counted, formula_shape}
use Rattle.format.specs.Coordinates.{XyzRow, xyz_shape, Factor, factor_shape, Geometry, geometry, no_geometry, exceeds}
use Rattle.format.specs.Structure.{isotope, unknown, mass_ok, Atom, Structure, rows_of, most, ranged, meets, clash, row_before, handed_twice, Entry, entry, entries_of, agree}

-- What a reading goes by: the number of known elements, and whether the formula's totals are tested at END
pub record Rules : Type 0 where
  pub elements : ℕ
  pub totals : Bool

abbrev pub strict : (k : ℕ) → Rules
strict k = record { elements = k; totals = true }

-- A text record: the place of the first byte behind its `=`, and its bytes so far
pub record Prose : Type 0 where
  pub place : ℕ
  pub body : Bytes

abbrev pub prose : ℕ → Bytes → Prose
prose p b = record { place = p; body = b }

-- The state before a line: its place, the known labels so far, the record that runs, the texts (title, origin, owner), the formula, the geometry, and the
-- structure so far: its atoms in order, the rows of each list latest first
pub record State : Type 0 where
  pub at : ℕ
  pub seen : List Label
  pub running : Holds
  pub texts : List Prose
  pub formula : List Entry
  pub geometry : Geometry
  pub body : Structure

pub data Turn : Type 0 where
  Go : State → Turn
  Stop : ℕ → Turn

infixr 10 if◌stop◌else◌
abbrev pub if◌stop◌else◌ : Bool → ℕ → Turn → Turn
if true stop n else next = Stop n
if false stop n else next = next

-- The same state, or structure, but for one part
abbrev pub with_body : State → Structure → State
with_body st s = record { at = st.at; seen = st.seen; running = st.running; texts = st.texts; formula = st.formula; geometry = st.geometry; body = s }

abbrev pub with_formula : State → List Entry → State
with_formula st es = record { at = st.at; seen = st.seen; running = st.running; texts = st.texts; formula = es; geometry = st.geometry; body = st.body }

abbrev pub with_geometry : State → Geometry → State
with_geometry st p = record { at = st.at; seen = st.seen; running = st.running; texts = st.texts; formula = st.formula; geometry = p; body = st.body }

abbrev pub with_text : State → ℕ → Prose → State
with_text st i t = record { at = st.at; seen = st.seen; running = st.running; texts = set st.texts i t; formula = st.formula; geometry = st.geometry; body = st.body }

abbrev pub past : Bytes → State → State
past line st = record { at = st.at + length line; seen = st.seen; running = st.running; texts = st.texts; formula = st.formula; geometry = st.geometry; body = st.body }

abbrev pub with_atoms : List Atom → Structure → Structure
with_atoms l s = record { atoms = l; bonds = s.bonds; charges = s.charges; radicals = s.radicals; centres = s.centres; pairs = s.pairs; id = s.id; handed = s.handed }

abbrev pub with_id : ℕ → Structure → Structure
with_id n s = record { atoms = s.atoms; bonds = s.bonds; charges = s.charges; radicals = s.radicals; centres = s.centres; pairs = s.pairs; id = n; handed = s.handed }

abbrev pub with_yes : Structure → Structure
with_yes s = record { atoms = s.atoms; bonds = s.bonds; charges = s.charges; radicals = s.radicals; centres = s.centres; pairs = s.pairs; id = s.id; handed = true }

unfoldable pub with_rows : ListOf → List Row → Structure → Structure
with_rows Bonds l s = record { atoms = s.atoms; bonds = l; charges = s.charges; radicals = s.radicals; centres = s.centres; pairs = s.pairs; id = s.id; handed = s.handed }
with_rows Charges l s = record { atoms = s.atoms; bonds = s.bonds; charges = l; radicals = s.radicals; centres = s.centres; pairs = s.pairs; id = s.id; handed = s.handed }
with_rows Radicals l s = record { atoms = s.atoms; bonds = s.bonds; charges = s.charges; radicals = l; centres = s.centres; pairs = s.pairs; id = s.id; handed = s.handed }
with_rows Centres l s = record { atoms = s.atoms; bonds = s.bonds; charges = s.charges; radicals = s.radicals; centres = l; pairs = s.pairs; id = s.id; handed = s.handed }
with_rows Pairs l s = record { atoms = s.atoms; bonds = s.bonds; charges = s.charges; radicals = s.radicals; centres = s.centres; pairs = l; id = s.id; handed = s.handed }

abbrev pub atom_count : State → ℕ
atom_count st = length st.body.atoms

-- ATOMLIST: "Numbers run 1, 2, 3 and on."
unfoldable pub atom_turn : (k : ℕ) → State → Option AtomRow → Turn
atom_turn k st None = Stop 9
atom_turn k st (Some r) =
    if not (mass_ok r.symbol && leb r.hydrogens 15) stop 10
    else if not (eqb r.number (suc (atom_count st))) stop 11
    else if unknown k r.symbol stop 12
    else if leb 256 (atom_count st) stop 14
    else Go (with_body st (with_atoms (st.body.atoms ++ (record { kind = isotope k r.symbol; hydrogens = r.hydrogens } ∷ [])) st.body))

-- A row of the five lists, its atoms in ascending order: "lower atom, higher atom", "members ascending"
abbrev pub ordered : Row → Row
ordered r = row (sort ltb r.atoms) r.value r.group

-- by whether the row repeats one that is there, and whether the list is full: "Counting a repeated bond against the 512" is wrong
abbrev pub joined : (again full : Bool) → (old new : State) → Turn
joined true full old new = Go old
joined false true old new = Stop 14
joined false false old new = Go new

unfoldable pub join_turn : ListOf → State → List Row → Row → Turn
join_turn l st rs r =
    if any (clash l r) rs stop 13
    else joined (any (meets l r) rs) (leb (most l) (length rs)) st (with_body st (with_rows l (r ∷ rs) st.body))

-- "or an atom with itself, is a clash"; in CHARGE and RADICAL "an atom stands once"
unfoldable pub row_turn : ListOf → State → Option Row → Turn
row_turn l st None = Stop 9
row_turn l st (Some r) =
    if not (ranged l r.value) stop 10
    else if not (all (within 1 (atom_count st)) r.atoms) stop 11
    else if pairs eqb r.atoms stop 13
    else join_turn l st (rows_of l st.body) (ordered r)

-- MOLFORM: "a symbol and an optional count 1 to 9,999"
unfoldable pub formula_turn : (k : ℕ) → State → Option (List Counted) → Turn
formula_turn k st None = Stop 9
formula_turn k st (Some cs) =
    if not (all (λ c. mass_ok c.symbol && within 1 9999 c.count) cs) stop 10
    else if any (λ c. unknown k c.symbol) cs stop 12
    else Go (with_formula st (map (λ c. entry (isotope k c.symbol) c.count) cs))

-- "JCAMP-CS: `3.7` only."
unfoldable pub version_turn : State → List Bytes → Turn
version_turn st fs = if not (same (field 0 fs) (bytes "3.7") && is_nil (drop 1 fs)) stop 7 else Go st

-- "BLOCK_ID: one unsigned number, 1 to 999,999."
abbrev pub id_value : State → (alone : Bool) → Option ℕ → Turn
id_value st alone None = Stop 9
id_value st alone (Some n) = if not alone stop 9 else if eqb n 0 stop 10 else Go (with_body st (with_id n st.body))

unfoldable pub id_turn : State → List Bytes → Turn
id_turn st fs = id_value st (is_nil (drop 1 fs)) (number (field 0 fs))

-- "MAX_XYZ is unsigned, 1 to 6 digits"; "a zero factor" is 10. "Both stand on their label line; an empty one .. is 9": no shape takes the empty field
abbrev pub only_field : List Bytes → Bytes
only_field [] = []
only_field (f ∷ []) = f
only_field (f ∷ g ∷ fs) = []

unfoldable pub greatest_turn : State → Option ℕ → Turn
greatest_turn st None = Stop 9
greatest_turn st (Some n) = Go (with_geometry st (geometry n st.geometry.scale st.geometry.rows))

unfoldable pub factor_turn : State → Option Factor → Turn
factor_turn st None = Stop 9
factor_turn st (Some f) = if eqb f.digits 0 stop 10 else Go (with_geometry st (geometry st.geometry.greatest f st.geometry.rows))

-- XYZ: "atoms ascending, not all needed", so there are never more rows than atoms
unfoldable pub xyz_turn : State → Option XyzRow → Turn
xyz_turn st None = Stop 9
xyz_turn st (Some r) =
    if not (within 1 (atom_count st) r.atom) stop 11
    else if any (λ q. leb r.atom q.atom) st.geometry.rows stop 13
    else Go (with_geometry st (geometry st.geometry.greatest st.geometry.scale (r ∷ st.geometry.rows)))

-- a list's line; "lines then blank are skipped"
abbrev pub unless_blank : State → List Bytes → Turn → Turn
unless_blank st [] t = Go st
unless_blank st (f ∷ fs) t = t

unfoldable pub atom_line : (k : ℕ) → State → List Bytes → Turn
atom_line k st fs = unless_blank st fs (atom_turn k st (atom_shape fs))

unfoldable pub row_line : ListOf → State → List Bytes → Turn
row_line l st fs = unless_blank st fs (row_turn l st (row_shape l fs))

unfoldable pub xyz_line : State → List Bytes → Turn
xyz_line st fs = unless_blank st fs (xyz_turn st (xyz_shape fs))

unfoldable pub xyz_value : XyzOf → State → List Bytes → Turn
xyz_value MaxXyz st fs = greatest_turn st (number (only_field fs))
xyz_value XyzFactor st fs = factor_turn st (factor_shape (only_field fs))
xyz_value XyzRows st fs = xyz_line st fs

-- STEREOMOLECULE: "its only value is `YES`, on the label line or the next row"; "another value or a second row 9" (document 02, L4)
unfoldable pub yes_turn : State → List Bytes → Turn
yes_turn st fs = if st.body.handed || not (same (only_field fs) (bytes "YES")) stop 9 else Go (with_body st (with_yes st.body))

unfoldable pub yes_line : State → List Bytes → Turn
yes_line st fs = unless_blank st fs (yes_turn st fs)

-- END: 8 "JCAMP-CS, ORIGIN, OWNER, MOLFORM or an ATOMLIST with a row missing at END"; "END with a value is refused 9"; of STEREOMOLECULE "on the END line, before 15,
-- no value 9 and YES beside any centre or pair row 13"; 15 "formula and atoms differ"; 41, "tested on the END line after 15"; 42 "a value above MAX_XYZ, also tested
-- there, after 41"
unfoldable pub lacks : (seen : List Label) → (code : ℕ) → Bool
lacks seen c = not (any (λ x. eqb x.code c) seen)

-- 41 "one or two of the three labels present without the rest"
unfoldable pub partly : (seen : List Label) → (codes : List ℕ) → Bool
partly seen cs = any (lacks seen) cs && not (all (lacks seen) cs)

unfoldable pub end_turn : Rules → State → List Bytes → Turn
end_turn u st fs =
    if any (lacks st.seen) (2 ∷ 3 ∷ 4 ∷ 5 ∷ []) || eqb (atom_count st) 0 stop 8
    else if not (is_nil fs) || not (lacks st.seen 17 || st.body.handed) stop 9
    else if handed_twice st.body stop 13
    else if u.totals && not (agree st.formula (entries_of st.body.atoms)) stop 15
    else if partly st.seen (14 ∷ 15 ∷ 16 ∷ []) stop 41
    else if exceeds st.geometry stop 42
    else Go st

-- "What follows `=` on a label line counts as the record's first line."
unfoldable pub value_turn : Rules → Holds → State → (from : ℕ) → Bytes → Turn
value_turn u (Text i) st from v = Go (with_text st i (prose from v))
value_turn u Version st from v = version_turn st (fields (strip v))
value_turn u Formula st from v = formula_turn u.elements st (formula_shape (strip v))
value_turn u BlockId st from v = id_turn st (fields (strip v))
value_turn u Atoms st from v = atom_line u.elements st (fields (strip v))
value_turn u (Rows l) st from v = row_line l st (fields (strip v))
value_turn u (Xyz x) st from v = xyz_value x st (fields (strip v))
value_turn u Handedness st from v = yes_line st (fields (strip v))
value_turn u End st from v = end_turn u st (fields (strip v))
value_turn u Skipped st from v = Go st

-- A further line of the record. "These and MOLFORM have their value on the label line; a further row is refused 9." 17 "a line with a non-blank byte after END"
unfoldable pub blank_or : ℕ → State → Bytes → Turn
blank_or n st l = if not (all gap l) stop n else Go st

-- of MAX_XYZ and XYZ_FACTOR "a further row is 9"
unfoldable pub xyz_further : XyzOf → State → Bytes → Turn
xyz_further MaxXyz st l = blank_or 9 st l
xyz_further XyzFactor st l = blank_or 9 st l
xyz_further XyzRows st l = xyz_line st (fields l)

abbrev pub extended : Prose → Bytes → Prose
extended t l = prose t.place (t.body ++ l)

unfoldable pub further_turn : Rules → Holds → State → Bytes → Turn
further_turn u (Text i) st l = Go (with_text st i (extended (get_or st.texts i (prose 0 [])) l))
further_turn u Version st l = blank_or 9 st (strip l)
further_turn u Formula st l = blank_or 9 st (strip l)
further_turn u BlockId st l = blank_or 9 st (strip l)
further_turn u Atoms st l = atom_line u.elements st (fields (strip l))
further_turn u (Rows r) st l = row_line r st (fields (strip l))
further_turn u (Xyz x) st l = xyz_further x st (strip l)
further_turn u Handedness st l = yes_line st (fields (strip l))
further_turn u End st l = blank_or 17 st l
further_turn u Skipped st l = Go st

-- whether the END line has been read
abbrev pub over : Holds → Bool
over (Text i) = false
over Version = false
over Formula = false
over BlockId = false
over Atoms = false
over (Rows l) = false
over (Xyz x) = false
over Handedness = false
over End = true
over Skipped = false

-- the state after a label: an unknown one is not counted among the seen
abbrev pub noted : (code : ℕ) → Label → List Label → List Label
noted c x seen = elim (eqb c 0) [ true ↦ seen | false ↦ x ∷ seen ]

abbrev pub opened : State → Label → State
opened st x = record { at = st.at; seen = noted x.code x st.seen; running = x.holds; texts = st.texts; formula = st.formula; geometry = st.geometry; body = st.body }

-- A line that has passed 3 and 4. "On a line after END only 3, 5, 6 and 17 are tested"
unfoldable pub line_turn : Rules → State → Bytes → Line → Turn
line_turn u st l Plain = further_turn u st.running st l
line_turn u st l Unparted = Stop 5
line_turn u st l (Labelled x v) =
    if misplaced st.seen x stop 6
    else if over st.running stop 17
    else value_turn u x.holds (opened st x) (st.at + (length l - length v)) v

-- 3 "a byte not allowed"; 4 "first line is no TITLE line"
unfoldable pub line_step : Rules → State → Bytes → Turn
line_step u st l =
    if not (all allowed l) stop 3
    else if is_nil st.seen && not (title_line l) stop 4
    else line_turn u st l (line_of l)

-- The lines in turn. 4 "or the block is empty"; 16 "no END line", its place the block's length
pub data Outcome : Type 0 where
  Accepted : State → Outcome
  Refused : (number place : ℕ) → Outcome

abbrev pub ending : (over empty : Bool) → State → Outcome
ending true empty st = Accepted st
ending false true st = Refused 4 0
ending false false st = Refused 16 st.at

unfoldable pub read_lines : Rules → State → List Bytes → Outcome
read_lines u st [] = ending (over st.running) (is_nil st.seen) st
read_lines u st (l ∷ ls) = elim (line_step u st l) [ Go next ↦ read_lines u (past l next) ls | Stop n ↦ Refused n st.at ]

unfoldable pub start : State
start = record {
  at = 0;
  seen = [];
  running = Skipped;
  texts = prose 0 [] ∷ prose 0 [] ∷ prose 0 [] ∷ [];
  formula = [];
  geometry = no_geometry;
  body = record { atoms = []; bonds = []; charges = []; radicals = []; centres = []; pairs = []; id = 0; handed = false };
}

-- The lists sorted, the texts trimmed: "start and length in the block of title, origin, owner (empty: 0, 0)"
unfoldable pub finished : Structure → Structure
finished s = record {
  atoms = s.atoms;
  bonds = sort row_before s.bonds;
  charges = sort row_before s.charges;
  radicals = sort row_before s.radicals;
  centres = sort row_before s.centres;
  pairs = sort row_before s.pairs;
  id = s.id;
  handed = s.handed;
}

pub record Span : Type 0 where
  pub place : ℕ
  pub size : ℕ

abbrev pub span_from : ℕ → Bytes → Span
span_from p [] = record { place = 0; size = 0 }
span_from p (b ∷ s) = record { place = p; size = suc (length s) }

unfoldable pub span_of : Prose → Span
span_of t = span_from (t.place + lead t.body) (trim t.body)

-- A block's reading: its structure, where its texts stand and its geometry, or the refusal's number and place. 2 "block over 32,768 bytes"
pub data Reading : Type 0 where
  Read : Structure → List Span → Geometry → Reading
  Unread : (number place : ℕ) → Reading

abbrev pub reading_of : Outcome → Reading
reading_of (Accepted st) = Read (finished st.body) (map span_of st.texts) st.geometry
reading_of (Refused n p) = Unread n p

unfoldable pub read_block : Rules → Bytes → Reading
read_block u b = elim (ltb 32768 (length b)) [ true ↦ Unread 2 0 | false ↦ reading_of (read_lines u start (cut b)) ]
