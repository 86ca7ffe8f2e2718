-- The demands of document 01, as document 02, L2 and L4, has changed them, and what L2 and L4 ask: each in its words and in one statement, proved by one citation. Nothing else
-- stands in this file. Assumes nothing.
use Prim.Native.Nat.{ℕ, ◌+◌, ◌*◌, ◌^◌, ◌≤◌, ◌<◌}
use mathlib.Core.Path.{◌≡◌}
use mathlib.Core.Bool.{true, false}
use mathlib.Core.Logic.{◌⊎◌}
use Rattle.std.specs.declared.option.Option.TheVariants.{Some}
use mathlib.Core.List.{List, [], ◌∷◌, ◌++◌, map}
use lib.ListN.{length, get_or, drop, replicate}
use lib.IntN.{ℤ, pos, nat_abs, ◌*ℤ◌}
use lib.Dec.{ltb}
use lib.Ieee.{Float}
use Rattle.lists.specs.Lists.{all, any}
use Rattle.format.specs.Bytes.{Bytes, bytes, is_in, cut, strip, whole}
use Rattle.format.specs.Labels.{ListOf, end_line}
use Rattle.format.specs.Rows.{Row}
use Rattle.format.specs.Formula.{Counted, formula_shape}
use Rattle.format.specs.Grammar.{Says}
use Rattle.format.specs.Coordinates.{Factor, Geometry, coordinate, Near, minus_of, position_table}
use Rattle.format.specs.Structure.{Isotope, Entry, entries_of, total, agree, Atom, Structure, rows_of, well_formed}
use Rattle.format.specs.Reading.{strict, Span, Read, read_block}
use Rattle.format.specs.Table.{zeros, width, row_place, atom_place, text_place, row_cells, span_cells, encode, text_fine, text_at, sound, Lent, lent, noughts, short, overlaid, ample, read_answer, read_result}
use Rattle.format.specs.Writing.{valued, formula_of, print_formula, fragments, canonical, form_of, unwritten, written_as, write_result}
use Rattle.format.specs.Walking.{block, piece, pieces, Answer, told_of, answers}
use Rattle.format.proofs.TotalLaws as totals
use Rattle.format.proofs.GrammarLaws as grammar
use Rattle.format.proofs.CoordinateLaws as coordinates
use Rattle.demands.specs.Cases.{judged}
use Rattle.demands.specs.Starred.{starred}
use Rattle.demands.specs.Neighbours.{neighbours}
use Rattle.demands.specs.Placings.{placings}
use Rattle.demands.specs.Handings.{handings}
use Rattle.demands.specs.Examples.{formic_input, formic_written, formic_table, placed_neon, placed_positions, cyclooctene_input, cyclooctene_written, cyclooctene_table, hydrate_input, hydrate_written, hydrate_table, neon, wrong_neon, example_file, printed_all, example_lines}
use Rattle.demands.specs.Stretches.{closing, opening, moved, ◌then◌, texts_told, texts_from, Chain, strays_adjoin, title_in_stray, steps}
use Rattle.demands.specs.WayBack.{ReadBack, TableBack, WrittenAgain, OneBlock}
use Rattle.demands.specs.Accepted.{entries_as, xyz_rows, factor_in, Obeys, ◌exactly_when◌}
use Rattle.demands.specs.Positions.{AllNear, PositionTold}
use Rattle.demands.specs.Handed.{number_at, HandedTold, HandedAlone}
use Rattle.demands.specs.Groups.{Joined, lowest_in, AtomOf, IsLowest, lowest_atoms, group_in, entries_in}
use Rattle.demands.specs.ReadAs.{structure_in, spans_in, geometry_in}
use Rattle.demands.specs.ReadWritten.{form_in}
use Rattle.demands.specs.Places.{numbers_at, atom_numbers}
use Rattle.demands.specs.Demands.{Demand1, Demand2, Demand3}
use Rattle.demands.proofs.Accepted as accepted
use Rattle.demands.proofs.AcceptedSound as kept
use Rattle.demands.proofs.ReadAs as read
use Rattle.demands.proofs.Worked as worked
use Rattle.demands.proofs.Refused as refused
use Rattle.demands.proofs.Stretches as stretches
use Rattle.demands.proofs.WayBack as back
use Rattle.demands.proofs.WayBackTables as tables
use Rattle.demands.proofs.WayBackSound as again
use Rattle.demands.proofs.WayBackWalk as walk
use Rattle.demands.proofs.PlacesHold as places
use Rattle.demands.proofs.TextsTold as told
use Rattle.demands.proofs.Strays as strays
use Rattle.demands.proofs.Positions as positions
use Rattle.demands.proofs.PositionsGiven as given
use Rattle.demands.proofs.Handed as handed
use Rattle.demands.proofs.Fragments as groups
use Rattle.demands.proofs.Today as today

-- DEMAND 1
-- "A refused reading zeroes the structure table, save where that table is too short and is untouched."; L2: positions are "cleared on refusals other than 1", and "a
-- short position table is 1, nothing touched": where either table is too short, both stay as lent
pub refused_zero : (k : ℕ) (b : Bytes) (t : List ℤ) (p : List Float) → 3856 ≤ length t → 1024 ≤ length p → ((read_result k b (lent t p)).number ≡ 0 → ⊥) →
    (read_result k b (lent t p)).after ≡ lent (zeros 3856 ++ drop 3856 t) (noughts 1024 ++ drop 1024 p)
refused_zero = refused.refused_zero

pub short_untouched : (k : ℕ) (b : Bytes) (t : List ℤ) (p : List Float) → (length t < 3856) ⊎ (length p < 1024) → read_result k b (lent t p) ≡ read_answer 1 0 (lent t p)
short_untouched = refused.short_untouched

-- "A refused writing changes nothing.": it answers 0 bytes and leaves the buffer as lent
pub refused_write : (k : ℕ) (t : List ℤ) (b buffer : Bytes) → ((write_result k t b buffer).number ≡ 0 → ⊥) → write_result k t b buffer ≡ unwritten (write_result k t b buffer).number buffer
refused_write = refused.refused_write

-- DEMAND 2
-- a block is accepted exactly when each line breaks no rule of its own, MOLFORM says a formula by the grammar, the labels stand in order, no two rows of one list clash,
-- the lists keep their limits, the required records are there, the formula's totals are the atoms' for every element and mass, the rows of XYZ name listed atoms, ascend
-- and keep MAX_XYZ, which stands with XYZ_FACTOR and XYZ or not at all, STEREOMOLECULE has its YES once and no row of STEREOCENTER or STEREOPAIR beside it, and one END
-- line stands there with only blanks behind it
pub accepted_iff : (k : ℕ) (b : Bytes) (l : Lent) → short l ≡ false → ((read_result k b l).number ≡ 0) exactly_when Obeys k b
accepted_iff = accepted.accepted_iff

-- and its table is then, number for number, that of its atoms in order, of the rows of each list sorted and without repeats, of its block id, of its YES and of its
-- texts; and its positions are those of its factor and its rows of XYZ
pub table_is : (k : ℕ) (b : Bytes) (l : Lent) → short l ≡ false → Obeys k b → read_result k b l ≡ read_answer 0 0 (overlaid (encode (structure_in k b) (spans_in b)) (position_table (geometry_in b)) l)
table_is = read.table_is

-- "MOLFORM: entries of a symbol and an optional count ..": the machine that reads a formula gives a list of entries exactly when the grammar says that list of its
-- bytes; and the grammar says no two lists of them
pub formula_grammar : (v : Bytes) (cs : List Counted) → (formula_shape v ≡ Some cs) exactly_when Says v cs
formula_grammar = grammar.formula_grammar

pub formula_once : (v : Bytes) (cs ds : List Counted) → Says v cs → Says v ds → cs ≡ ds
formula_once = grammar.formula_once

-- of every accepted block the structure is well-formed, the texts are fine, and the table is sound with the block as the texts' bytes (1 ≤ k: D and T are hydrogen)
pub read_sound : (k : ℕ) (b : Bytes) (s : Structure) (spans : List Span) (p : Geometry) → 1 ≤ k → read_block (strict k) b ≡ Read s spans p →
    (well_formed k s ≡ true) × (all text_fine (map (text_at b) spans) ≡ true) × (sound k (encode s spans) b ≡ true)
read_sound = kept.read_sound

pub accepted_sound : (k : ℕ) (b : Bytes) (t : Lent) → 1 ≤ k → short t ≡ false → (read_result k b t).number ≡ 0 → sound k (read_result k b t).after.table b ≡ true
accepted_sound = kept.accepted_sound

-- so what was read can be written: the answer is the form of what the block was read as, or 23, it passes 32,768 bytes, or 22, the buffer is shorter; never 1 or 21
pub read_written : (k : ℕ) (b : Bytes) (t : Lent) → 1 ≤ k → short t ≡ false → (read_result k b t).number ≡ 0 → (buffer : Bytes) →
    write_result k (read_result k b t).after.table b buffer ≡ written_as (ltb 32768 (length (form_in k b))) (ltb (length buffer) (length (form_in k b))) (form_in k b) buffer
read_written = kept.read_written

pub read_then_written : (k : ℕ) (b : Bytes) (t : Lent) → 1 ≤ k → short t ≡ false → (read_result k b t).number ≡ 0 → (buffer : Bytes) →
    is_in (write_result k (read_result k b t).after.table b buffer).number (0 ∷ 22 ∷ 23 ∷ []) ≡ true
read_then_written = kept.read_then_written

-- and what is read, written and read again gives a sound table with the same numbers but for the starts of the texts, where texts of the same content stand
pub read_written_read : (k : ℕ) (b : Bytes) (t : Lent) → 1 ≤ k → short t ≡ false → (read_result k b t).number ≡ 0 → (buffer : Bytes) (into : Lent) → k ≤ 103 →
    length (form_of (read_result k b t).after.table b) ≤ 32768 → length (form_of (read_result k b t).after.table b) ≤ length buffer → short into ≡ false → TableBack k (read_result k b t).after.table b buffer into
read_written_read = kept.read_written_read

-- there are blocks that obey and blocks that do not: the neon block, the one with `2 Ne`
pub obeying_met : Obeys 103 (bytes neon) × (Obeys 103 (bytes wrong_neon) → ⊥)
obeying_met = accepted.neon_obeys

-- "At END, for every element and mass, the formula's total over all fragments equals the atoms listed": the finite test is that rule
pub totals_agree : (es fs : List Entry) → agree es fs ≡ true → (i : Isotope) → total i es ≡ total i fs
totals_agree es fs = totals.agree_every es fs

pub totals_enough : (es fs : List Entry) → ((i : Isotope) → total i es ≡ total i fs) → agree es fs ≡ true
totals_enough es fs = totals.every_agree es fs

-- "Marked * to be proved.": the starred cases as one list, then the others of "Neon and its neighbours"
pub starred_hold : map judged starred ≡ map (λ c. c.answer) starred
starred_hold = worked.starred_hold

pub neighbours_hold : map judged neighbours ≡ map (λ c. c.answer) neighbours
neighbours_hold = worked.neighbours_hold

-- formic acid is read to its table, and that table is written as document 01 has it, byte for byte
pub formic_read : read_result 103 (bytes formic_input) ample ≡ read_answer 0 0 (lent formic_table (noughts 1024))
formic_read = worked.formic_read

pub formic_written_lem : write_result 103 formic_table (bytes formic_input) (replicate 158 7) ≡ record { number = 0; count = 156; buffer = bytes formic_written ++ (7 ∷ 7 ∷ []) }
formic_written_lem = worked.formic_written_lem

-- the way back: the written form of a well-formed structure and of three fine texts, if it fits, is read as that structure, with texts of the same content
pub way_back : (k : ℕ) (s : Structure) (title origin owner : Bytes) → k ≤ 103 → well_formed k s ≡ true → all text_fine (title ∷ origin ∷ owner ∷ []) ≡ true →
    length (canonical s (title ∷ origin ∷ owner ∷ [])) ≤ 32768 → ReadBack k s (title ∷ origin ∷ owner ∷ [])
way_back = back.way_back

-- and over tables: a sound table whose form fits the limit and the buffer is written, and "reading it back gives the same table and texts, though the texts may stand
-- elsewhere": only the three starts may differ, and the table read back is sound with the form. "XYZ isn't written yet, so demand 2's way back covers the structure table
-- only" (L2): no position is given after the form is read
pub table_back : (k : ℕ) (t : List ℤ) (b buffer : Bytes) (into : Lent) → k ≤ 103 → 3856 ≤ length t → sound k t b ≡ true → length (form_of t b) ≤ 32768 → length (form_of t b) ≤ length buffer →
    short into ≡ false → TableBack k t b buffer into
table_back = tables.table_back

-- a form is written again from its own reading: the table that it is read into is sound, and written into any buffer with room it is the form, byte for byte
pub written_again : (k : ℕ) (s : Structure) (title origin owner : Bytes) → k ≤ 103 → well_formed k s ≡ true → all text_fine (title ∷ origin ∷ owner ∷ []) ≡ true →
    length (canonical s (title ∷ origin ∷ owner ∷ [])) ≤ 32768 → (into : Lent) → short into ≡ false → WrittenAgain k (canonical s (title ∷ origin ∷ owner ∷ [])) into
written_again = again.written_again

-- only a form's first line is a TITLE line and only its last an END line; in a file by itself it is one block
pub canonical_lines : (k : ℕ) (s : Structure) (title origin owner : Bytes) → k ≤ 103 → well_formed k s ≡ true → all text_fine (title ∷ origin ∷ owner ∷ []) ≡ true →
    length (canonical s (title ∷ origin ∷ owner ∷ [])) ≤ 32768 → OneBlock (canonical s (title ∷ origin ∷ owner ∷ []))
canonical_lines = walk.canonical_lines

pub canonical_piece : (k : ℕ) (s : Structure) (title origin owner : Bytes) → k ≤ 103 → well_formed k s ≡ true → all text_fine (title ∷ origin ∷ owner ∷ []) ≡ true →
    length (canonical s (title ∷ origin ∷ owner ∷ [])) ≤ 32768 → pieces (canonical s (title ∷ origin ∷ owner ∷ [])) ≡ piece block 0 (length (canonical s (title ∷ origin ∷ owner ∷ []))) ∷ []
canonical_piece = walk.canonical_piece

-- what stands in the table of a well-formed structure at a record's place is that record: row i of a list, atom i + 1 with its charge and radical row, text i
pub row_in_place : (k : ℕ) (s : Structure) (title origin owner : Span) → well_formed k s ≡ true → (l : ListOf) (i : ℕ) (other : Row) → i < length (rows_of l s) →
    numbers_at (row_place l i) (width l) (encode s (title ∷ origin ∷ owner ∷ [])) ≡ row_cells l (get_or (rows_of l s) i other)
row_in_place = places.row_in_place

pub atom_in_place : (k : ℕ) (s : Structure) (title origin owner : Span) → well_formed k s ≡ true → (i : ℕ) (other : Atom) → i < length s.atoms →
    numbers_at (atom_place i) 5 (encode s (title ∷ origin ∷ owner ∷ [])) ≡ atom_numbers s i other
atom_in_place = places.atom_in_place

pub text_in_place : (s : Structure) (title origin owner : Span) (i : ℕ) (other : Span) → i < 3 →
    numbers_at (text_place i) 2 (encode s (title ∷ origin ∷ owner ∷ [])) ≡ span_cells (get_or (title ∷ origin ∷ owner ∷ []) i other)
text_in_place = places.text_in_place

-- DOCUMENT 02, L2
-- "The result times that power differs from the product by at most the product's size over 2^53, said over whole numbers.": of any row value and any factor that a block can
-- give, with the product's sign
pub coordinate_near : (f : Factor) (v : ℤ) → f.digits ≤ 999999999 → nat_abs v ≤ 999999 → f.decimals ≤ 9 →
    Near (minus_of (v *ℤ pos f.digits)) (nat_abs v * f.digits) (10 ^ f.decimals) (coordinate f v)
coordinate_near = coordinates.coordinate_near

-- and that is every row value and every factor that any block gives
pub positions_near : (b : Bytes) → AllNear (factor_in b) (xyz_rows b)
positions_near = positions.positions_near

-- "per atom 1 if given, X, Y, Z; else four 0": in the table of positions after every accepted reading, the first of an atom's four numbers is 1 exactly when a row of XYZ
-- names the atom; the other three are then that row's coordinates; where no row does, all four are 0
pub positions_given : (k : ℕ) (b : Bytes) (l : Lent) → short l ≡ false → (read_result k b l).number ≡ 0 → (n : ℕ) → 1 ≤ n → n ≤ 256 → PositionTold b n (read_result k b l).after.positions
positions_given = given.positions_given

-- cases of the three labels; and the positions of one block, number for number: with the factor 0.1 a row's 3 is 0.3
pub placings_hold : map judged placings ≡ map (λ c. c.answer) placings
placings_hold = worked.placings_hold

pub placed_read : (read_result 103 (bytes placed_neon) ample).after.positions ≡ placed_positions
placed_read = worked.placed_read

-- DOCUMENT 02, L4
-- "Table number 13 becomes 1": in the table after every accepted reading number 13 is 1 exactly when the block has the YES of STEREOMOLECULE, and else 0
pub handed_given : (k : ℕ) (b : Bytes) (l : Lent) → short l ≡ false → (read_result k b l).number ≡ 0 → HandedTold b (read_result k b l).after.table
handed_given = handed.handed_given

-- "A sound table with 13 set has no centres and no pairs.": where 13 is not 0 it is 1, and the counts of both are 0
pub handed_alone : (k : ℕ) (t : List ℤ) (b : Bytes) → sound k t b ≡ true → (number_at 13 t ≡ pos 0 → ⊥) → HandedAlone t
handed_alone = handed.handed_alone

-- cases of the label; and a ring that is handed as a whole: read to its table, number for number, and written with the YES behind all other records, byte for byte
pub handings_hold : map judged handings ≡ map (λ c. c.answer) handings
handings_hold = worked.handings_hold

pub cyclooctene_read : read_result 103 (bytes cyclooctene_input) ample ≡ read_answer 0 0 (lent cyclooctene_table (noughts 1024))
cyclooctene_read = worked.cyclooctene_read

pub cyclooctene_written_lem : write_result 103 cyclooctene_table (bytes cyclooctene_input) (replicate 294 7) ≡ record { number = 0; count = 292; buffer = bytes cyclooctene_written ++ (7 ∷ 7 ∷ []) }
cyclooctene_written_lem = worked.cyclooctene_written_lem

-- DOCUMENT 02, L1
-- "each group of atoms joined by S, D, T or Q bonds, `A` not counting": two atoms have the same lowest one exactly where a path of such bonds joins them
pub same_group_iff_path : (k : ℕ) (s : Structure) → well_formed k s ≡ true → (a b : ℕ) → AtomOf s a → AtomOf s b → (lowest_in s a ≡ lowest_in s b) exactly_when Joined s.bonds a b
same_group_iff_path = groups.same_group_iff_path

-- it is of their group, and none of the group is lower
pub lowest_of_group : (k : ℕ) (s : Structure) → well_formed k s ≡ true → (a : ℕ) → AtomOf s a → IsLowest s a
lowest_of_group = groups.lowest_of_group

-- "one fragment for each group .., in order of their lowest atom", and "Each keeps the old order inside": of the atoms of the group alone, with their hydrogens
pub fragment_for_each_group : (k : ℕ) (s : Structure) → well_formed k s ≡ true → map entries_in (fragments s) ≡ map (λ i. formula_of (entries_of (group_in s i))) (lowest_atoms s)
fragment_for_each_group = groups.fragment_for_each_group

-- the formula as it is written has, over all its fragments, the atoms' totals
pub fragments_total : (k : ℕ) (s : Structure) → k ≤ 103 → well_formed k s ≡ true → (i : Isotope) → total i (entries_as k (formula_shape (strip (valued (print_formula (fragments s)))))) ≡ total i (entries_of s.atoms)
fragments_total = groups.fragments_total

-- a hydrate: read to its table, number for number, and written with four fragments, byte for byte
pub hydrate_read : read_result 103 (bytes hydrate_input) ample ≡ read_answer 0 0 (lent hydrate_table (noughts 1024))
hydrate_read = worked.hydrate_read

pub hydrate_written_lem : write_result 103 hydrate_table (bytes hydrate_input) (replicate 236 7) ≡ record { number = 0; count = 234; buffer = bytes hydrate_written ++ (7 ∷ 7 ∷ []) }
hydrate_written_lem = worked.hydrate_written_lem

-- DEMAND 3
-- "Take a file of three stretches, within the file limit: the first empty or ending with a block closed by its END line and line feed; the second anything,
-- empty or ending in a line feed; the third empty or starting with a TITLE line. The answers for the file are those for each stretch read alone, one after the
-- other, only the file places moved along." "tables and texts included": an answer carries its block's table, its positions and the bytes of its three texts
pub three_stretches : (k : ℕ) (a b c : Bytes) → length (a ++ (b ++ c)) ≤ 16777216 → closing a ≡ true → whole b ≡ true → opening c ≡ true →
    answers k (a ++ (b ++ c)) ≡ answers k a then moved (length a) (answers k b) then moved (length a + length b) (answers k c)
three_stretches = stretches.three_stretches

-- there are such stretches, none of them empty: the neon block, the one with `2 Ne`, the neon block again
pub stretches_met : (length (bytes neon ++ (bytes wrong_neon ++ bytes neon)) ≤ 16777216) × (closing (bytes neon) ≡ true) × (whole (bytes wrong_neon) ≡ true) × (opening (bytes neon) ≡ true)
stretches_met = stretches.met

-- the texts that an answer tells are of an accepted block the title, origin and owner that its records hold, of a refused one three empty ones; and they stand in
-- the file where the table has them, counted from the block's start
pub accepted_texts : (k : ℕ) (b : Bytes) → Obeys k b → texts_told (told_of k block b) ≡ map (text_at b) (spans_in b)
accepted_texts = told.accepted_texts

pub refused_texts : (k : ℕ) (b : Bytes) → (Obeys k b → ⊥) → texts_told (told_of k block b) ≡ [] ∷ [] ∷ [] ∷ []
refused_texts = told.refused_texts

pub texts_told_lem : (k : ℕ) (s : Bytes) → 1 ≤ k → (l : List Answer) → answers k s ≡ Some l → map (λ a. texts_told a.told) l ≡ map (λ a. texts_from a.of.from s a.told) l
texts_told_lem = told.texts_told_lem

-- "No block without an END line is accepted."
pub accepted_has_end : (k : ℕ) (b : Bytes) (t : Lent) → (read_result k b t).number ≡ 0 → any end_line (cut b) ≡ true
accepted_has_end = stretches.accepted_has_end

-- "So every byte belongs to one answer and the lengths add up to the file's."
pub lengths_add_up : (s : Bytes) → Chain 0 (pieces s) (length s)
lengths_add_up = stretches.chained

-- "The answers for a file are these from place 0 on": what the walk gives step by step, each from where the one before ended, are the pieces of the answers
pub steps_are : (s : Bytes) → length s ≤ 16777216 → steps (length s) s 0 ≡ pieces s
steps_are = stretches.steps_are

-- "stray runs, as long as they can be": none stands right behind another, and in none is a TITLE line, with which a block would start
pub strays_apart : (s : Bytes) → strays_adjoin (pieces s) ≡ false
strays_apart = strays.strays_apart

pub strays_untitled : (s : Bytes) → any (title_in_stray s) (pieces s) ≡ false
strays_untitled = strays.strays_untitled

-- the neon block, the line `junk`, the block with `2 Ne` and a lone TITLE line give the four lines of document 01
pub example_walked : printed_all (answers 103 example_file) ≡ Some example_lines
example_walked = worked.example_walked

-- THE DEMANDS AT THE 103 ELEMENTS OF TODAY: each demand's theorems above, as one, with nothing asked of the number of elements
pub demand_1 : Demand1 103
demand_1 = today.demand_1

pub demand_2 : Demand2 103
demand_2 = today.demand_2

pub demand_3 : Demand3 103
demand_3 = today.demand_3
