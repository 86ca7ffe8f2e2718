-- The worked examples of document 01: formic acid as it is read and as it is written, and the file of "Walking a transfer file"; and those of document 02: of L2 a block with
-- positions, of L4 a ring that is handed as a whole. Assumes nothing.
use Rattle.std.specs.Prelude.{ℕ, zero, suc, ◌+◌, true, false, List, [], ◌∷◌, ◌++◌, map, get_or, ℤ, pos, negsuc, nat_abs, Float}
use Prim.Native.String.{String}
use Rattle.std.specs.declared.option.Option.{Option}
use Rattle.std.specs.declared.option.Option.TheVariants.{None, Some}
use Rattle.std.specs.Float.{fin}
use Rattle.format.specs.Bytes.{Bytes, bytes}
use Rattle.format.specs.Coordinates.{nought}
use Rattle.format.specs.Table.{zeros, noughts}
use Rattle.format.specs.Walking.{Told, StrayRun, BlockRead, Answer}

-- "This input:"
abbrev pub formic_input : String
formic_input = "##title= formic acid\n##JCAMP_CS= 3.7 $$ by hand\n##ORIGIN= bench 4\n##OWNER= public domain\n##MOLFORM= O/2 C H2\n##ATOMLIST=\n$$ AN AS NH\n1 C 1\n2 O\n3 O 1\n##BONDLIST=\n3 1 S\n1 2 D\n1 3 S\n##END=\n"

-- "is written:"
abbrev pub formic_written : String
formic_written = "##TITLE= formic acid\n##JCAMP-CS= 3.7\n##ORIGIN= bench 4\n##OWNER= public domain\n##MOLFORM= C H2 O2\n##ATOMLIST=\n1 C 1\n2 O\n3 O 1\n##BONDLIST=\n1 2 D\n1 3 S\n##END=\n"

-- its table, by "The structure table": 3 atoms and 2 bonds; where the texts stand; C with one hydrogen, O, O with one hydrogen; 1 2 D and 1 3 S
unfoldable pub formic_table : List ℤ
formic_table =
    pos 3 ∷ pos 2 ∷ (zeros 5 ++ (pos 9 ∷ pos 11 ∷ pos 58 ∷ pos 7 ∷ pos 75 ∷ pos 13 ∷ pos 0 ∷ pos 0 ∷ pos 0
    ∷ pos 6 ∷ pos 0 ∷ pos 1 ∷ pos 0 ∷ pos 0
    ∷ pos 8 ∷ pos 0 ∷ pos 0 ∷ pos 0 ∷ pos 0
    ∷ pos 8 ∷ pos 0 ∷ pos 1 ∷ pos 0 ∷ pos 0 ∷ (zeros 1265
    ++ (pos 1 ∷ pos 2 ∷ pos 2 ∷ pos 1 ∷ pos 3 ∷ pos 1 ∷ zeros 2554))))

-- L2: three neon atoms of which the first and the third have a position. With the factor 0.1, 3 gives 0.3 (the product by the float 0.1 would be 0.30000000000000004),
-- -7 gives -0.7, -0 gives 0, 10 gives 1, 1 gives 0.1: the odd numbers below, times powers of two, are the doubles next to these
abbrev pub placed_neon : String
placed_neon = "##TITLE= a\n##JCAMP-CS= 3.7\n##ORIGIN= b\n##OWNER= c\n##MOLFORM= Ne3\n##ATOMLIST=\n1 Ne\n2 Ne\n3 Ne\n##MAX_XYZ= 10\n##XYZ_FACTOR= 0.1\n##XYZ=\n1 3 -7 -0\n3 10 0 1\n##END=\n"

unfoldable pub placed_positions : List Float
placed_positions =
    fin false 1 (pos 0) ∷ fin false 5404319552844595 (negsuc 53) ∷ fin true 3152519739159347 (negsuc 51) ∷ nought
    ∷ nought ∷ nought ∷ nought ∷ nought
    ∷ fin false 1 (pos 0) ∷ fin false 1 (pos 0) ∷ nought ∷ fin false 3602879701896397 (negsuc 54) ∷ noughts 1012

-- L4: the cation of trans-cyclooctene, handed as a whole and without a centre; its YES stands below its label line and before RADICAL
abbrev pub cyclooctene_input : String
cyclooctene_input = "##TITLE= trans-cyclooctene cation\n##JCAMP-CS= 3.7\n##ORIGIN= bench 4\n##OWNER= public domain\n##MOLFORM= C8 H14\n##ATOMLIST=\n1 C 1\n2 C 1\n3 C 2\n4 C 2\n5 C 2\n6 C 2\n7 C 2\n8 C 2\n##BONDLIST=\n1 2 D\n2 3 S\n3 4 S\n4 5 S\n5 6 S\n6 7 S\n7 8 S\n8 1 S\n##CHARGE=\n+1 1 2\n##STEREOMOLECULE=\nYES $$ no centre\n##STEREOCENTER=\n##RADICAL= 1 1 2\n##END=\n"

-- as it is written: the YES behind all other records, on its label line
abbrev pub cyclooctene_written : String
cyclooctene_written = "##TITLE= trans-cyclooctene cation\n##JCAMP-CS= 3.7\n##ORIGIN= bench 4\n##OWNER= public domain\n##MOLFORM= C8 H14\n##ATOMLIST=\n1 C 1\n2 C 1\n3 C 2\n4 C 2\n5 C 2\n6 C 2\n7 C 2\n8 C 2\n##BONDLIST=\n1 2 D\n1 8 S\n2 3 S\n3 4 S\n4 5 S\n5 6 S\n6 7 S\n7 8 S\n##CHARGE=\n+1 1 2\n##RADICAL=\n1 1 2\n##STEREOMOLECULE= YES\n##END=\n"

-- its table: 8 atoms, 8 bonds, a charge row and a radical row; where the texts stand; 13 is 1; two atoms with one hydrogen, in both rows, six with two; the bonds; +1 and 1
unfoldable pub cyclooctene_table : List ℤ
cyclooctene_table =
    pos 8 ∷ pos 8 ∷ pos 1 ∷ pos 1 ∷ pos 0 ∷ pos 0 ∷ pos 0 ∷ pos 9 ∷ pos 24 ∷ pos 60 ∷ pos 7 ∷ pos 77 ∷ pos 13 ∷ pos 1 ∷ pos 0 ∷ pos 0
    ∷ pos 6 ∷ pos 0 ∷ pos 1 ∷ pos 1 ∷ pos 1
    ∷ pos 6 ∷ pos 0 ∷ pos 1 ∷ pos 1 ∷ pos 1
    ∷ pos 6 ∷ pos 0 ∷ pos 2 ∷ pos 0 ∷ pos 0
    ∷ pos 6 ∷ pos 0 ∷ pos 2 ∷ pos 0 ∷ pos 0
    ∷ pos 6 ∷ pos 0 ∷ pos 2 ∷ pos 0 ∷ pos 0
    ∷ pos 6 ∷ pos 0 ∷ pos 2 ∷ pos 0 ∷ pos 0
    ∷ pos 6 ∷ pos 0 ∷ pos 2 ∷ pos 0 ∷ pos 0
    ∷ pos 6 ∷ pos 0 ∷ pos 2 ∷ pos 0 ∷ pos 0 ∷ (zeros 1240
    ++ (pos 1 ∷ pos 2 ∷ pos 2 ∷ pos 1 ∷ pos 8 ∷ pos 1 ∷ pos 2 ∷ pos 3 ∷ pos 1 ∷ pos 3 ∷ pos 4 ∷ pos 1 ∷ pos 4 ∷ pos 5 ∷ pos 1 ∷ pos 5 ∷ pos 6 ∷ pos 1
    ∷ pos 6 ∷ pos 7 ∷ pos 1 ∷ pos 7 ∷ pos 8 ∷ pos 1 ∷ (zeros 1512
    ++ (pos 1 ∷ (zeros 63 ++ (pos 1 ∷ zeros 959))))))

-- L1: two waters, a sodium and a formate; the waters are bound to the sodium by `A`. The formula is one lump
abbrev pub hydrate_input : String
hydrate_input = "##TITLE= sodium formate dihydrate\n##JCAMP-CS= 3.7\n##ORIGIN= bench 4\n##OWNER= public domain\n##MOLFORM= C H5 Na O4\n##ATOMLIST=\n1 O 2\n2 Na\n3 C 1\n4 O\n5 O\n6 O 2\n##BONDLIST=\n1 2 A\n2 6 A\n3 4 D\n3 5 S\n##CHARGE=\n+1 2\n-1 5\n##END=\n"

-- as it is written: a fragment for each group, by its lowest atom and not by its symbols; the two waters are two fragments, and each hydrogen stands in its atom's
abbrev pub hydrate_written : String
hydrate_written = "##TITLE= sodium formate dihydrate\n##JCAMP-CS= 3.7\n##ORIGIN= bench 4\n##OWNER= public domain\n##MOLFORM= H2 O * Na * C H O2 * H2 O\n##ATOMLIST=\n1 O 2\n2 Na\n3 C 1\n4 O\n5 O\n6 O 2\n##BONDLIST=\n1 2 A\n2 6 A\n3 4 D\n3 5 S\n##CHARGE=\n+1 2\n-1 5\n##END=\n"

-- its table: 6 atoms, 4 bonds and 2 charge rows; where the texts stand; O with two hydrogens, Na in the first row, C with one hydrogen, O, O in the second row, O with two
-- hydrogens; the bonds; +1 and -1
unfoldable pub hydrate_table : List ℤ
hydrate_table =
    pos 6 ∷ pos 4 ∷ pos 2 ∷ pos 0 ∷ pos 0 ∷ pos 0 ∷ pos 0 ∷ pos 9 ∷ pos 24 ∷ pos 60 ∷ pos 7 ∷ pos 77 ∷ pos 13 ∷ pos 0 ∷ pos 0 ∷ pos 0
    ∷ pos 8 ∷ pos 0 ∷ pos 2 ∷ pos 0 ∷ pos 0
    ∷ pos 11 ∷ pos 0 ∷ pos 0 ∷ pos 1 ∷ pos 0
    ∷ pos 6 ∷ pos 0 ∷ pos 1 ∷ pos 0 ∷ pos 0
    ∷ pos 8 ∷ pos 0 ∷ pos 0 ∷ pos 0 ∷ pos 0
    ∷ pos 8 ∷ pos 0 ∷ pos 0 ∷ pos 2 ∷ pos 0
    ∷ pos 8 ∷ pos 0 ∷ pos 2 ∷ pos 0 ∷ pos 0 ∷ (zeros 1250
    ++ (pos 1 ∷ pos 2 ∷ pos 5 ∷ pos 2 ∷ pos 6 ∷ pos 5 ∷ pos 3 ∷ pos 4 ∷ pos 2 ∷ pos 3 ∷ pos 5 ∷ pos 1 ∷ (zeros 1524
    ++ (pos 1 ∷ negsuc 0 ∷ zeros 1022))))

-- "That block, the line `junk`, the block with `2 Ne` instead, and a lone `##TITLE= a` line"
abbrev pub neon : String
neon = "##TITLE= a\n##JCAMP-CS= 3.7\n##ORIGIN= b\n##OWNER= c\n##MOLFORM= Ne\n##ATOMLIST=\n1 Ne\n##END=\n"

abbrev pub wrong_neon : String
wrong_neon = "##TITLE= a\n##JCAMP-CS= 3.7\n##ORIGIN= b\n##OWNER= c\n##MOLFORM= Ne\n##ATOMLIST=\n2 Ne\n##END=\n"

unfoldable pub example_file : Bytes
example_file = bytes neon ++ (bytes "junk\n" ++ (bytes wrong_neon ++ bytes "##TITLE= a\n"))

-- "It prints for a block `B start end number place atoms bonds`, the place counted in the file (0 if accepted), and for a stray run `S start end`."
pub data Printed : Type 0 where
  B : (start end number place atoms bonds : ℕ) → Printed
  S : (start end : ℕ) → Printed

abbrev pub place_in_file : (number from place : ℕ) → ℕ
place_in_file zero from place = 0
place_in_file (suc n) from place = from + place

abbrev pub printed_as : (from to : ℕ) → Told → Printed
printed_as from to StrayRun = S from to
printed_as from to (BlockRead r texts) =
    B from to r.number (place_in_file r.number from r.place) (nat_abs (get_or r.after.table 0 (pos 0))) (nat_abs (get_or r.after.table 1 (pos 0)))

abbrev pub printed : Answer → Printed
printed a = printed_as a.of.from a.of.to a.told

abbrev pub printed_all : Option (List Answer) → Option (List Printed)
printed_all None = None
printed_all (Some l) = Some (map printed l)

-- "give:"
abbrev pub example_lines : List Printed
example_lines = B 0 88 0 0 1 0 ∷ S 88 93 ∷ B 93 181 11 169 0 0 ∷ B 181 192 16 192 0 0 ∷ []
