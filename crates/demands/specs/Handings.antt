-- Cases of document 02, L4 "Helical molecules": two neon atoms, and STEREOMOLECULE in all the ways that L4 names. Assumes nothing.
use Rattle.std.specs.Prelude.{List, [], ◌∷◌}
use Rattle.demands.specs.Cases.{Case, ◌gives◌at◌}

unfoldable pub handings : List Case
handings =
    ("##TITLE= a\n##JCAMP-CS= 3.7\n##ORIGIN= b\n##OWNER= c\n##MOLFORM= Ne2\n##ATOMLIST=\n1 Ne\n2 Ne\n##STEREOMOLECULE= YES\n##END=\n" gives 0 at 0)  -- on the label line
    ∷ ("##TITLE= a\n##JCAMP-CS= 3.7\n##ORIGIN= b\n##OWNER= c\n##MOLFORM= Ne2\n##ATOMLIST=\n1 Ne\n2 Ne\n##STEREOMOLECULE=\nYES\n##END=\n" gives 0 at 0)  -- on the next row
    ∷ ("##TITLE= a\n##JCAMP-CS= 3.7\n##ORIGIN= b\n##OWNER= c\n##MOLFORM= Ne2\n##ATOMLIST=\n1 Ne\n2 Ne\n##stereo molecule= $$ as a whole\n\n YES $$ handed\n##END=\n" gives 0 at 0)  -- the next row behind a blank line and comments; the label spelt otherwise
    ∷ ("##TITLE= a\n##JCAMP-CS= 3.7\n##ORIGIN= b\n##OWNER= c\n##MOLFORM= Ne2\n##ATOMLIST=\n1 Ne\n2 Ne\n##STEREOMOLECULE= yes\n##END=\n" gives 9 at 87)  -- another value
    ∷ ("##TITLE= a\n##JCAMP-CS= 3.7\n##ORIGIN= b\n##OWNER= c\n##MOLFORM= Ne2\n##ATOMLIST=\n1 Ne\n2 Ne\n##STEREOMOLECULE= NO\n##END=\n" gives 9 at 87)  -- and another
    ∷ ("##TITLE= a\n##JCAMP-CS= 3.7\n##ORIGIN= b\n##OWNER= c\n##MOLFORM= Ne2\n##ATOMLIST=\n1 Ne\n2 Ne\n##STEREOMOLECULE= YES YES\n##END=\n" gives 9 at 87)  -- two fields are no YES
    ∷ ("##TITLE= a\n##JCAMP-CS= 3.7\n##ORIGIN= b\n##OWNER= c\n##MOLFORM= Ne2\n##ATOMLIST=\n1 Ne\n2 Ne\n##STEREOMOLECULE= YES\nYES\n##END=\n" gives 9 at 109)  -- a second row, though it says the same
    ∷ ("##TITLE= a\n##JCAMP-CS= 3.7\n##ORIGIN= b\n##OWNER= c\n##MOLFORM= Ne2\n##ATOMLIST=\n1 Ne\n2 Ne\n##STEREOMOLECULE=\n##END=\n" gives 9 at 105)  -- no value at all: told on the END line
    ∷ ("##TITLE= a\n##JCAMP-CS= 3.7\n##ORIGIN= b\n##OWNER= c\n##MOLFORM= Ne3\n##ATOMLIST=\n1 Ne\n2 Ne\n##STEREOMOLECULE=\n##END=\n" gives 9 at 105)  -- no value, and a wrong formula: 9 comes first
    ∷ ("##TITLE= a\n##JCAMP-CS= 3.7\n##ORIGIN= b\n##OWNER= c\n##MOLFORM= Ne2\n##ATOMLIST=\n1 Ne\n2 Ne\n##STEREOMOLECULE=\n##STEREOCENTER=\n1 P\n##END=\n" gives 9 at 125)  -- no value beside a centre: no YES stands beside it
    ∷ ("##TITLE= a\n##JCAMP-CS= 3.7\n##ORIGIN= b\n##OWNER= c\n##MOLFORM= Ne2\n##ATOMLIST=\n1 Ne\n2 Ne\n##STEREOMOLECULE= YES\n##STEREOCENTER=\n##END=\n" gives 0 at 0)  -- beside STEREOCENTER without a row
    ∷ ("##TITLE= a\n##JCAMP-CS= 3.7\n##ORIGIN= b\n##OWNER= c\n##MOLFORM= Ne2\n##ATOMLIST=\n1 Ne\n2 Ne\n##STEREOMOLECULE= YES\n##STEREOCENTER=\n1 P\n##END=\n" gives 13 at 129)  -- beside a centre
    ∷ ("##TITLE= a\n##JCAMP-CS= 3.7\n##ORIGIN= b\n##OWNER= c\n##MOLFORM= Ne2\n##ATOMLIST=\n1 Ne\n2 Ne\n##STEREOPAIR=\n1 2 0\n##STEREOMOLECULE= YES\n##END=\n" gives 13 at 129)  -- beside a pair, which stands before it; 0 is a row too
    ∷ ("##TITLE= a\n##JCAMP-CS= 3.7\n##ORIGIN= b\n##OWNER= c\n##MOLFORM= Ne3\n##ATOMLIST=\n1 Ne\n2 Ne\n##STEREOMOLECULE= YES\n##STEREOCENTER=\n1 P\n##END=\n" gives 13 at 129)  -- beside a centre, and a wrong formula: 13 comes first
    ∷ ("##TITLE= a\n##JCAMP-CS= 3.7\n##ORIGIN= b\n##OWNER= c\n##MOLFORM= Ne2\n##ATOMLIST=\n1 Ne\n2 Ne\n##STEREOMOLECULE= YES\n##RADICAL=\n1 1\n##END=\n" gives 0 at 0)  -- before RADICAL
    ∷ ("##TITLE= a\n##JCAMP-CS= 3.7\n##ORIGIN= b\n##OWNER= c\n##MOLFORM= Ne2\n##ATOMLIST=\n1 Ne\n2 Ne\n##RADICAL=\n1 1\n##STEREOMOLECULE= YES\n##END=\n" gives 0 at 0)  -- behind RADICAL
    ∷ ("##TITLE= a\n##JCAMP-CS= 3.7\n##ORIGIN= b\n##OWNER= c\n##MOLFORM= Ne2\n##ATOMLIST=\n1 Ne\n2 Ne\n##STEREOMOLECULE= YES\n##CHARGE=\n##END=\n" gives 6 at 109)  -- CHARGE behind it
    ∷ ("##TITLE= a\n##JCAMP-CS= 3.7\n##ORIGIN= b\n##OWNER= c\n##MOLFORM= Ne2\n##ATOMLIST=\n1 Ne\n2 Ne\n##STEREOMOLECULE= YES\n##STEREOMOLECULE= YES\n##END=\n" gives 6 at 109)  -- the label twice
    ∷ []
