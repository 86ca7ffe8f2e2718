-- The starred cases of document 01, "Neon and its neighbours": one list. Assumes nothing.
use Rattle.std.specs.Prelude.{List, [], ◌∷◌}
use Rattle.demands.specs.Cases.{Case, ◌gives◌at◌}

-- "Marked * to be proved."
unfoldable pub starred : List Case
starred =
    ("##TITLE= a\n##JCAMP-CS= 3.7\n##ORIGIN= b\n##OWNER= c\n##MOLFORM= Ne\n##ATOMLIST=\n1 Ne\n##END=\n" gives 0 at 0)  -- neon
    ∷ ("" gives 4 at 0)  -- an empty block
    ∷ ("##TITLE= a\n##JCAMP-CS= 3.7\n##ORIGIN= b\n##OWNER= c\n##MOLFORM= Ne\n##ATOMLIST=\n2 Ne\n##END=\n" gives 11 at 76)  -- the first atom's number is 2
    ∷ ("##TITLE= a\n##JCAMP-CS= 3.7\n##ORIGIN= b\n##OWNER= c\n##MOLFORM= Ne\n##ATOMLIST=\n1 ne\n##END=\n" gives 9 at 76)  -- a symbol in lower case
    ∷ ("##TITLE= a\n##JCAMP-CS= 3.7\n##ORIGIN= b\n##OWNER= c\n##MOLFORM= Ne\n##ATOMLIST=\n1 Xx\n##END=\n" gives 12 at 76)  -- no element has this symbol
    ∷ ("##TITLE= a\n##JCAMP-CS= 3.7\n##ORIGIN= b\n##OWNER= c\n##MOLFORM= Ne2\n##ATOMLIST=\n1 Ne\n##END=\n" gives 15 at 82)  -- the formula has one more
    ∷ ("##TITLE= a\n##JCAMP-CS= 3.7\n##ORIGIN= b\n##OWNER= c\n##MOLFORM= Ne0\n##ATOMLIST=\n1 Ne\n##END=\n" gives 10 at 50)  -- a count of 0
    ∷ ("##TITLE= a\n##JCAMP-CS= 3.7\n##ORIGIN= b\n##OWNER= c\n##MOLFORM= Ne\n##ATOMLIST=\n1 Ne\n" gives 16 at 81)  -- the END line gone
    ∷ ("##TITLE= a\n##JCAMP-CS= 3.70\n##ORIGIN= b\n##OWNER= c\n##MOLFORM= Ne\n##ATOMLIST=\n1 Ne\n##END=\n" gives 7 at 11)  -- another version
    ∷ ("##TITLE= a\n##JCAMP-CS= 3.7\n##ORIGIN= b\n##OWNER= c\n##MOLFORM= Ne\n##ATOMLIST=\n1 Ne\n##END=\nx\n" gives 17 at 88)  -- a line after END
    ∷ ("##TITLE= a\n##JCAMP-CS= 3.7\n##ORIGIN= b\n##OWNER= c\n##MOLFORM= Ne\n##ATOMLIST=\n1 Ne\n##END=\n\n" gives 0 at 0)  -- a blank line after END
    ∷ []
