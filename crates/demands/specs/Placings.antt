-- Cases of document 02, L2 "Coordinates in Angstrom": three neon atoms, and MAX_XYZ, XYZ_FACTOR and XYZ in all the ways that L2 names. Assumes nothing.
use Rattle.std.specs.Prelude.{List, [], ◌∷◌}
use Rattle.demands.specs.Cases.{Case, ◌gives◌at◌}

unfoldable pub placings : List Case
placings =
    ("##TITLE= a\n##JCAMP-CS= 3.7\n##ORIGIN= b\n##OWNER= c\n##MOLFORM= Ne3\n##ATOMLIST=\n1 Ne\n2 Ne\n3 Ne\n##MAX_XYZ= 65\n##XYZ_FACTOR= 0.01\n##XYZ=\n1 0 0 0\n3 -65 10 +20\n##END=\n" gives 0 at 0)  -- two of three atoms have a position
    ∷ ("##TITLE= a\n##JCAMP-CS= 3.7\n##ORIGIN= b\n##OWNER= c\n##MOLFORM= Ne3\n##ATOMLIST=\n1 Ne\n2 Ne\n3 Ne\n##XYZ=\n1 0 0 0\n3 -65 10 +20\n##XYZ_FACTOR= 0.01\n##MAX_XYZ= 65\n##END=\n" gives 0 at 0)  -- the three in another order
    ∷ ("##TITLE= a\n##JCAMP-CS= 3.7\n##ORIGIN= b\n##OWNER= c\n##MOLFORM= Ne3\n##ATOMLIST=\n1 Ne\n2 Ne\n3 Ne\n##MAX_XYZ= 65\n##XYZ_FACTOR= 0.01\n##XYZ=\n##END=\n" gives 0 at 0)  -- no row
    ∷ ("##TITLE= a\n##JCAMP-CS= 3.7\n##ORIGIN= b\n##OWNER= c\n##MOLFORM= Ne3\n##ATOMLIST=\n1 Ne\n2 Ne\n3 Ne\n##MAX_XYZ= 0\n##XYZ_FACTOR= 0.01\n##XYZ= 2 0 -0 +0\n##END=\n" gives 0 at 0)  -- the first row on the label line; no value is above 0
    ∷ ("##TITLE= a\n##JCAMP-CS= 3.7\n##ORIGIN= b\n##OWNER= c\n##MOLFORM= Ne3\n##ATOMLIST=\n1 Ne\n2 Ne\n3 Ne\n##MAX_XYZ= 65\n##XYZ_FACTOR= .000000001\n##XYZ=\n1 0 0 0\n3 -65 10 +20\n##END=\n" gives 0 at 0)  -- a point before nine digits
    ∷ ("##TITLE= a\n##JCAMP-CS= 3.7\n##ORIGIN= b\n##OWNER= c\n##MOLFORM= Ne3\n##ATOMLIST=\n1 Ne\n2 Ne\n3 Ne\n##MAX_XYZ= 65\n##XYZ_FACTOR= 5.\n##XYZ=\n1 0 0 0\n3 -65 10 +20\n##END=\n" gives 0 at 0)  -- a point behind them
    ∷ ("##TITLE= a\n##JCAMP-CS= 3.7\n##ORIGIN= b\n##OWNER= c\n##MOLFORM= Ne3\n##ATOMLIST=\n1 Ne\n2 Ne\n3 Ne\n##XYZ_SOURCE= x\n##END=\n" gives 0 at 0)  -- another label is skipped
    ∷ ("##TITLE= a\n##JCAMP-CS= 3.7\n##ORIGIN= b\n##OWNER= c\n##MOLFORM= Ne3\n##ATOMLIST=\n1 Ne\n2 Ne\n3 Ne\n##XYZ=\n1 0 0 0\n3 -65 10 +20\n##END=\n" gives 41 at 120)  -- XYZ alone
    ∷ ("##TITLE= a\n##JCAMP-CS= 3.7\n##ORIGIN= b\n##OWNER= c\n##MOLFORM= Ne2\n##ATOMLIST=\n1 Ne\n2 Ne\n3 Ne\n##XYZ=\n1 0 0 0\n3 -65 10 +20\n##END=\n" gives 15 at 120)  -- XYZ alone, and a wrong formula: 15 comes first
    ∷ ("##TITLE= a\n##JCAMP-CS= 3.7\n##ORIGIN= b\n##OWNER= c\n##MOLFORM= Ne3\n##ATOMLIST=\n1 Ne\n2 Ne\n3 Ne\n##XYZ_FACTOR= 0.01\n##XYZ=\n1 0 0 0\n3 -65 10 +20\n##END=\n" gives 41 at 139)  -- MAX_XYZ is missing
    ∷ ("##TITLE= a\n##JCAMP-CS= 3.7\n##ORIGIN= b\n##OWNER= c\n##MOLFORM= Ne3\n##ATOMLIST=\n1 Ne\n2 Ne\n3 Ne\n##MAX_XYZ= 64\n##XYZ_FACTOR= 0.01\n##XYZ=\n1 0 0 0\n3 -65 10 +20\n##END=\n" gives 42 at 153)  -- -65 is above 64
    ∷ ("##TITLE= a\n##JCAMP-CS= 3.7\n##ORIGIN= b\n##OWNER= c\n##MOLFORM= Ne2\n##ATOMLIST=\n1 Ne\n2 Ne\n3 Ne\n##MAX_XYZ= 64\n##XYZ_FACTOR= 0.01\n##XYZ=\n1 0 0 0\n3 -65 10 +20\n##END=\n" gives 15 at 153)  -- the formula is tested before that
    ∷ ("##TITLE= a\n##JCAMP-CS= 3.7\n##ORIGIN= b\n##OWNER= c\n##MOLFORM= Ne3\n##ATOMLIST=\n1 Ne\n2 Ne\n3 Ne\n##MAX_XYZ=\n65\n##XYZ_FACTOR= 0.01\n##XYZ=\n1 0 0 0\n3 -65 10 +20\n##END=\n" gives 9 at 92)  -- the value below its label line
    ∷ ("##TITLE= a\n##JCAMP-CS= 3.7\n##ORIGIN= b\n##OWNER= c\n##MOLFORM= Ne3\n##ATOMLIST=\n1 Ne\n2 Ne\n3 Ne\n##MAX_XYZ= 65\n66\n##XYZ_FACTOR= 0.01\n##XYZ=\n1 0 0 0\n3 -65 10 +20\n##END=\n" gives 9 at 106)  -- a further row
    ∷ ("##TITLE= a\n##JCAMP-CS= 3.7\n##ORIGIN= b\n##OWNER= c\n##MOLFORM= Ne3\n##ATOMLIST=\n1 Ne\n2 Ne\n3 Ne\n##MAX_XYZ= 1000000\n##XYZ_FACTOR= 0.01\n##XYZ=\n1 0 0 0\n3 -65 10 +20\n##END=\n" gives 9 at 92)  -- seven digits
    ∷ ("##TITLE= a\n##JCAMP-CS= 3.7\n##ORIGIN= b\n##OWNER= c\n##MOLFORM= Ne3\n##ATOMLIST=\n1 Ne\n2 Ne\n3 Ne\n##MAX_XYZ= 65\n##XYZ_FACTOR= 1.2.3\n##XYZ=\n1 0 0 0\n3 -65 10 +20\n##END=\n" gives 9 at 106)  -- two points
    ∷ ("##TITLE= a\n##JCAMP-CS= 3.7\n##ORIGIN= b\n##OWNER= c\n##MOLFORM= Ne3\n##ATOMLIST=\n1 Ne\n2 Ne\n3 Ne\n##MAX_XYZ= 65\n##XYZ_FACTOR= .\n##XYZ=\n1 0 0 0\n3 -65 10 +20\n##END=\n" gives 9 at 106)  -- no digit
    ∷ ("##TITLE= a\n##JCAMP-CS= 3.7\n##ORIGIN= b\n##OWNER= c\n##MOLFORM= Ne3\n##ATOMLIST=\n1 Ne\n2 Ne\n3 Ne\n##MAX_XYZ= 65\n##XYZ_FACTOR= 00000000.01\n##XYZ=\n1 0 0 0\n3 -65 10 +20\n##END=\n" gives 9 at 106)  -- ten digits
    ∷ ("##TITLE= a\n##JCAMP-CS= 3.7\n##ORIGIN= b\n##OWNER= c\n##MOLFORM= Ne3\n##ATOMLIST=\n1 Ne\n2 Ne\n3 Ne\n##MAX_XYZ= 65\n##XYZ_FACTOR= 1E-3\n##XYZ=\n1 0 0 0\n3 -65 10 +20\n##END=\n" gives 9 at 106)  -- an exponent
    ∷ ("##TITLE= a\n##JCAMP-CS= 3.7\n##ORIGIN= b\n##OWNER= c\n##MOLFORM= Ne3\n##ATOMLIST=\n1 Ne\n2 Ne\n3 Ne\n##MAX_XYZ= 65\n##XYZ_FACTOR= +1\n##XYZ=\n1 0 0 0\n3 -65 10 +20\n##END=\n" gives 9 at 106)  -- a sign
    ∷ ("##TITLE= a\n##JCAMP-CS= 3.7\n##ORIGIN= b\n##OWNER= c\n##MOLFORM= Ne3\n##ATOMLIST=\n1 Ne\n2 Ne\n3 Ne\n##MAX_XYZ= 65\n##XYZ_FACTOR= 0.0\n##XYZ=\n1 0 0 0\n3 -65 10 +20\n##END=\n" gives 10 at 106)  -- a factor of zero
    ∷ ("##TITLE= a\n##JCAMP-CS= 3.7\n##ORIGIN= b\n##OWNER= c\n##MOLFORM= Ne3\n##ATOMLIST=\n1 Ne\n2 Ne\n3 Ne\n##MAX_XYZ= 65\n##XYZ_FACTOR= 0.01\n##XYZ=\n1 0 0\n##END=\n" gives 9 at 132)  -- two numbers
    ∷ ("##TITLE= a\n##JCAMP-CS= 3.7\n##ORIGIN= b\n##OWNER= c\n##MOLFORM= Ne3\n##ATOMLIST=\n1 Ne\n2 Ne\n3 Ne\n##MAX_XYZ= 65\n##XYZ_FACTOR= 0.01\n##XYZ=\n1 0 0 1000000\n##END=\n" gives 9 at 132)  -- seven digits in a row
    ∷ ("##TITLE= a\n##JCAMP-CS= 3.7\n##ORIGIN= b\n##OWNER= c\n##MOLFORM= Ne3\n##ATOMLIST=\n1 Ne\n2 Ne\n3 Ne\n##MAX_XYZ= 65\n##XYZ_FACTOR= 0.01\n##XYZ=\n4 0 0 0\n##END=\n" gives 11 at 132)  -- atom 4 of three
    ∷ ("##TITLE= a\n##JCAMP-CS= 3.7\n##ORIGIN= b\n##OWNER= c\n##MOLFORM= Ne3\n##ATOMLIST=\n1 Ne\n2 Ne\n3 Ne\n##MAX_XYZ= 65\n##XYZ_FACTOR= 0.01\n##XYZ=\n2 0 0 0\n1 0 0 0\n##END=\n" gives 13 at 140)  -- a falling atom
    ∷ ("##TITLE= a\n##JCAMP-CS= 3.7\n##ORIGIN= b\n##OWNER= c\n##MOLFORM= Ne3\n##ATOMLIST=\n1 Ne\n2 Ne\n3 Ne\n##MAX_XYZ= 65\n##XYZ_FACTOR= 0.01\n##XYZ=\n2 0 0 0\n2 1 0 0\n##END=\n" gives 13 at 140)  -- an atom twice
    ∷ ("##TITLE= a\n##JCAMP-CS= 3.7\n##ORIGIN= b\n##OWNER= c\n##MOLFORM= Ne3\n##ATOMLIST=\n1 Ne\n2 Ne\n3 Ne\n##MAX_XYZ= 65\n##XYZ_FACTOR= 0.01\n##XYZ=\n1 0 0 0\n3 -65 10 +20\n##CHARGE=\n##END=\n" gives 6 at 153)  -- CHARGE behind the three
    ∷ ("##TITLE= a\n##JCAMP-CS= 3.7\n##ORIGIN= b\n##OWNER= c\n##MOLFORM= Ne3\n##ATOMLIST=\n1 Ne\n2 Ne\n3 Ne\n##MAX_XYZ= 65\n##MAX_XYZ= 65\n##XYZ_FACTOR= 0.01\n##XYZ=\n1 0 0 0\n3 -65 10 +20\n##END=\n" gives 6 at 106)  -- MAX_XYZ twice
    ∷ []
