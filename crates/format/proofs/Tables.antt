-- The two tables among the definitions, said another way and compared by computation: the elements in alphabetical order with their numbers, and which label
-- must follow which, by document 01's sentence. Assumes nothing.
use Prim.Native.String.{String}
use mathlib.Core.Path.{◌≡◌, refl}
use mathlib.Core.Bool.{Bool, true, false, ◌&&◌, not}
use mathlib.Core.List.{List, [], ◌∷◌, map}
use lib.ListN.{length}
use Rattle.lists.specs.Lists.{all, pairs}
use Rattle.format.specs.Bytes.{bytes, fields}
use Rattle.format.specs.Labels.{Label, known, lookup, misplaced}
use Rattle.format.specs.Structure.{symbols, place_of}
use Rattle.format.proofs.Computing.{computing}

-- there are 103, and each stands at its atomic number
pub elements_numbered :
    (length symbols ≡ 103)
    × (map (λ w. place_of 1 w symbols) (fields (bytes "Ac Ag Al Am Ar As At Au B Ba Be Bi Bk Br C Ca Cd Ce Cf Cl Cm Co Cr Cs Cu Dy Er Es Eu F Fe Fm Fr Ga Gd Ge H He Hf Hg Ho I In Ir K Kr La Li Lr Lu Md Mg Mn Mo N Na Nb Nd Ne Ni No Np O Os P Pa Pb Pd Pm Po Pr Pt Pu Ra Rb Re Rh Rn Ru S Sb Sc Se Si Sm Sn Sr Ta Tb Tc Te Th Ti Tl Tm U V W Xe Y Yb Zn Zr"))
    ≡ 89 ∷ 47 ∷ 13 ∷ 95 ∷ 18 ∷ 33 ∷ 85 ∷ 79 ∷ 5 ∷ 56 ∷ 4 ∷ 83 ∷ 97 ∷ 35 ∷ 6 ∷ 20 ∷ 48 ∷ 58 ∷ 98 ∷ 17 ∷ 96 ∷ 27 ∷ 24 ∷ 55 ∷ 29 ∷ 66 ∷ 68 ∷ 99 ∷ 63 ∷ 9 ∷ 26 ∷ 100 ∷ 87 ∷ 31 ∷ 64 ∷ 32 ∷ 1 ∷ 2 ∷ 72 ∷ 80 ∷ 67 ∷ 53 ∷ 49 ∷ 77 ∷ 19 ∷ 36 ∷ 57 ∷ 3 ∷ 103 ∷ 71 ∷ 101 ∷ 12 ∷ 25 ∷ 42 ∷ 7 ∷ 11 ∷ 41 ∷ 60 ∷ 10 ∷ 28 ∷ 102 ∷ 93 ∷ 8 ∷ 76 ∷ 15 ∷ 91 ∷ 82 ∷ 46 ∷ 61 ∷ 84 ∷ 59 ∷ 78 ∷ 94 ∷ 88 ∷ 37 ∷ 75 ∷ 45 ∷ 86 ∷ 44 ∷ 16 ∷ 51 ∷ 21 ∷ 34 ∷ 14 ∷ 62 ∷ 50 ∷ 38 ∷ 73 ∷ 65 ∷ 43 ∷ 52 ∷ 90 ∷ 22 ∷ 81 ∷ 69 ∷ 92 ∷ 23 ∷ 74 ∷ 54 ∷ 39 ∷ 70 ∷ 30 ∷ 40 ∷ [])
unfolding computing
elements_numbered = (refl, refl)

abbrev the : String → Label
the name = lookup (bytes name) known

-- a comes before b: b may follow a, and a is out of order where b has been seen
abbrev ordered : Label → Label → Bool
ordered a b = misplaced (b ∷ []) a && not (misplaced (a ∷ []) b)

-- each may follow the other
abbrev free : Label → Label → Bool
free a b = not (misplaced (a ∷ []) b) && not (misplaced (b ∷ []) a)

abbrev unordered : Label → Label → Bool
unordered a b = not (ordered a b)

abbrev bound : Label → Label → Bool
bound a b = not (free a b)

abbrev core : List Label → List Label
core rest = the "TITLE" ∷ the "JCAMPCS" ∷ the "ORIGIN" ∷ the "OWNER" ∷ the "MOLFORM" ∷ the "ATOMLIST" ∷ the "BONDLIST" ∷ the "CHARGE" ∷ rest

-- "TITLE, JCAMP-CS, ORIGIN, OWNER, MOLFORM, ATOMLIST, BONDLIST, CHARGE in this order; RADICAL, STEREOCENTER, STEREOPAIR in any order after those; BLOCK_ID after
-- JCAMP-CS; END last. Each at most once." MAX_XYZ, XYZ_FACTOR and XYZ "after the core, in any order with the other shell labels, each at most once" (document 02, L2), and so
-- STEREOMOLECULE (document 02, L4)
pub labels_ordered :
    (pairs unordered (core (the "RADICAL" ∷ the "END" ∷ [])) ≡ false)
    × (pairs unordered (core (the "STEREOCENTER" ∷ the "END" ∷ [])) ≡ false)
    × (pairs unordered (core (the "STEREOPAIR" ∷ the "END" ∷ [])) ≡ false)
    × (pairs unordered (core (the "MAXXYZ" ∷ the "END" ∷ [])) ≡ false)
    × (pairs unordered (core (the "XYZFACTOR" ∷ the "END" ∷ [])) ≡ false)
    × (pairs unordered (core (the "XYZ" ∷ the "END" ∷ [])) ≡ false)
    × (pairs unordered (core (the "STEREOMOLECULE" ∷ the "END" ∷ [])) ≡ false)
    × (pairs bound (the "RADICAL" ∷ the "STEREOCENTER" ∷ the "STEREOPAIR" ∷ the "MAXXYZ" ∷ the "XYZFACTOR" ∷ the "XYZ" ∷ the "STEREOMOLECULE" ∷ the "BLOCKID" ∷ []) ≡ false)
    × (pairs unordered (the "TITLE" ∷ the "JCAMPCS" ∷ the "BLOCKID" ∷ the "END" ∷ []) ≡ false)
    × (all (free (the "BLOCKID")) (the "ORIGIN" ∷ the "OWNER" ∷ the "MOLFORM" ∷ the "ATOMLIST" ∷ the "BONDLIST" ∷ the "CHARGE" ∷ []) ≡ true)
    × (all (λ x. misplaced (x ∷ []) x) known ≡ true)
    × (all (free (the "DATE")) known ≡ true)
unfolding computing
labels_ordered = (refl, refl, refl, refl, refl, refl, refl, refl, refl, refl, refl, refl)
