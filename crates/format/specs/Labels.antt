-- Label lines, the known labels and their order: document 01, "Lines and labels"; the paper's Table I. Stricter than the paper: a comment or a tab inside a
-- label is part of it, and the label is then unknown. Assumes nothing.
use Rattle.std.specs.Prelude.{ℕ, ◌-◌, Bool, true, false, ◌||◌, List, [], ◌∷◌, drop, eqb, ltb}
use Prim.Native.String.{String}
use Rattle.lists.specs.Lists.{any}
use Rattle.format.specs.Bytes.{Bytes, bytes, within, is_in, same, is_label}

-- "the label runs to the first `=`": the bytes before it and those behind it
pub data Parts : Type 0 where
  NoEquals : Parts
  Parted : (before behind : Bytes) → Parts

abbrev pub longer : ℕ → Parts → Parts
longer b NoEquals = NoEquals
longer b (Parted n v) = Parted (b ∷ n) v

unfoldable pub parts : Bytes → Parts
parts [] = NoEquals
parts (b ∷ s) = elim (eqb b 61) [ true ↦ Parted [] s | false ↦ longer b (parts s) ]

-- "For comparison letters become upper case, and space, `-`, `/`, `_` are dropped."
unfoldable pub raise : ℕ → ℕ
raise b = elim (within 97 122 b) [ true ↦ b - 32 | false ↦ b ]

unfoldable pub normal : Bytes → Bytes
normal [] = []
normal (b ∷ s) = elim (is_in b (32 ∷ 45 ∷ 47 ∷ 95 ∷ [])) [ true ↦ normal s | false ↦ raise b ∷ normal s ]

-- The five lists whose rows are atoms and a value
pub data ListOf : Type 0 where
  Bonds Charges Radicals Centres Pairs : ListOf

-- The three records of a block's geometry: document 02, L2
pub data XyzOf : Type 0 where
  MaxXyz XyzFactor XyzRows : XyzOf

-- What a record holds: a text (0 title, 1 origin, 2 owner), a value on its label line, the atoms, the rows of a list, a part of the
-- geometry, the word YES, nothing; or it is skipped
pub data Holds : Type 0 where
  Text : ℕ → Holds
  Version Formula BlockId Atoms : Holds
  Rows : ListOf → Holds
  Xyz : XyzOf → Holds
  Handedness : Holds
  End Skipped : Holds

pub record Label : Type 0 where
  pub name : Bytes
  pub holds : Holds
  pub code : ℕ
  pub low : ℕ
  pub high : ℕ

unfoldable pub label : String → Holds → (code low high : ℕ) → Label
label n h c lo hi = record { name = bytes n; holds = h; code = c; low = lo; high = hi }

-- "TITLE, JCAMP-CS, ORIGIN, OWNER, MOLFORM, ATOMLIST, BONDLIST, CHARGE in this order; RADICAL, STEREOCENTER, STEREOPAIR in any order after those; BLOCK_ID
-- after JCAMP-CS; END last." MAX_XYZ, XYZ_FACTOR and XYZ "after the core, in any order with the other shell labels, each at most once" (document 02, L2), and
-- STEREOMOLECULE "after the core, in any order with RADICAL" (document 02, L4). Each label has an interval low to high, and b must follow a where a's interval ends
-- before b's begins.
unfoldable pub known : List Label
known =
    label "TITLE" (Text 0) 1 1 1
    ∷ label "JCAMPCS" Version 2 2 2
    ∷ label "ORIGIN" (Text 1) 3 3 3
    ∷ label "OWNER" (Text 2) 4 4 4
    ∷ label "MOLFORM" Formula 5 5 5
    ∷ label "ATOMLIST" Atoms 6 6 6
    ∷ label "BONDLIST" (Rows Bonds) 7 7 7
    ∷ label "CHARGE" (Rows Charges) 8 8 8
    ∷ label "RADICAL" (Rows Radicals) 9 9 9
    ∷ label "STEREOCENTER" (Rows Centres) 10 9 9
    ∷ label "STEREOPAIR" (Rows Pairs) 11 9 9
    ∷ label "BLOCKID" BlockId 12 3 9
    ∷ label "END" End 13 10 10
    ∷ label "MAXXYZ" (Xyz MaxXyz) 14 9 9
    ∷ label "XYZFACTOR" (Xyz XyzFactor) 15 9 9
    ∷ label "XYZ" (Xyz XyzRows) 16 9 9
    ∷ label "STEREOMOLECULE" Handedness 17 9 9
    ∷ []

-- "DATE, TIME, .. the raster .. labels and every unknown label are skipped with their lines": code 0, in order anywhere
unfoldable pub lookup : Bytes → List Label → Label
lookup n [] = label "" Skipped 0 0 10
lookup n (x ∷ xs) = elim (same n x.name) [ true ↦ x | false ↦ lookup n xs ]

-- "Each at most once. A label is out of order if a known label that must follow it has been seen."
unfoldable pub misplaced : (seen : List Label) → Label → Bool
misplaced seen x = any (λ y. eqb y.code x.code || ltb x.high y.low) seen

-- What a line is: no label line, a label line without `=`, or a label and the value behind its `=`
pub data Line : Type 0 where
  Plain : Line
  Unparted : Line
  Labelled : Label → Bytes → Line

abbrev pub parts_line : Parts → Line
parts_line NoEquals = Unparted
parts_line (Parted n v) = Labelled (lookup (normal n) known) v

unfoldable pub line_of : Bytes → Line
line_of l = elim (is_label l) [ true ↦ parts_line (parts (drop 2 l)) | false ↦ Plain ]

-- A TITLE line and an END line: all that the walk needs to know of a line
abbrev pub has_code : ℕ → Line → Bool
has_code c Plain = false
has_code c Unparted = false
has_code c (Labelled x v) = eqb c x.code

unfoldable pub title_line : Bytes → Bool
title_line l = has_code 1 (line_of l)

unfoldable pub end_line : Bytes → Bool
end_line l = has_code 13 (line_of l)
