-- What the answer on a line says: document 01, "Lines and labels". Assumes nothing.
use Rattle.std.specs.Prelude.{ℕ, ◌≤◌, ◌<◌, ◌≡◌, true, false, List, [], ◌∷◌, length, drop, eqb}
use Rattle.format.specs.Bytes.{Bytes}
use Rattle.format.specs.Labels.{Label, Line, Plain, Unparted, Labelled, known, lookup, line_of}
use Rattle.labels.specs.declared.LineKind.{LineKind}
use Rattle.labels.specs.declared.LineKind.TheVariants as K

-- the label of a code; the skipped one, which no list has, where none has the code
unfoldable pub by_code : (code : ℕ) → List Label → Label
by_code code [] = lookup [] []
by_code code (x ∷ xs) = elim (eqb code x.code) [ true ↦ x | false ↦ by_code code xs ]

abbrev pub shown_line : Bytes → LineKind → Line
shown_line line K.Plain = Plain
shown_line line K.Unparted = Unparted
shown_line line (K.Labelled code at) = Labelled (by_code code known) (drop at line)

-- the code of the label; 0 where the line has none
abbrev pub code_shown : LineKind → ℕ
code_shown K.Plain = 0
code_shown K.Unparted = 0
code_shown (K.Labelled code at) = code

pub record ShowsLine (line : Bytes) (r : LineKind) : Type 0 where
  pub is : shown_line line r ≡ line_of line
  pub code : (code at : ℕ) → r ≡ K.Labelled code at → code < 18
  pub high : (code at : ℕ) → r ≡ K.Labelled code at → at ≤ length line
