-- Where a text starts and ends in its block, and where the title stands: document 01, "What follows `=` on a label line counts as the record's first line", and
-- it goes on up to the next label line. Assumes nothing.
use Rattle.std.specs.Prelude.{ℕ, ◌+◌, ◌-◌, ◌≤◌, ◌≡◌, Bool, true, false, List, [], ◌∷◌, ◌++◌, length, take, drop}
use Rattle.format.specs.Bytes.{Bytes, cut, lead}
use Rattle.format.specs.Labels.{line_of, title_line}
use Rattle.format.specs.Walking.{until_label, value_of, title_of, or_else, name_of}
use Rattle.fields.specs.declared.Field.{Field}
use Rattle.fields.specs.NextFields.{field_in}

-- the place where a text ends that goes on at a place with some lines
unfoldable pub text_to : (at : ℕ) → List Bytes → ℕ
text_to at ls = at + length (until_label ls)

-- r is where the text ends that goes on at `at`
pub record TextEnd (block : Bytes) (at r : ℕ) : Type 0 where
  pub is : r ≡ text_to at (cut (drop at block))
  pub low : at ≤ r
  pub high : at ≤ length block → r ≤ length block

-- the value of a line starts at r
pub record ValueAt (line : Bytes) (r : ℕ) : Type 0 where
  pub is : drop r line ≡ value_of (line_of line)
  pub high : r ≤ length line

-- where the title starts in a block of these lines, behind the `=` of a TITLE line and what is cut in front; 0 where the first line is none
abbrev pub start_by : (title : Bool) → Bytes → List Bytes → ℕ
start_by true l ls = length l - length (value_of (line_of l)) + lead (value_of (line_of l) ++ until_label ls)
start_by false l ls = 0

abbrev pub title_start : List Bytes → ℕ
title_start [] = 0
title_start (l ∷ ls) = start_by (title_line l) l ls

-- r is the part of the block that is its title
pub record Titled (block : Bytes) (r : Field) : Type 0 where
  pub is : field_in block r ≡ title_of (cut block)
  pub start : r.from ≡ title_start (cut block)
  pub order : r.from ≤ r.to
  pub high : r.to ≤ length block

-- n is the name to show: the definitions' name; and its bytes are those from the title's start on, as many as the title has, or the stand-in's where it has none
pub record Named (block standIn n : Bytes) : Type 0 where
  pub is : n ≡ name_of block standIn
  pub part : n ≡ or_else (take (length (title_of (cut block))) (drop (title_start (cut block)) block)) standIn
