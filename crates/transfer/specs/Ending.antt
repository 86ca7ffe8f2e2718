-- Where what goes on from line to line ends: document 01, "Walking a transfer file". Assumes nothing.
use Rattle.std.specs.Prelude.{ℕ, ◌+◌, cond, Option, Some, None, List, [], ◌∷◌, length}
use Rattle.format.specs.Bytes.{Bytes, is_label}
use Rattle.format.specs.Labels.{title_line, end_line}
use Rattle.transfer.specs.declared.ends.Side.{Side}
use Rattle.transfer.specs.declared.ends.Side.TheVariants as S

-- by what a line tells: before it, behind it, or as the lines behind it tell
abbrev pub ended_at : Option Side → (from to rest : ℕ) → ℕ
ended_at None from to rest = rest
ended_at (Some S.Before) from to rest = from
ended_at (Some S.Behind) from to rest = to

-- the place where it ends, from a place on with some lines
unfoldable pub ending : (tells : Bytes → Option Side) → (at : ℕ) → List Bytes → ℕ
ending tells at [] = at
ending tells at (l ∷ ls) = ended_at (tells l) at (at + length l) (ending tells (at + length l) ls)

-- a text ends before a label line
abbrev pub label_tells : Bytes → Option Side
label_tells l = cond (is_label l) (Some S.Before) None

-- a stray run before a TITLE line
abbrev pub title_tells : Bytes → Option Side
title_tells l = cond (title_line l) (Some S.Before) None

-- a block before a TITLE line and behind an END line
abbrev pub turn_tells : Bytes → Option Side
turn_tells l = cond (title_line l) (Some S.Before) (cond (end_line l) (Some S.Behind) None)
