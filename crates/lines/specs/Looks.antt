-- What one pass over a line tells: where it ends, if each byte of it is allowed. Document 01, "Lines and labels". Assumes nothing.
use Rattle.std.specs.Prelude.{ℕ, ◌+◌, ◌≡◌, true, false, Option, Some, None, take, drop}
use Rattle.lists.specs.Lists.{all}
use Rattle.format.specs.Bytes.{Bytes, allowed, line_len}
use Rattle.lines.specs.Cuts.{LineEnd}

-- the line that starts at `at`
abbrev pub line_from : Bytes → (at : ℕ) → Bytes
line_from s at = take (line_len (drop at s)) (drop at s)

-- seen from `i` the line that starts at `at` ends at the same place and is as clean
abbrev pub Looking : Bytes → (at i : ℕ) → Type 0
Looking s at i = (at + line_len (drop at s) ≡ i + line_len (drop i s)) × (all allowed (line_from s at) ≡ all allowed (line_from s i))

pub record CleanEnd (s : Bytes) (at r : ℕ) : Type 0 where
  pub end : LineEnd s at r
  pub clean : all allowed (line_from s at) ≡ true

-- where the line ends, or that a byte of it is not allowed
abbrev pub ShowsLooked : Bytes → (at : ℕ) → Option ℕ → Type 0
ShowsLooked s at (Some r) = CleanEnd s at r
ShowsLooked s at None = all allowed (line_from s at) ≡ false
