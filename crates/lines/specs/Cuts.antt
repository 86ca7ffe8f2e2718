-- Where a line and what stands before its comment end: document 01, "Lines and labels". `reach` is `high` as one sum, which a caller's
-- arithmetic reads unasked. Assumes nothing.
use Rattle.std.specs.Prelude.{ℕ, ◌+◌, ◌-◌, ◌≤◌, ◌<◌, ◌≡◌, length, take, drop}
use Rattle.format.specs.Bytes.{Bytes, line_len, strip}

-- r is where the line that starts at `at` ends
pub record LineEnd (s : Bytes) (at r : ℕ) : Type 0 where
  pub is : r ≡ at + line_len (drop at s)
  pub low : at ≤ r
  pub more : at < length s → at < r
  pub high : at ≤ length s → r ≤ length s
  pub reach : r ≤ length s + (at - length s)

-- r bytes of the line stand before its comment
pub record Uncommented (line : Bytes) (r : ℕ) : Type 0 where
  pub is : r ≡ length (strip line)
  pub part : strip line ≡ take r line
  pub high : r ≤ length line
