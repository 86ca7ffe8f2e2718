-- Where a run of bytes of one kind ends: document 01, "Rows" ("Fields are parted by blanks"; a number's digits). `reach` is `high` as one sum, which a
-- caller's arithmetic reads unasked. Assumes nothing.
use Rattle.std.specs.Prelude.{ℕ, ◌+◌, ◌-◌, ◌≤◌, ◌≡◌, Bool, length, drop}
use Rattle.lists.specs.Lists.{span}
use Rattle.format.specs.Bytes.{Bytes}

-- r is where the run of bytes that pass a test ends, from `at` on
pub record RunEnd (p : ℕ → Bool) (s : Bytes) (at r : ℕ) : Type 0 where
  pub is : r ≡ at + span p (drop at s)
  pub low : at ≤ r
  pub high : at ≤ length s → r ≤ length s
  pub reach : r ≤ length s + (at - length s)
