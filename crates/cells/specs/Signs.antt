-- The sign of a number of the table: document 01, "The structure table" ("signed 32-bit numbers"). Assumes nothing.
use Rattle.std.specs.Prelude.{Bool, true, false, ℤ, pos, negsuc}

-- whether it is below zero
unfoldable pub negative : ℤ → Bool
negative (pos n) = false
negative (negsuc n) = true
