-- One byte, tested as the code tests it. Serves document 01, "Lines and labels". Assumes nothing.
use Prim.Native.Nat.{ℕ}
use mathlib.Core.Path.{◌≡◌}
use lib.Dec.{eqb}
use borrow.Author.Tests.{ne_eqb}
use Rattle.format.specs.Bytes.{blank, gap}

-- a byte that is no blank is a gap if it is a line feed
pub gap_last : (b : ℕ) → (b ≡ 32 → ⊥) → (b ≡ 9 → ⊥) → (b ≡ 13 → ⊥) → eqb b 10 ≡ gap b
unfolding gap blank
gap_last b h k l = rw (ne_eqb b 32 h, ne_eqb b 9 k, ne_eqb b 13 l)
