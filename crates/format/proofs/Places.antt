-- Where records stand: an index within a list answers its place, any other the table's size. Assumes nothing.
use Prim.Native.Nat.{ℕ, ◌+◌, ◌*◌, ◌<◌, ◌≤◌}
use mathlib.Core.Path.{◌≡◌, ◌∙◌}
use native.Mathlib.Omega.{arith}
use borrow.Author.Tests.{lt-ltb, le-ltb}
use Rattle.format.specs.Table.{place_from}

module _ (b w m i : ℕ) where
  pub place_in : i < m → place_from b w m i ≡ b + w * i
  place_in h = rw (lt-ltb i m h, place_from)

  pub place_out : m ≤ i → place_from b w m i ≡ 3856
  place_out h = rw (le-ltb i m h, place_from)

pub place_one : (b m i : ℕ) → i < m → place_from b 1 m i ≡ b + i
place_one b m i h = place_in b 1 m i h ∙ omega arith
