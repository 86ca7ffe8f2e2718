-- A table's first 3,856 numbers are all that its soundness looks at: what stands behind them does not matter. Serves document 01, "The structure table". Assumes nothing.
use Prim.Native.Nat.{ℕ}
use mathlib.Core.Path.{◌≡◌}
use mathlib.Core.List.{List}
use native.Mathlib.Omega.{arith}
use lib.ListN.{take}
use lib.Seq.{take-take}
use lib.IntN.{ℤ}
use Rattle.format.specs.Table.{sound_numbers}
use Rattle.cells.proofs.FirstLaws.{decode_first, spans_first}

pub sound_first : (t : List ℤ) (k : ℕ) → sound_numbers k (take 3856 t) ≡ sound_numbers k t
unfolding sound_numbers
sound_first t k = rw (decode_first t, spans_first t, take-take 3856 3856 t (omega arith))
