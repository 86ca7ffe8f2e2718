-- `sorted::join::open_gap` meets its contract. Assumes nothing.
use Prim.Native.Nat.{◌≤◌}
use mathlib.Core.Path.{◌≡◌}
use Rattle.sorted.specs.Keyed.{opened}
use Rattle.sorted.proofs.join.open_gap.Given as goal

abbrev pub invariant-loop-i : goal.invariant-loop-i
invariant-loop-i l = (l.from ≤ l.i) × (l.i ≤ l.to) × (l.region ≡ opened l.initial.region l.i l.to l.w)
