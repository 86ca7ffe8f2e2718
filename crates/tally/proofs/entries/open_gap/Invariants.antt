-- `tally::entries::open_gap` meets its contract. Assumes nothing.
use Prim.Native.Nat.{◌≤◌}
use mathlib.Core.Path.{◌≡◌}
use Rattle.tally.specs.Gathering.{opened}
use Rattle.tally.proofs.entries.open_gap.Given as goal

abbrev pub invariant-loop-i : goal.invariant-loop-i
invariant-loop-i l = (l.place ≤ l.i) × (l.i ≤ l.count) × (l.entries ≡ opened l.initial.entries l.i l.count)
