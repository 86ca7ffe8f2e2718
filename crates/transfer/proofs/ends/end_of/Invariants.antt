-- Where it ends: the place stays the same from one line that is looked at to the next. Assumes nothing.
use Prim.Native.Nat.{◌-◌}
use mathlib.Core.Path.{◌≡◌}
use lib.ListN.{length, drop}
use Rattle.format.specs.Bytes.{cut}
use Rattle.transfer.specs.Ending.{ending}
use Rattle.transfer.proofs.ends.end_of.Given as goal

abbrev pub invariant-loop-i : goal.invariant-loop-i
invariant-loop-i g l = ending g.E.Ends.tells l.at (cut (drop l.at l.file)) ≡ ending g.E.Ends.tells l.i (cut (drop l.i l.file))

abbrev pub decreases-loop-i : goal.decreases-loop-i
decreases-loop-i g l = length l.file - l.i
