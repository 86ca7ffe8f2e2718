-- `groups::pointers::settle` meets its contract. Assumes nothing.
use Prim.Native.Nat.{◌≤◌}
use lib.ListN.{length}
use Rattle.groups.specs.Pointers.{Pointing}
use Rattle.groups.proofs.PointerLaws.{Settled}
use Rattle.groups.proofs.pointers.settle.Given as goal

abbrev pub invariant-loop-i : goal.invariant-loop-i
invariant-loop-i l = (l.i ≤ length l.pointers) × Settled l.initial.pointers l.i l.pointers × Pointing l.pointers
