-- `groups::pointers::join_bonds` meets its contract. Assumes nothing.
use Prim.Native.Nat.{◌≤◌}
use Rattle.groups.specs.Grouping.{JoinsAll}
use Rattle.groups.proofs.BondLaws.{bonds_from}
use Rattle.groups.proofs.pointers.join_bonds.Given as goal

abbrev pub invariant-loop-i : goal.invariant-loop-i
invariant-loop-i l = (l.i ≤ l.bonds) × JoinsAll l.initial.pointers (bonds_from l.table l.bonds l.i) l.pointers
