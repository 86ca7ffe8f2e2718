-- `groups::marks::mark_bonds` meets its contract. Assumes nothing.
use Prim.Native.Nat.{◌+◌, ◌≤◌}
use mathlib.Core.Path.{◌≡◌}
use Rattle.groups.specs.Marks.{ones}
use Rattle.groups.proofs.MarkLaws.{marked_from}
use Rattle.groups.proofs.marks.mark_bonds.Given as goal

abbrev pub invariant-loop-i : goal.invariant-loop-i
invariant-loop-i l = (l.i ≤ l.bonds) × (l.marks ≡ marked_from l.rows l.bonds l.initial.marks l.i) × (ones l.marks ≡ l.count + ones l.initial.marks) × (l.count + l.i ≤ l.bonds)
