-- `totals::Left::take_lead` meets its contract. Assumes nothing.
use Prim.Native.Nat.{◌-◌, ◌≤◌}
use lib.ListN.{length}
use Rattle.format.specs.Formula.{formula_shape}
use Rattle.formula.specs.declared.State.TheVariants.{Between}
use Rattle.totals.specs.Left.{left_in}
use Rattle.totals.specs.Taking.{Owing}
use Rattle.totals.proofs.left.Left.take_lead.Given as goal

abbrev pub invariant-loop-quick : goal.invariant-loop-quick
invariant-loop-quick l = (l.lead.at ≤ length l.formula) × Owing l.last (left_in l.initial.self) (left_in l.self) (formula_shape l.formula) l.formula (Between l.lead.begun) l.lead.at

abbrev pub decreases-loop-quick : goal.decreases-loop-quick
decreases-loop-quick l = length l.formula - l.lead.at
