-- `numbering::sorted_values` meets its contract. Assumes nothing.
use mathlib.Core.Path.{◌∙◌}
use native.Mathlib.Omega.{arith}
use Rattle.numbering.proofs.OrderingLaws.{through_step, through_end}
use Rattle.numbering.proofs.SortedValueLaws.{values_are}
use Rattle.numbering.proofs.sorted_values.Goals as goal

pub loop-i-preserved : goal.loop-i-preserved
loop-i-preserved c = c.loop-i.invariant ∙ through_step c.args.region.now c.args.order.now c.args.rows (omega (arith, c.requires.0, c.requires.3)) _ _ _ c.loop-i-test.true c.put_at.ensures

pub returns : goal.returns
returns c = values_are _ _ _ _ _ (c.loop-i.invariant ∙ through_end c.args.region.now c.args.order.now c.args.rows (omega (arith, c.requires.0, c.requires.3)) _ _ c.loop-i-test.false) c.requires.3
