-- `numbering::order_of` meets its contract. Assumes nothing.
use mathlib.Core.Path.{◌∙◌}
use native.Mathlib.Omega.{arith}
use lib.ListN.{take}
use Rattle.numbering.proofs.OrderingLaws.{numbered_step, numbered_end, order_is}
use Rattle.numbering.proofs.order_of.Goals as goal

pub loop-member-preserved : goal.loop-member-preserved
loop-member-preserved c = (omega (arith, c.number_row-next.ensures.0, c.loop-member.invariant.0), c.loop-member.invariant.1 ∙ numbered_step (take c.args.atoms c.args.region.now) _ _ _ _ _ (omega arith) c.number_row-next.ensures.1 c.number_row-next.ensures.2)

pub returns : goal.returns
returns c = order_is _ _ _ _ _ _ (c.loop-member.invariant.1 ∙ numbered_end (take c.args.atoms c.args.region.now) _ _ _ (omega arith)) c.number_void.ensures c.requires.2 c.requires.3
