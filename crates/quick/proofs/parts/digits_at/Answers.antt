-- `quick::parts::digits_at` meets its contract. Assumes nothing.
use mathlib.Core.Path.{sym, ◌∙◌}
use Rattle.quick.proofs.SignedLaws.{so_far_none, so_far_more}
use Rattle.quick.proofs.parts.digits_at.Goals as goal

pub loop-to-init : goal.loop-to-init
loop-to-init c = so_far_none _ _

pub loop-to-preserved : goal.loop-to-preserved
loop-to-preserved c = so_far_more _ _ _ _ _ c.loop-to.invariant c.requires c.loop-to-test.true (sym c.is_digit.ensures ∙ c.if-not-is_digit.false) c.digit_value.ensures.0
