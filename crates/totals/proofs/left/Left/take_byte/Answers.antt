-- `totals::Left::take_byte` meets its contract. Assumes nothing.
use Rattle.totals.specs.Left.{left_in}
use Rattle.totals.proofs.AnswerLaws.{byte_took}
use Rattle.totals.proofs.left.Left.take_byte.Goals as goal

pub returns : goal.returns
returns c =
    λ fine. rw c.then_some.ensures (byte_took _ _ (left_in c.args.self.now) (left_in c.take_told.new.self) _ c.formula_step-step.result _ c.formula_step-step.ensures c.take_told.ensures fine)
