-- `totals::Left::take_formula` meets its contract. Assumes nothing.
use Rattle.totals.specs.Left.{left_in}
use Rattle.totals.proofs.AnswerLaws.{owing_ends}
use Rattle.totals.proofs.left.Left.take_formula.Goals as goal

pub returns : goal.returns
returns c = let left = left_in c.loop-byte.self in owing_ends _ _ left left _ _ _ _ c.loop-byte.invariant.1 c.loop-byte-test.false _ c.take_end.ensures
