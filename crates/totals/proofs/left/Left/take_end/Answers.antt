-- `totals::Left::take_end` meets its contract. Assumes nothing.
use Rattle.totals.specs.Left.{left_in}
use Rattle.totals.proofs.AnswerLaws.{end_taken, end_short}
use Rattle.totals.proofs.left.Left.take_end.Goals as goal

pub returns-then-not-take_told : goal.returns-then-not-take_told
returns-then-not-take_told c =
    end_short c.args.last (left_in c.args.self.now) c.args.state _ c.formula_end.ensures _ c.in-Some.is _ (rw c.if-not-take_told.true at c.take_told.ensures)

pub returns : goal.returns
returns c =
    end_taken c.args.last (left_in c.args.self.now) c.args.state _ c.formula_end.ensures _ c.in-Some.is (left_in c.take_told.new.self) (rw c.if-not-take_told.false at c.take_told.ensures) _ c.none_left.ensures
