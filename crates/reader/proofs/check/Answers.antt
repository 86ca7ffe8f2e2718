-- `reader::check` meets its contract. Assumes nothing.
use Rattle.reader.proofs.AnsweredLaws.{check_long, check_accepted, check_refused, place_within}
use Rattle.reader.proofs.check.Goals as goal

pub returns-then-block-gt-BLOCK : goal.returns-then-block-gt-BLOCK
returns-then-block-gt-BLOCK c = check_long c.args.block.now _ c.if-block-gt-BLOCK.true _ c.at.ensures c.packed_answer.ensures

pub packed_answer-requires-in-Err : goal.packed_answer-requires-in-Err
packed_answer-requires-in-Err c = place_within c.args.block.now _ _ _ _ c.if-block-gt-BLOCK.false c.judge.ensures _ c.in-Err.is

pub returns-in-Ok : goal.returns-in-Ok
returns-in-Ok c = check_accepted c.args.block.now _ _ _ _ c.if-block-gt-BLOCK.false c.judge.ensures _ c.in-Ok.is

pub returns-in-Err : goal.returns-in-Err
returns-in-Err c = check_refused c.args.block.now _ _ _ _ c.if-block-gt-BLOCK.false c.judge.ensures _ _ c.in-Err.is c.packed_answer-in-Err.ensures
