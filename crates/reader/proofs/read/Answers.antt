-- `reader::read` meets its contract. Assumes nothing.
use mathlib.Core.Path.{sym, ◌∙◌}
use native.Mathlib.Omega.{arith}
use Rattle.format.specs.Table.{lent}
use Rattle.format.proofs.RefusedLaws.{long_both}
use Rattle.reader.proofs.AnsweredLaws.{read_short, read_long, read_accepted, read_refused, judged_long}
use Rattle.reader.proofs.read.Goals as goal

pub returns-then-is_short : goal.returns-then-is_short
returns-then-is_short c = let r = read_short c.args.block.now (lent c.args.table.now c.args.positions.now) (sym c.is_short.ensures ∙ c.if-is_short.true) _ c.at.ensures in record { result = r.0; told = r.1 }

pub returns-then-block-gt-BLOCK : goal.returns-then-block-gt-BLOCK
returns-then-block-gt-BLOCK c = let r = read_long c.args.block.now (lent c.args.table.now c.args.positions.now) (sym c.is_short.ensures ∙ c.if-is_short.false) _ _ c.if-block-gt-BLOCK.true _ c.at-then-block-gt-BLOCK.ensures c.refuse.ensures in record { result = r.0; told = r.1 }

pub slice_bounds-judge-end-2 : goal.slice_bounds-judge-end-2
slice_bounds-judge-end-2 c = omega (arith, (long_both (lent c.args.table.now c.args.positions.now) (sym c.is_short.ensures ∙ c.if-is_short.false)).0)

pub accept-requires : goal.accept-requires
accept-requires c = judged_long c.args.block.now (lent c.args.table.now c.args.positions.now) (sym c.is_short.ensures ∙ c.if-is_short.false) _ _ _ c.if-block-gt-BLOCK.false c.judge.ensures

pub returns-in-Ok : goal.returns-in-Ok
returns-in-Ok c = let r = read_accepted c.args.block.now (lent c.args.table.now c.args.positions.now) (sym c.is_short.ensures ∙ c.if-is_short.false) _ _ _ c.if-block-gt-BLOCK.false c.judge.ensures _ _ c.in-Ok.is c.accept.ensures in record { result = r.0; told = r.1 }

pub returns-in-Err : goal.returns-in-Err
returns-in-Err c = let r = read_refused c.args.block.now (lent c.args.table.now c.args.positions.now) (sym c.is_short.ensures ∙ c.if-is_short.false) _ _ _ c.if-block-gt-BLOCK.false c.judge.ensures _ _ _ c.in-Err.is c.refuse-in-Err.ensures in record { result = r.0; told = r.1 }
