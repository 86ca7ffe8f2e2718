-- `judgement::xyz::xyz_rows` meets its contract. Assumes nothing.
use Rattle.judgement.proofs.XyzTurnLaws.{rows_none, rows_placed}
use Rattle.judgement.proofs.xyz.xyz_rows.Goals as goal

pub returns-then-top-eq0 : goal.returns-then-top-eq0
returns-then-top-eq0 c = rows_none c.args.block.now c.args.at c.args.top c.args.atoms c.args.scratch.now c.args.store.now c.keep_latest.new.store c.keep_latest.ensures

pub returns : goal.returns
returns c = rows_placed c.args.block.now c.args.at c.args.top c.args.atoms c.args.scratch.now c.args.store.now c.keep_latest.new.store c.keep_latest.ensures c.if-top-eq0.false c.xyz_run.new.region c.xyz_run.new.store c.xyz_run.result c.xyz_run.ensures
