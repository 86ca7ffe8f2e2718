-- `publish::fill_rows` meets its contract. Assumes nothing.
use native.Mathlib.Omega.{arith}
use Rattle.publish.proofs.PublishLaws.{rows_whole}
use Rattle.publish.proofs.fill_rows.Goals as goal

pub returns : goal.returns
returns c = rows_whole c.args.p c.requires.1 c.args.part.now _ _ _ c.args.scratch.now _ _ c.requires.0 (c.fill_bonds.ensures.0 (omega arith, omega arith, omega arith)) c.fill_spread.ensures c.fill_marked.ensures
