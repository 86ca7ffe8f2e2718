-- `publish::fill_table` meets its contract. Assumes nothing.
use native.Mathlib.Omega.{arith}
use Rattle.publish.proofs.PublishLaws.{table_whole}
use Rattle.publish.proofs.fill_table.Goals as goal

pub returns : goal.returns
returns c = table_whole c.args.p c.requires.1.counted c.args.table.now _ _ _ _ c.args.scratch.now _ _ _ _ (c.fill_header.ensures.0 (omega arith, omega arith, c.requires.1)) (c.fill_atoms.ensures.0 (omega arith, omega arith, omega arith, omega arith, omega arith)) c.fill_rows.ensures
