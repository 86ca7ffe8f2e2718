-- `soundness::keyed::list_fine` meets its contract. Assumes nothing.
use native.Mathlib.Omega.{arith}
use Rattle.soundness.proofs.RegionTests.{few, list_is}
use Rattle.soundness.proofs.keyed.list_fine.Goals as goal

pub overflow_cast-atoms : goal.overflow_cast-atoms
overflow_cast-atoms c = record { fits = omega (arith, (few _ c.args.headed.fine).atoms, c.cell-atoms.ensures) }

pub returns-then-records_fine : goal.returns-then-records_fine
returns-then-records_fine c = grind (arith, list_is c.args.headed.table.now c.args.list c.cell-atoms.result c.cell-rows.result c.cell-atoms.ensures c.cell-rows.ensures)

pub returns-else-records_fine : goal.returns-else-records_fine
returns-else-records_fine c = grind (arith, list_is c.args.headed.table.now c.args.list c.cell-atoms.result c.cell-rows.result c.cell-atoms.ensures c.cell-rows.ensures)
