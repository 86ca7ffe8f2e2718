-- `soundness::spread::spread_fine` meets its contract. Assumes nothing.
use native.Mathlib.Omega.{arith}
use Rattle.soundness.proofs.RegionTests.{few, spread_is, up_same}
use Rattle.soundness.proofs.spread.spread_fine.Goals as goal

pub rows_in_order-requires : goal.rows_in_order-requires
rows_in_order-requires c =
    (c.requires.2, omega (arith, (few _ c.args.headed.fine).atoms, c.cell-atoms.ensures), up_same c.args.headed.table.now _ _ c.args.list.count c.args.list.column c.cell-atoms.ensures c.cell-rows.ensures c.requires.4)

pub returns-then-all_zero : goal.returns-then-all_zero
returns-then-all_zero c = grind (arith, spread_is c.args.headed.table.now c.args.list c.cell-atoms.result c.cell-rows.result c.cell-atoms.ensures c.cell-rows.ensures c.requires.0)

pub returns-else-all_zero : goal.returns-else-all_zero
returns-else-all_zero c = grind (arith, spread_is c.args.headed.table.now c.args.list c.cell-atoms.result c.cell-rows.result c.cell-atoms.ensures c.cell-rows.ensures c.requires.0)
