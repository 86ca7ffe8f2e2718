-- `rowform::rows::put_bond` meets its contract. Assumes nothing.
use native.Mathlib.Omega.{arith}
use Rattle.format.specs.Labels.{Bonds}
use Rattle.format.proofs.PlaceLaws.{row_small_lem}
use Rattle.rowform.proofs.RowLaws.{bond_printed}
use Rattle.rowform.proofs.rows.put_bond.Goals as goal

pub overflow_add-place : goal.overflow_add-place
overflow_add-place c = omega (arith, row_small_lem Bonds _ _ c.bond-place.ensures)

pub overflow_add-place-2 : goal.overflow_add-place-2
overflow_add-place-2 c = omega (arith, row_small_lem Bonds _ _ c.bond-place.ensures)

pub returns-clause-printed : goal.returns-clause-printed
returns-clause-printed c = bond_printed c.args.table.now (omega arith) c.args.i _ c.bond-place.ensures _ _ _ _ c.cell-low.ensures c.cell-high.ensures c.cell.ensures c.letter_of-kind.ensures c.put_two.ensures.printed
