-- `rowform::rows::put_centre` meets its contract. Assumes nothing.
use native.Mathlib.Omega.{arith}
use Rattle.format.specs.Labels.{Centres}
use Rattle.format.proofs.PlaceLaws.{row_small_lem}
use Rattle.rowform.proofs.RowLaws.{centre_printed}
use Rattle.rowform.proofs.rows.put_centre.Goals as goal

pub overflow_add-place : goal.overflow_add-place
overflow_add-place c = omega (arith, row_small_lem Centres _ _ c.centre-place.ensures)

pub overflow_add-place-2 : goal.overflow_add-place-2
overflow_add-place-2 c = omega (arith, row_small_lem Centres _ _ c.centre-place.ensures)

pub returns-clause-printed : goal.returns-clause-printed
returns-clause-printed c = centre_printed c.args.table.now (omega arith) c.args.i _ c.centre-place.ensures _ _ _ _ c.cell-atom.ensures c.cell.ensures c.letter_of-side.ensures c.cell-group.ensures c.put_one.ensures.printed
