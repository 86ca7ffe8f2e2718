-- `rowform::rows::put_pair` meets its contract. Assumes nothing.
use native.Mathlib.Omega.{arith}
use Rattle.format.specs.Labels.{Pairs}
use Rattle.format.proofs.PlaceLaws.{row_small_lem}
use Rattle.rowform.proofs.RowLaws.{pair_printed}
use Rattle.rowform.proofs.rows.put_pair.Goals as goal

pub overflow_add-place : goal.overflow_add-place
overflow_add-place c = omega (arith, row_small_lem Pairs _ _ c.pair-place.ensures)

pub overflow_add-place-2 : goal.overflow_add-place-2
overflow_add-place-2 c = omega (arith, row_small_lem Pairs _ _ c.pair-place.ensures)

pub overflow_add-place-3 : goal.overflow_add-place-3
overflow_add-place-3 c = omega (arith, row_small_lem Pairs _ _ c.pair-place.ensures)

pub returns-clause-printed : goal.returns-clause-printed
returns-clause-printed c = pair_printed c.args.table.now (omega arith) c.args.i _ c.pair-place.ensures _ _ _ _ _ c.cell-low.ensures c.cell-high.ensures c.cell.ensures c.letter_of-side.ensures c.cell-group.ensures c.put_two.ensures.printed
