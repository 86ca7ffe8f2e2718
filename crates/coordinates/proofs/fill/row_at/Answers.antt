-- `coordinates::fill::row_at` meets its contract. Assumes nothing.
use mathlib.Core.Path.{sym}
use Rattle.coordinates.proofs.KeptLaws.{row_is, row_held}
use Rattle.coordinates.proofs.fill.row_at.Goals as goal

pub returns : goal.returns
returns c = rw (c.cell.ensures, c.cell-2.ensures, c.cell-3.ensures, c.cell-4.ensures) (sym (row_is c.args.store.now c.args.index (row_held _ _ c.requires)))
