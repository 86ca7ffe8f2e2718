-- `tally::key_at` meets its contract. Assumes nothing.
use native.Mathlib.Omega.{arith}
use Rattle.format.proofs.PlaceLaws.{atom_small}
use Rattle.tally.proofs.AtomLaws.{key_read}
use Rattle.tally.proofs.key_at.Goals as goal

pub overflow_add-place : goal.overflow_add-place
overflow_add-place c = omega (arith, atom_small _ _ c.atom-place.ensures)

pub returns : goal.returns
returns c = key_read c.args.table.now _ _ c.requires c.atom-place.ensures _ _ _ c.cell.ensures c.cell-2.ensures c.key_of.ensures
