-- `tally::implied_at` meets its contract. Assumes nothing.
use native.Mathlib.Omega.{arith}
use Rattle.format.proofs.PlaceLaws.{atom_small}
use Rattle.tally.proofs.AtomLaws.{implied_read}
use Rattle.tally.proofs.implied_at.Goals as goal

pub overflow_add-atom : goal.overflow_add-atom
overflow_add-atom c = omega (arith, atom_small _ _ c.atom.ensures)

pub returns : goal.returns
returns c = implied_read c.args.table.now _ _ c.requires c.atom.ensures _ c.cell.ensures
