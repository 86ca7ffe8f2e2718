-- `quick::atom::quick_atom` meets its contract. Assumes nothing.
use native.Mathlib.Omega.{arith}
use Rattle.quick.proofs.RowLaws.{atom_row}
use Rattle.quick.proofs.atom.quick_atom.Goals as goal

pub returns : goal.returns
returns c = atom_row _ _ _ _ _ c.in_ok-atom.ensures c.in_ok-symbol.ensures c.in_ok-tail.ensures (omega arith)
