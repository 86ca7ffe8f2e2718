-- `rowform::put_atom` meets its contract. Assumes nothing.
use native.Mathlib.Omega.{arith}
use Rattle.format.proofs.PlaceLaws.{atom_small}
use Rattle.rowform.proofs.LineLaws.{atom_printed}
use Rattle.rowform.proofs.put_atom.Goals as goal

pub overflow_add-place : goal.overflow_add-place
overflow_add-place c = omega (arith, atom_small _ _ c.atom-place.ensures)

pub overflow_add-place-2 : goal.overflow_add-place-2
overflow_add-place-2 c = omega (arith, atom_small _ _ c.atom-place.ensures)

pub returns : goal.returns
returns c = (λ low. atom_printed c.args.table.now c.args.i _ _ _ _ low c.atom-place.ensures c.cell.ensures c.cell-2.ensures c.cell-3.ensures c.put_ahead.ensures c.put_symbol.ensures c.unless_zero.ensures c.byte.ensures, λ h. absurd (omega (arith, h, c.if-i-ge-ATOMS.false)))
