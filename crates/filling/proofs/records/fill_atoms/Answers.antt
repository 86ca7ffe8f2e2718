-- `filling::records::fill_atoms` meets its contract. Assumes nothing.
use native.Mathlib.Omega.{arith}
use Rattle.format.proofs.PlaceLaws.{atom_place_lem}
use Rattle.filling.proofs.AtomLaws.{atoms_none, atoms_more}
use Rattle.filling.proofs.records.fill_atoms.Goals as goal

pub loop-i-init : goal.loop-i-init
loop-i-init c = atoms_none _ _ _ _ _ c.args.part.now _ (omega arith) (c.fill.ensures.after (λ y h. h))

pub overflow_sub-atom : goal.overflow_sub-atom
overflow_sub-atom c = omega (arith, atom_place_lem c.loop-i.i (omega arith))

pub loop-i-preserved : goal.loop-i-preserved
loop-i-preserved c = atoms_more _ _ _ _ _ _ _ _ _ _ _ (omega arith) c.atom.ensures c.number_in-charge.ensures c.number_in-radical.ensures c.loop-i.invariant c.put_all.ensures
