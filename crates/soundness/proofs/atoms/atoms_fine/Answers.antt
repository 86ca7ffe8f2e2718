-- `soundness::atoms::atoms_fine` meets its contract. Assumes nothing.
use native.Mathlib.Omega.{arith}
use Rattle.format.proofs.PlaceLaws.{atoms_behind}
use Rattle.soundness.proofs.RegionTests.{few, atoms_is}
use Rattle.soundness.proofs.atoms.atoms_fine.Goals as goal

pub each_atom_fine-requires : goal.each_atom_fine-requires
each_atom_fine-requires c = omega (arith, (few _ c.args.headed.fine).atoms, c.cell-atoms.ensures)

pub returns-then-each_atom_fine : goal.returns-then-each_atom_fine
returns-then-each_atom_fine c =
    let n = c.cell-atoms.result in
    grind (
      arith,
      atoms_is c.args.headed.table.now n _ _ c.cell-atoms.ensures c.cell-charges.ensures c.cell-radicals.ensures c.min-from.result
          (atoms_behind n (omega (arith, (few _ c.args.headed.fine).atoms, c.cell-atoms.ensures)) _ _ c.atom.ensures c.min-from.ensures),
    )

pub returns-else-each_atom_fine : goal.returns-else-each_atom_fine
returns-else-each_atom_fine c =
    let n = c.cell-atoms.result in
    grind (
      arith,
      atoms_is c.args.headed.table.now n _ _ c.cell-atoms.ensures c.cell-charges.ensures c.cell-radicals.ensures c.min-from.result
          (atoms_behind n (omega (arith, (few _ c.args.headed.fine).atoms, c.cell-atoms.ensures)) _ _ c.atom.ensures c.min-from.ensures),
    )
