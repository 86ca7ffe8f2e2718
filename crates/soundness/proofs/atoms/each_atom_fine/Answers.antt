-- `soundness::atoms::each_atom_fine` meets its contract. Assumes nothing.
use mathlib.Core.Path.{◌∙◌}
use native.Mathlib.Omega.{arith}
use Rattle.format.proofs.PlaceLaws.{atom_place_lem}
use Rattle.soundness.specs.Sounding.{atom_fine}
use Rattle.soundness.proofs.TestLaws.{rows_turn, rows_end}
use Rattle.soundness.proofs.atoms.each_atom_fine.Goals as goal

pub returns-then-not-atom_fine : goal.returns-then-not-atom_fine
returns-then-not-atom_fine c = let i = c.loop-i.i in grind (arith, rows_turn c.args.table.now c.told-table 16 5 c.args.atoms i c.loop-i-test.true c.atom.result (c.atom.ensures ∙ atom_place_lem i (omega arith)) (atom_fine 103 c.args.charges c.args.radicals))

pub loop-i-preserved : goal.loop-i-preserved
loop-i-preserved c = let i = c.loop-i.i in grind (arith, rows_turn c.args.table.now c.told-table 16 5 c.args.atoms i c.loop-i-test.true c.atom.result (c.atom.ensures ∙ atom_place_lem i (omega arith)) (atom_fine 103 c.args.charges c.args.radicals))

pub returns : goal.returns
returns c = grind (arith, rows_end c.args.table.now 16 5 c.args.atoms c.loop-i.i c.loop-i-test.false (atom_fine 103 c.args.charges c.args.radicals))
