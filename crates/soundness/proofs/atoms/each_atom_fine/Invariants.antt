-- `soundness::atoms::each_atom_fine` meets its contract. Assumes nothing.
use mathlib.Core.Path.{◌≡◌}
use lib.ListN.{drop}
use Rattle.lists.specs.Lists.{all, rows_from}
use Rattle.soundness.specs.Sounding.{atom_fine}
use Rattle.soundness.proofs.atoms.each_atom_fine.Given as goal

abbrev pub invariant-loop-i : goal.invariant-loop-i
invariant-loop-i l = all (λ b. b) (rows_from 5 (atom_fine 103 l.charges l.radicals) l.atoms (drop 16 l.table)) ≡ all (λ b. b) (drop l.i (rows_from 5 (atom_fine 103 l.charges l.radicals) l.atoms (drop 16 l.table)))
