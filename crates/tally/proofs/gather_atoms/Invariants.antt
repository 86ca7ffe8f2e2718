-- `tally::gather_atoms` meets its contract. Assumes nothing.
use Prim.Native.Nat.{◌*◌, ◌-◌}
use lib.ListN.{drop}
use Rattle.tally.proofs.GatherLaws.{Passed}
use Rattle.tally.proofs.gather_atoms.Given as goal

abbrev pub invariant-loop-i : goal.invariant-loop-i
invariant-loop-i l = Passed (drop 16 l.front) l.labels l.i (2 * l.i - 1) l.group l.hydrogens l.tally
