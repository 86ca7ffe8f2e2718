-- `gather::runs::atom_run` meets its contract. Assumes nothing.
use Prim.Native.Nat.{◌-◌}
use Rattle.gather.specs.Runs.{AtomsRan}
use Rattle.gather.proofs.runs.atom_run.Given as goal

abbrev pub invariant-loop-count : goal.invariant-loop-count
invariant-loop-count l = AtomsRan l.last l.block l.at l.atoms l.initial.scratch l.scratch (record { place = l.place; count = l.count })

abbrev pub decreases-loop-count : goal.decreases-loop-count
decreases-loop-count l = 256 - l.count
