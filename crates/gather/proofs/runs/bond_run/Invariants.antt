-- `gather::runs::bond_run` meets its contract. Assumes nothing.
use Prim.Native.Nat.{◌-◌, ◌≤◌}
use lib.ListN.{length}
use Rattle.gather.specs.Runs.{BondsRan}
use Rattle.gather.proofs.runs.bond_run.Given as goal

abbrev pub invariant-loop-place : goal.invariant-loop-place
invariant-loop-place l = (l.count ≤ 512) × BondsRan l.block l.at l.atoms l.bonds l.initial.scratch l.scratch (record { place = l.place; count = l.count })

abbrev pub decreases-loop-place : goal.decreases-loop-place
decreases-loop-place l = length l.block - l.place
