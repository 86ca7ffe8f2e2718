-- `geometry::run::xyz_run` meets its contract. Assumes nothing.
use Rattle.std.proofs.Common.{◌≡◌, ◌-◌, length}
use Rattle.geometry.specs.XyzRuns.{XyzRan}
use Rattle.geometry.proofs.run.xyz_run.Given as goal

abbrev pub invariant-loop-quick : goal.invariant-loop-quick
invariant-loop-quick l = (length l.region ≡ 9) × XyzRan l.block l.at l.atoms l.initial.region l.region l.initial.store l.store l.place

abbrev pub decreases-loop-quick : goal.decreases-loop-quick
decreases-loop-quick l = length l.block - l.place
