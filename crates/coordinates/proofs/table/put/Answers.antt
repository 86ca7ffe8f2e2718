-- `coordinates::table::put` meets its contract. Assumes nothing.
use native.Mathlib.Omega.{arith}
use lib.ListN.{length-set}
use Rattle.coordinates.proofs.PlaceLaws.{four_put}
use Rattle.coordinates.proofs.table.put.Goals as goal

pub bounds-positions-at-2 : goal.bounds-positions-at-2
bounds-positions-at-2 c = simp length-set (omega arith)

pub bounds-positions-at-3 : goal.bounds-positions-at-3
bounds-positions-at-3 c = simp length-set (omega arith)

pub bounds-positions-at-4 : goal.bounds-positions-at-4
bounds-positions-at-4 c = simp length-set (omega arith)

pub returns : goal.returns
returns c = four_put _ _ _ _ _ _ c.requires
