-- `geometry::put::largest_by` meets its contract. Assumes nothing.
use Rattle.geometry.specs.Cells.{largest_by}
use Rattle.geometry.proofs.put.largest_by.Goals as goal

pub returns : goal.returns
unfolding largest_by
returns c = cc
