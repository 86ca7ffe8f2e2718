-- `geometry::sizes::exceeds` meets its contract. Assumes nothing.
use Rattle.geometry.proofs.CellLaws.{sizes_other, sizes_told}
use Rattle.geometry.proofs.sizes.exceeds.Goals as goal

pub returns-then-region-ne-GEOMETRY : goal.returns-then-region-ne-GEOMETRY
returns-then-region-ne-GEOMETRY c = sizes_other _ c.if-region-ne-GEOMETRY.true

pub returns : goal.returns
returns c = sizes_told _ c.if-region-ne-GEOMETRY.false
