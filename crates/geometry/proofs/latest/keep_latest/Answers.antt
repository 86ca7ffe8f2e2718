-- `geometry::latest::keep_latest` meets its contract. Assumes nothing.
use Rattle.geometry.proofs.StoreLaws.{latest_other, latest_none, latest_kept}
use Rattle.geometry.proofs.latest.keep_latest.Goals as goal

pub returns-then-region-ne-GEOMETRY : goal.returns-then-region-ne-GEOMETRY
returns-then-region-ne-GEOMETRY c = latest_other _ _ c.if-region-ne-GEOMETRY.true

pub returns-then-rows-lt1 : goal.returns-then-rows-lt1
returns-then-rows-lt1 c = latest_none _ _ c.if-region-ne-GEOMETRY.false c.if-rows-lt1.true

pub returns : goal.returns
returns c = latest_kept _ _ c.if-region-ne-GEOMETRY.false c.if-rows-lt1.false _ c.keep.ensures
