-- `geometry::line::geometry_line` meets its contract. Assumes nothing.
use Rattle.std.proofs.Common.{rules}
use Rattle.geometry.proofs.LineLaws.{line_other, line_by, placed_by}
use Rattle.geometry.proofs.line.geometry_line.Goals as goal

pub returns-then-region-ne-GEOMETRY : goal.returns-then-region-ne-GEOMETRY
returns-then-region-ne-GEOMETRY c = line_other _ _ _ _ _ c.if-region-ne-GEOMETRY.true _ c.at.ensures

pub returns : goal.returns
returns c = line_by _ _ _ _ _ _ _ c.if-region-ne-GEOMETRY.false c.turn_line.ensures _ (placed_by _ _ _ _ c.map_err.ensures.cases (λ e q h. search rules))
