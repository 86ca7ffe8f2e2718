-- `coordinates::fill::fill` meets its contract. Assumes nothing.
use mathlib.Core.Path.{◌∙◌}
use native.Mathlib.Omega.{arith}
use Rattle.coordinates.proofs.ClearLaws.{fronted_short}
use Rattle.coordinates.proofs.FillLaws.{fill_start, fill_more, row_placed_at, filled}
use Rattle.coordinates.proofs.fill.fill.Goals as goal

pub returns-then-positions-lt-SIZE : goal.returns-then-positions-lt-SIZE
returns-then-positions-lt-SIZE c = fronted_short _ _ c.if-positions-lt-SIZE.true

pub loop-index-init : goal.loop-index-init
loop-index-init c = fill_start _ _ _ _ c.if-positions-lt-SIZE.false c.clear.ensures

pub loop-index-preserved : goal.loop-index-preserved
loop-index-preserved c = fill_more _ _ _ _ _ _ c.loop-index.invariant (c.place.ensures ∙ row_placed_at _ _ _ _ _ _ c.row_at-row.ensures c.row_position.ensures)

pub returns : goal.returns
returns c = filled _ _ _ _ c.if-positions-lt-SIZE.false c.clear.ensures _ _ _ (rw (← c.min-index-end.ensures) (omega arith)) (rw (← c.min-index-end.ensures) (omega arith)) c.loop-index.invariant
