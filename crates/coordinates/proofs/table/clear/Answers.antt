-- `coordinates::table::clear` meets its contract. Assumes nothing.
use mathlib.Core.Path.{refl}
use Rattle.coordinates.proofs.ClearLaws.{fronted_short, cleared}
use Rattle.coordinates.proofs.table.clear.Goals as goal

pub returns-then-positions-lt-SIZE : goal.returns-then-positions-lt-SIZE
returns-then-positions-lt-SIZE c = fronted_short _ _ c.if-positions-lt-SIZE.true

pub returns : goal.returns
returns c = cleared c.args.positions.now _ c.if-positions-lt-SIZE.false refl (c.fill.ensures.after (λ y h. h))
