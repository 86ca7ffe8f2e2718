use mathlib.Core.Path.{sym}
use Rattle.format.specs.Table.{row_place, base, width}
use Rattle.format.specs.Structure.{most}
use Rattle.format.proofs.Places.{place_in, place_out}
use Rattle.format.proofs.Table.centre.Goals as goal

pub returns-then-index-lt-CENTRES : goal.returns-then-index-lt-CENTRES
unfolding row_place base width most
returns-then-index-lt-CENTRES c = sym (place_in 2960 3 128 _ c.if-index-lt-CENTRES.true)

pub returns : goal.returns
unfolding row_place base width most
returns c = sym (place_out 2960 3 128 _ c.if-index-lt-CENTRES.false)
