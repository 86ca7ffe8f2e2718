use mathlib.Core.Path.{sym}
use Rattle.format.specs.Table.{row_place, base, width}
use Rattle.format.specs.Structure.{most}
use Rattle.format.proofs.Places.{place_in, place_out}
use Rattle.format.proofs.Table.pair.Goals as goal

pub returns-then-index-lt-PAIRS : goal.returns-then-index-lt-PAIRS
unfolding row_place base width most
returns-then-index-lt-PAIRS c = sym (place_in 3344 4 128 _ c.if-index-lt-PAIRS.true)

pub returns : goal.returns
unfolding row_place base width most
returns c = sym (place_out 3344 4 128 _ c.if-index-lt-PAIRS.false)
