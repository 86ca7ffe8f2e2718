use mathlib.Core.Path.{sym}
use Rattle.format.specs.Table.{row_place, base, width}
use Rattle.format.specs.Structure.{most}
use Rattle.format.proofs.Places.{place_one, place_out}
use Rattle.format.proofs.Table.radical.Goals as goal

pub returns-then-index-lt-RADICALS : goal.returns-then-index-lt-RADICALS
unfolding row_place base width most
returns-then-index-lt-RADICALS c = sym (place_one 2896 64 _ c.if-index-lt-RADICALS.true)

pub returns : goal.returns
unfolding row_place base width most
returns c = sym (place_out 2896 1 64 _ c.if-index-lt-RADICALS.false)
