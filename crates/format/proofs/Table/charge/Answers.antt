use mathlib.Core.Path.{sym}
use Rattle.format.specs.Table.{row_place, base, width}
use Rattle.format.specs.Structure.{most}
use Rattle.format.proofs.Places.{place_one, place_out}
use Rattle.format.proofs.Table.charge.Goals as goal

pub returns-then-index-lt-CHARGES : goal.returns-then-index-lt-CHARGES
unfolding row_place base width most
returns-then-index-lt-CHARGES c = sym (place_one 2832 64 _ c.if-index-lt-CHARGES.true)

pub returns : goal.returns
unfolding row_place base width most
returns c = sym (place_out 2832 1 64 _ c.if-index-lt-CHARGES.false)
