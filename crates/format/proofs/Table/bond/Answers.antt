use mathlib.Core.Path.{sym}
use Rattle.format.specs.Table.{row_place, base, width}
use Rattle.format.specs.Structure.{most}
use Rattle.format.proofs.Places.{place_in, place_out}
use Rattle.format.proofs.Table.bond.Goals as goal

pub returns-then-index-lt-BONDS : goal.returns-then-index-lt-BONDS
unfolding row_place base width most
returns-then-index-lt-BONDS c = sym (place_in 1296 3 512 _ c.if-index-lt-BONDS.true)

pub returns : goal.returns
unfolding row_place base width most
returns c = sym (place_out 1296 3 512 _ c.if-index-lt-BONDS.false)
