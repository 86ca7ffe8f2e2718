use mathlib.Core.Path.{sym}
use Rattle.format.specs.Table.{text_place}
use Rattle.format.proofs.Places.{place_in, place_out}
use Rattle.format.proofs.Table.text.Goals as goal

pub returns-then-index-lt-TEXTS : goal.returns-then-index-lt-TEXTS
unfolding text_place
returns-then-index-lt-TEXTS c = sym (place_in 7 2 3 _ c.if-index-lt-TEXTS.true)

pub returns : goal.returns
unfolding text_place
returns c = sym (place_out 7 2 3 _ c.if-index-lt-TEXTS.false)
