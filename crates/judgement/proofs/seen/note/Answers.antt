-- `judgement::seen::note` meets its contract. Assumes nothing.
use mathlib.Core.Path.{◌∙◌}
use lib.ListN.{length-set}
use Rattle.judgement.proofs.SeenLaws.{note_none, note_higher, note_lower}
use Rattle.judgement.proofs.seen.note.Goals as goal

pub returns-then-code : goal.returns-then-code
returns-then-code c = (c.requires.0, λ labels e t. note_none _ labels _ _ e t c.if-code.true)

pub returns-then-top-low : goal.returns-then-top-low
returns-then-top-low c = (length-set c.args.seen.now c.args.code 1 ∙ c.requires.0, λ labels e t. note_higher _ labels _ _ e t c.requires.1 c.if-code.false _ c.low_of-low.ensures c.if-top-low.true)

pub returns : goal.returns
returns c = (length-set c.args.seen.now c.args.code 1 ∙ c.requires.0, λ labels e t. note_lower _ labels _ _ e t c.requires.1 c.if-code.false _ c.low_of-low.ensures c.if-top-low.false)
