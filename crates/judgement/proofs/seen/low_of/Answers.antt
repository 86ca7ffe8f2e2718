-- `judgement::seen::low_of` meets its contract. Assumes nothing.
use mathlib.Core.Path.{◌∙◌}
use Rattle.judgement.proofs.SeenLaws.{known_told}
use Rattle.judgement.proofs.seen.low_of.Goals as goal

pub returns : goal.returns
returns c = c.bits_of.ensures ∙ (known_told c.args.code c.requires).1
