-- `sorted::keyed::is_bare` meets its contract. Assumes nothing.
use mathlib.Core.Path.{◌∙◌}
use Rattle.sorted.proofs.KeyedLaws.{bare_is}
use Rattle.sorted.proofs.keyed.is_bare.Goals as goal

pub returns : goal.returns
returns c = c.is_empty.ensures ∙ bare_is _ _ c.next_field.ensures
