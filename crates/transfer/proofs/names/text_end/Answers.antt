-- Where a text ends. Assumes nothing.
use mathlib.Core.Path.{◌∙◌}
use Rattle.transfer.proofs.EndLaws.{text_ending}
use Rattle.transfer.proofs.NameLaws.{text_ends}
use Rattle.transfer.proofs.PassLaws.{label_passes}
use Rattle.transfer.proofs.names.text_end.Goals as goal

pub end_of-requires : goal.end_of-requires
end_of-requires c = label_passes

pub returns : goal.returns
returns c = text_ends _ _ _ (c.end_of.ensures ∙ text_ending _ _)
