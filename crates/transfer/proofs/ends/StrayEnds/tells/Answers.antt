-- What a line tells of where a stray run ends. Assumes nothing.
use mathlib.Core.Path.{◌∙◌}
use Rattle.transfer.proofs.TellLaws.{strays}
use Rattle.transfer.proofs.ends.StrayEnds.tells.Goals as goal

pub returns : goal.returns
returns c = c.then_some.ensures ∙ strays _ _ c.line_kind.ensures _ c.code.ensures
