-- `publish::Renumbered::nothing` meets its contract. Assumes nothing.
use mathlib.Core.Path.{sym}
use Rattle.lists.proofs.PartLaws.{filled_nil}
use Rattle.publish.proofs.Renumbered.nothing.Goals as goal

pub returns : goal.returns
returns c = (sym (filled_nil 0 65), sym (filled_nil 0 64))
