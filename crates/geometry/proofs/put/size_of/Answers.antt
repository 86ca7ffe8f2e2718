-- `geometry::put::size_of` meets its contract. Assumes nothing.
use mathlib.Core.Path.{◌∙◌}
use Rattle.geometry.proofs.CellLaws.{size_by}
use Rattle.geometry.proofs.put.size_of.Goals as goal

pub returns : goal.returns
returns c = c.abs_diff.ensures ∙ size_by _
