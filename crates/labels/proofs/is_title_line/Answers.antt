-- `labels::is_title_line` meets its contract. Assumes nothing.
use mathlib.Core.Path.{◌∙◌, ap}
use lib.Dec.{eqb}
use Rattle.labels.proofs.LabelLaws.{title_told}
use Rattle.labels.proofs.is_title_line.Goals as goal

pub returns : goal.returns
returns c = ap (λ n. eqb n 1) c.code.ensures ∙ title_told _ _ c.line_kind.ensures
