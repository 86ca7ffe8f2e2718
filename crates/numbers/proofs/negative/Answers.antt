-- `numbers::negative` meets its contract. Assumes nothing.
use mathlib.Core.Path.{sym, ◌∙◌}
use Rattle.std.proofs.Common.{rules}
use Rattle.format.specs.Rows.{negative}
use Rattle.numbers.proofs.NumeralLaws.{negative_is}
use Rattle.numbers.proofs.negative.Goals as goal

pub returns-in_err-n-clause-says : goal.returns-in_err-n-clause-says
unfolding negative
returns-in_err-n-clause-says c = search rules

pub returns-clause-says : goal.returns-clause-says
returns-clause-says c = negative_is _ _ (sym c.number.ensures.says ∙ c.in_ok-n.was) c.in_ok-n.ensures.small
