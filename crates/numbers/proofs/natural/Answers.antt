-- `numbers::natural` meets its contract. Assumes nothing.
use mathlib.Core.Path.{sym, ◌∙◌}
use Rattle.std.proofs.Common.{rules}
use Rattle.format.specs.Rows.{natural}
use Rattle.numbers.proofs.NumeralLaws.{natural_is}
use Rattle.numbers.proofs.natural.Goals as goal

pub returns-in_err-n-clause-says : goal.returns-in_err-n-clause-says
unfolding natural
returns-in_err-n-clause-says c = search rules

pub returns-clause-says : goal.returns-clause-says
returns-clause-says c = natural_is _ _ (sym c.number.ensures.says ∙ c.in_ok-n.was) c.in_ok-n.ensures.small
