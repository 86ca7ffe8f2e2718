-- `factor::scale::coordinate` meets its contract. Assumes nothing.
use mathlib.Core.Path.{◌∙◌}
use Rattle.factor.proofs.QuotientLaws.{nought_is, scaled_far, scaled_of}
use borrow.Author.Rules.{rules}
use Rattle.factor.proofs.scale.coordinate.Goals as goal

pub returns-then-value-gt-MOST_RAISED : goal.returns-then-value-gt-MOST_RAISED
returns-then-value-gt-MOST_RAISED c = nought_is ∙ scaled_far _ _ c.if-value-gt-MOST_RAISED.true

pub returns : goal.returns
returns c = search (rules, scaled_of)
