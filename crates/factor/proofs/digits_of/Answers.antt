-- `factor::digits_of` meets its contract. Assumes nothing.
use mathlib.Core.Path.{◌∙◌}
use Rattle.factor.proofs.PartLaws.{no_digits, many_digits, front_room, front_none, behind_room, both_is}
use Rattle.factor.proofs.digits_of.Goals.{then-count-lt1-via-then-count-lt1, then-count-lt1-via-else-count-lt1+then-count-gt-MOST_DIGITS}
use Rattle.factor.proofs.digits_of.Goals as goal

pub returns-then-count-lt1-clause-says : goal.returns-then-count-lt1-clause-says
returns-then-count-lt1-clause-says c = elim c.then-count-lt1.branch [ then-count-lt1-via-then-count-lt1 w ↦ no_digits _ _ w.if-count-lt1.true | then-count-lt1-via-else-count-lt1+then-count-gt-MOST_DIGITS w ↦ many_digits _ _ w.if-count-gt-MOST_DIGITS.true ]

pub digits_behind-requires : goal.digits_behind-requires
digits_behind-requires c = front_room c.args.parts.front.now c.args.parts.behind.now c.if-count-lt1.false c.if-count-gt-MOST_DIGITS.false

pub returns-in_err-front-clause-says : goal.returns-in_err-front-clause-says
returns-in_err-front-clause-says c = c.from_residual.ensures ∙ front_none _ _ c.if-count-lt1.false c.if-count-gt-MOST_DIGITS.false c.in_err-front.ensures.says

pub digits_behind-requires-2 : goal.digits_behind-requires-2
digits_behind-requires-2 c = behind_room c.args.parts.front.now c.args.parts.behind.now c.if-count-lt1.false c.if-count-gt-MOST_DIGITS.false _ c.in_ok-front.ensures.says

pub returns-clause-says : goal.returns-clause-says
returns-clause-says c = c.digits_behind-2.ensures.says ∙ both_is c.args.parts.front.now _ c.if-count-lt1.false c.if-count-gt-MOST_DIGITS.false _ c.in_ok-front.ensures.says
