-- `quick::parts::number_at` meets its contract. Assumes nothing.
use mathlib.Core.Path.{sym, ◌∙◌}
use Rattle.quick.proofs.PieceLaws.{sums, number_one, number_two, number_three}
use Rattle.quick.proofs.parts.number_at.Goals as goal

pub returns-then-two-eq32 : goal.returns-then-two-eq32
returns-then-two-eq32 c = number_one _ _ c.requires _ (sym c.is_digit.ensures ∙ c.if-not-is_digit.false) c.if-two-eq32.true c.digit_value-units.ensures.0

pub returns-then-three-eq32 : goal.returns-then-three-eq32
returns-then-three-eq32 c =
    number_two _ _ c.requires _ (sym c.is_digit.ensures ∙ c.if-not-is_digit.false) (sym c.is_digit-2.ensures ∙ c.if-not-is_digit-2.false) c.if-three-eq32.true
    (sums c.digit_value-units.ensures.0 c.digit_value.ensures.0)

pub returns : goal.returns
returns c =
    number_three _ _ c.requires _ (sym c.is_digit.ensures ∙ c.if-not-is_digit.false) (sym c.is_digit-2.ensures ∙ c.if-not-is_digit-2.false)
    (sym c.is_digit-3.ensures ∙ c.if-not-is_digit-3.false) c.if-block-at-ne32.false (sums (sums c.digit_value-units.ensures.0 c.digit_value.ensures.0) c.digit_value-2.ensures.0)
