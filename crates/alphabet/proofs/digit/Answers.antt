-- `alphabet::digit` meets its contract. Assumes nothing.
use mathlib.Core.Path.{sym, ◌∙◌}
use Rattle.format.proofs.ByteLaws.{digit_bounds}
use Rattle.alphabet.proofs.digit.Goals as goal

pub returns-then-not-is_digit : goal.returns-then-not-is_digit
returns-then-not-is_digit c = simp (sym c.is_digit.ensures ∙ c.if-not-is_digit.true)

pub overflow_sub-b : goal.overflow_sub-b
overflow_sub-b c = (digit_bounds _ (sym c.is_digit.ensures ∙ c.if-not-is_digit.false)).0

pub returns : goal.returns
returns c = simp (sym c.is_digit.ensures ∙ c.if-not-is_digit.false, c.from.ensures)
