-- `formula::two_step` meets its contract. Assumes nothing.
use mathlib.Core.Path.{◌∙◌}
use Rattle.alphabet.proofs.DigitLaws.{digit_some, digit_none}
use borrow.Author.Tests.{eq-eqb, ne_eqb}
use Rattle.format.proofs.FormulaLaws.{two_is, count_or_digit, count_or_slash, count_or_other}
use Rattle.formula.proofs.MoveLaws.{stays, renamed, count_starts}
use Rattle.formula.proofs.two_step.Goals as goal

pub returns-in-Some : goal.returns-in-Some
returns-in-Some c =
    let d = digit_some _ _ c.digit.ensures _ c.in-Some.is in count_starts _ _ d _ _ _ (two_is _ _ ∙ count_or_digit _ _ _ d.0) c.still.ensures

pub returns-then-byte-eq47 : goal.returns-then-byte-eq47
returns-then-byte-eq47 c =
    stays _ _ _ c.still-then-byte-eq47.ensures (two_is _ _ ∙ count_or_slash _ _ _ (digit_none _ _ c.digit.ensures c.in_default.is) (eq-eqb _ _ c.if-byte-eq47.true)) tt

pub returns : goal.returns
returns c =
    renamed _ _ _ (two_is _ _ ∙ count_or_other _ _ _ (digit_none _ _ c.digit.ensures c.in_default.is) (ne_eqb _ _ c.if-byte-eq47.false)) c.leave_step.ensures
