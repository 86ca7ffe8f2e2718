-- `formula::one_step` meets its contract. Assumes nothing.
use mathlib.Core.Path.{sym, ◌∙◌}
use Rattle.alphabet.proofs.DigitLaws.{digit_some, digit_none}
use borrow.Author.Tests.{eq-eqb, ne_eqb}
use Rattle.format.proofs.FormulaLaws.{one_lower, one_other, count_or_digit, count_or_slash, count_or_other}
use Rattle.formula.proofs.MoveLaws.{stays, renamed, count_starts}
use Rattle.formula.proofs.one_step.Goals as goal

pub returns-then-is_lower : goal.returns-then-is_lower
returns-then-is_lower c = stays _ _ _ c.still.ensures (one_lower _ _ _ _ (sym c.is_lower.ensures ∙ c.if-is_lower.true)) tt

pub returns-in-Some : goal.returns-in-Some
returns-in-Some c =
    let d = digit_some _ _ c.digit.ensures _ c.in-Some.is in count_starts _ _ d _ _ _ (one_other _ _ _ _ (sym c.is_lower.ensures ∙ c.if-is_lower.false) ∙ count_or_digit _ _ _ d.0) c.still-in-Some.ensures

pub returns-then-byte-eq47 : goal.returns-then-byte-eq47
returns-then-byte-eq47 c =
    stays _ _ _ c.still-then-byte-eq47.ensures (one_other _ _ _ _ (sym c.is_lower.ensures ∙ c.if-is_lower.false) ∙ count_or_slash _ _ _ (digit_none _ _ c.digit.ensures c.in_default.is) (eq-eqb _ _ c.if-byte-eq47.true)) tt

pub returns : goal.returns
returns c =
    renamed _ _ _ (one_other _ _ _ _ (sym c.is_lower.ensures ∙ c.if-is_lower.false) ∙ count_or_other _ _ _ (digit_none _ _ c.digit.ensures c.in_default.is) (ne_eqb _ _ c.if-byte-eq47.false)) c.part_step.ensures
