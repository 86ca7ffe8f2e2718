-- `numbers::digits` meets its contract. Assumes nothing.
use mathlib.Core.Path.{sym, ◌∙◌}
use native.Mathlib.Omega.{arith}
use native.Mathlib.Numerals.{add-one}
use Rattle.std.proofs.lemmas.Bool.Decides.{nat_tests}
use Rattle.format.proofs.NumberLaws.{digits_of_lem, digits_of_none, digits_of_long, digits_of_bound, from_at_digit, from_at_other, from_at_end, bound_more}
use Rattle.alphabet.proofs.DigitLaws.{digit_some, digit_none}
use Rattle.numbers.proofs.digits.Goals as goal

pub returns-then-is_empty-clause-says : goal.returns-then-is_empty-clause-says
returns-then-is_empty-clause-says c = grind (arith, nat_tests, digits_of_none)

pub returns-then-most-word-clause-says : goal.returns-then-most-word-clause-says
returns-then-most-word-clause-says c = sym (digits_of_long _ _ c.if-most-word.true)

pub loop-d-init : goal.loop-d-init
loop-d-init c = (omega arith, digits_of_lem _ _ (grind (arith, nat_tests)) c.if-most-word.false)

pub returns-in_err-n-clause-says : goal.returns-in_err-n-clause-says
returns-in_err-n-clause-says c =
    let e = c.loop-d.invariant.1 ∙ from_at_other _ _ _ c.loop-d-test.true (digit_none _ _ c.digit.ensures c.in_err-n.was) in
    cc

pub loop-d-preserved : goal.loop-d-preserved
loop-d-preserved c =
    let d = digit_some _ _ c.digit.ensures _ c.in_ok-n.was in
    (rw (add-one, d.1) (bound_more _ _ _ c.loop-d.invariant.0 d.0), rw d.1 (c.loop-d.invariant.1 ∙ from_at_digit _ _ _ c.loop-d-test.true d.0))

pub returns-clause-says : goal.returns-clause-says
returns-clause-says c = sym (c.loop-d.invariant.1 ∙ from_at_end _ _ _ c.loop-d-test.false)

pub returns-clause-small : goal.returns-clause-small
returns-clause-small c = (digits_of_bound _ _ _ (c.loop-d.invariant.1 ∙ from_at_end _ _ _ c.loop-d-test.false)).2
