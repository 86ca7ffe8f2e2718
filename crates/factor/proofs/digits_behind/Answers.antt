-- `factor::digits_behind` meets its contract. Assumes nothing.
use mathlib.Core.Path.{sym, ◌∙◌}
use native.Mathlib.Omega.{arith}
use Rattle.format.proofs.ByteLaws.{digit_bounds}
use Rattle.format.proofs.NumberLaws.{from_at_digit, from_at_other, from_at_end}
use Rattle.alphabet.proofs.DigitLaws.{digit_some, digit_none}
use Rattle.factor.proofs.PartLaws.{room_more, room_left, room_end}
use Rattle.factor.proofs.digits_behind.Goals as goal

pub overflow_mul-n : goal.overflow_mul-n
overflow_mul-n c = omega (arith, room_left _ _ _ c.requires.0 c.loop-d-test.true c.loop-d.invariant.0)

pub returns-in_err-n-clause-says : goal.returns-in_err-n-clause-says
returns-in_err-n-clause-says c = c.from_residual.ensures ∙ sym (c.loop-d.invariant.1 ∙ from_at_other _ _ _ c.loop-d-test.true (digit_none _ _ c.digit.ensures c.in_err-n.was))

pub overflow_add-n : goal.overflow_add-n
overflow_add-n c =
    let d = digit_some _ _ c.digit.ensures _ c.in_ok-n.was in
    omega (arith, room_left _ _ _ c.requires.0 c.loop-d-test.true c.loop-d.invariant.0, d.1, (digit_bounds _ d.0).1)

pub loop-d-preserved : goal.loop-d-preserved
loop-d-preserved c =
    let d = digit_some _ _ c.digit.ensures _ c.in_ok-n.was in
    rw d.1 (room_more _ _ _ _ c.loop-d.invariant.0 d.0, c.loop-d.invariant.1 ∙ from_at_digit _ _ _ c.loop-d-test.true d.0)

pub returns-clause-says : goal.returns-clause-says
returns-clause-says c = sym (c.loop-d.invariant.1 ∙ from_at_end _ _ _ c.loop-d-test.false)

pub returns-clause-small : goal.returns-clause-small
returns-clause-small c = room_end _ _ _ c.requires.0 (omega arith) c.loop-d.invariant.0
