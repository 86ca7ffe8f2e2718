-- `formula::count_step` meets its contract. Assumes nothing.
use native.Mathlib.Omega.{arith}
use Rattle.alphabet.proofs.DigitLaws.{digit_some, digit_none}
use Rattle.format.proofs.ByteLaws.{digit_bounds}
use Rattle.format.proofs.FormulaLaws.{count_long, count_other}
use Rattle.formula.proofs.MoveLaws.{stays, renamed, count_grows}
use Rattle.formula.proofs.count_step.Goals as goal

pub returns-in_default : goal.returns-in_default
returns-in_default c = λ h. renamed _ _ _ (count_other _ _ _ _ (digit_none _ _ c.digit.ensures c.in_default.is)) c.leave_step.ensures

pub longer-requires : goal.longer-requires
longer-requires c = let d = digit_some _ _ c.digit.ensures _ c.in-Some.is in omega (arith, d.1, digit_bounds _ d.0)

pub returns-then-size-lt6 : goal.returns-then-size-lt6
returns-then-size-lt6 c = count_grows _ _ _ _ _ (digit_some _ _ c.digit.ensures _ c.in-Some.is) c.longer.ensures _ _ c.still.ensures c.if-size-lt6.true

pub returns : goal.returns
returns c = λ h. stays _ _ _ c.still-2.ensures (count_long _ _ _ _ (digit_some _ _ c.digit.ensures _ c.in-Some.is).0 c.if-size-lt6.false) tt
