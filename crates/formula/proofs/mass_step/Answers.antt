-- `formula::mass_step` meets its contract. Assumes nothing.
use mathlib.Core.Path.{sym, ◌∙◌}
use native.Mathlib.Omega.{arith}
use Rattle.alphabet.proofs.DigitLaws.{digit_some, digit_none}
use Rattle.format.proofs.ByteLaws.{digit_bounds}
use Rattle.format.proofs.FormulaLaws.{mass_long, mass_upper, mass_dead}
use Rattle.formula.proofs.MoveLaws.{stays, mass_grows}
use Rattle.formula.proofs.mass_step.Goals as goal

pub longer-requires : goal.longer-requires
longer-requires c = let d = digit_some _ _ c.digit.ensures _ c.in-Some.is in omega (arith, d.1, digit_bounds _ d.0)

pub returns-then-size-lt3 : goal.returns-then-size-lt3
returns-then-size-lt3 c = mass_grows _ _ _ _ _ (digit_some _ _ c.digit.ensures _ c.in-Some.is) c.longer.ensures _ c.still.ensures c.if-size-lt3.true

pub returns-in-Some : goal.returns-in-Some
returns-in-Some c = λ h. stays _ _ _ c.still-in-Some.ensures (mass_long _ _ _ (digit_some _ _ c.digit.ensures _ c.in-Some.is).0 c.if-size-lt3.false) tt

pub returns-then-is_upper : goal.returns-then-is_upper
returns-then-is_upper c =
    λ h. stays _ _ _ c.still-then-is_upper.ensures (mass_upper _ _ _ (digit_none _ _ c.digit.ensures c.in_default.is) (sym c.is_upper.ensures ∙ c.if-is_upper.true)) tt

pub returns : goal.returns
returns c =
    λ h. stays _ _ _ c.still-2.ensures (mass_dead _ _ _ (digit_none _ _ c.digit.ensures c.in_default.is) (sym c.is_upper.ensures ∙ c.if-is_upper.false)) tt
