-- `factor::scale::quotient` meets its contract. Assumes nothing.
use mathlib.Core.Path.{ap₂, ◌∙◌}
use native.Mathlib.Omega.{arith}
use Prim.Native.Nat.{ℕ, ◌≤◌}
use lib.IntN.{ℤ, pos}
use lib.Ieee.{binary64, div, of_int}
use mir.Facts.{to_z-of_z}
use Rattle.factor.proofs.QuotientLaws.{nought_is, power_is, quotient_high, quotient_is}
use Rattle.factor.proofs.scale.quotient.Goals as goal

pub returns-in-Some : goal.returns-in-Some
returns-in-Some c =
    let e = c.in-Some.ensures.lookup.3 in
    let few : c.args.decimals ≤ 9 = omega (arith, e.0) in
    ap₂ (λ (x : ℤ) (q : ℕ). div binary64 (of_int binary64 x) (of_int binary64 (pos q))) (to_z-of_z c.ranges.p) (e.1 0 ∙ power_is c.args.decimals few) ∙ quotient_is c.args.p c.args.decimals few

pub returns-in-None : goal.returns-in-None
returns-in-None c = nought_is ∙ quotient_high _ _ (omega (arith, c.in-None.ensures.lookup.3))
