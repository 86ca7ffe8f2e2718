-- `factor::factor_of` meets its contract. Assumes nothing.
use Prim.Native.Nat.{suc, ◌≤◌}
use mathlib.Core.Path.{◌≡◌, sym, ap, ap₂, ◌∙◌}
use mathlib.Core.List.{◌++◌}
use Rattle.std.specs.declared.option.Option.TheVariants.{Some}
use native.Mathlib.Omega.{arith}
use lib.ListN.{length, length-drop}
use Rattle.lists.specs.Lists.{span}
use Rattle.format.specs.Bytes.{Bytes}
use Rattle.format.specs.Coordinates.{unpointed}
use Rattle.format.specs.Rows.{digits_of}
use Rattle.factor.proofs.PartLaws.{few_behind}
use Rattle.factor.proofs.FactorLaws.{unpointed_of, no_factor, zero_factor, some_factor, factor_small, shape_err}
use Rattle.factor.proofs.factor_of.Goals.{After-digits_of}
use Rattle.factor.proofs.factor_of.Goals as goal

unpointed_is : (c : After-digits_of) → c.digits_of.result ≡ digits_of 9 (unpointed_of c.args.word.now)
unpointed_is c = c.digits_of.ensures.says ∙ ap₂ (λ (v w : Bytes). digits_of 9 (v ++ w)) c.parts_of-parts.ensures.front c.parts_of-parts.ensures.behind

few : (c : After-digits_of) (n : _) → c.digits_of.result ≡ Some n → length c.parts_of-parts.result.behind.now ≤ 9
few c n e = few_behind c.parts_of-parts.result.front.now _ n (sym e ∙ c.digits_of.ensures.says)

pub returns-in_err-digits-clause-says : goal.returns-in_err-digits-clause-says
returns-in_err-digits-clause-says c =
    let e = c.in_err-digits.ensures in
    shape_err _ _ _ c.from_residual.ensures.1 e.ok_part e.value ∙ no_factor _ (sym (unpointed_is (goal.at.returns-in_err-digits-clause-says c).After-digits_of) ∙ e.ok_part)

pub returns-then-digits-eq0-clause-says : goal.returns-then-digits-eq0-clause-says
returns-then-digits-eq0-clause-says c = zero_factor _ _ (sym (unpointed_is (goal.at.returns-then-digits-eq0-clause-says c).After-digits_of) ∙ c.in_ok-digits.ensures.ok_part) c.if-digits-eq0.true

pub overflow_cast-decimals : goal.overflow_cast-decimals
overflow_cast-decimals c = omega (arith, few (goal.at.overflow_cast-decimals c).After-digits_of _ c.in_ok-digits.ensures.ok_part)

pub returns-clause-says : goal.returns-clause-says
returns-clause-says c =
    let w = c.args.word.now in
    let d = ap length c.parts_of-parts.ensures.behind in
    some_factor w _ (sym (unpointed_is (goal.at.returns-clause-says c).After-digits_of) ∙ c.in_ok-digits.ensures.ok_part) c.if-digits-eq0.false _ (d ∙ length-drop (suc (span unpointed w)) w) _ c.factor_from.ensures

pub returns-clause-small : goal.returns-clause-small
returns-clause-small c =
    let small = c.digits_of.ensures.small in
    factor_small _ _ (rw c.in_ok-digits.ensures.ok_part at small) (few (goal.at.returns-clause-small c).After-digits_of _ c.in_ok-digits.ensures.ok_part) _ c.factor_from.ensures
