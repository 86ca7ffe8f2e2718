-- The factor's answer from its digits, and what it says to the reading's turn. Serves document 02, L2 ("with a zero factor as 10"). Assumes nothing.
use Prim.Native.Nat.{ℕ, suc, ◌-◌, ◌^◌, ◌≤◌, ◌<◌}
use mathlib.Core.Path.{◌≡◌, refl, sym, ap, ◌∙◌}
use mathlib.Core.Bool.{Bool, true, false}
use Rattle.std.specs.declared.option.Option.{Option}
use Rattle.std.specs.declared.option.Option.TheVariants.{None, Some}
use Rattle.std.specs.Prelude.{IsErrAnd, ok_or}
use Rattle.std.specs.declared.result.Result.{Result}
use Rattle.std.specs.declared.result.Result.TheVariants.{Ok, Err}
use Rattle.format.specs.declared.refusal.Refusal.{Refusal}
use native.Mathlib.Nat.{one-mul}
use native.Mathlib.Omega.{arith}
use borrow.Author.Tests.{eq-eqb, ne_eqb}
use lib.Dec.{eqb}
use mathlib.Core.List.{◌++◌}
use lib.ListN.{length, take, drop}
use lib.IntN.{ℤ, pos, nat_abs}
use mir.Facts.{to_z_pos}
use mir.Syntax.{w64}
use mir.Val.{to_z}
use lib.Ieee.{Float, binary64, div, of_int}
use Rattle.lists.specs.Lists.{span}
use Rattle.format.specs.Bytes.{Bytes}
use Rattle.format.specs.Rows.{◌and_then◌, digits_of}
use Rattle.format.specs.Coordinates.{Factor, factor, unpointed, factor_shape, factor_value, coordinate}
use Rattle.format.specs.declared.refusal.Refusal.TheVariants.{Shape, Range}
use Rattle.format.specs.Reading.{State, if◌stop◌else◌, factor_turn}
use Rattle.factor.specs.declared.Factor.{Factor as Kept}
use Rattle.factor.specs.ShownFactors.{quotient_of, factor_from, FactorSmall, shown_factor, judged, judged_turn}
use Rattle.factor.proofs.QuotientLaws.{quotient_is}

-- the float beside the digits, wherever there are at most nine decimals
pub value_is : (n d : ℕ) → d ≤ 9 → (factor_from n d).value ≡ factor_value (factor n d)
unfolding coordinate
value_is n d h = sym (ap (λ (m : ℕ). div binary64 (of_int binary64 (pos m)) (of_int binary64 (pos (10 ^ d)))) (one-mul n) ∙ quotient_is (pos n) d h)

-- the digits as the machine hands them to the division
pub digits_exact : (n : ℕ) → n < 2 ^ 32 → nat_abs (to_z w64 n) ≤ 9007199254740992
digits_exact n h = rw (to_z_pos w64 {n = n} (omega arith)) (omega arith)

pub from_is : (n d : ℕ) (x : Float) → n < 2 ^ 32 → x ≡ quotient_of (to_z w64 n) d → record { digits = n; decimals = d; value = x } ≡ factor_from n d
from_is n d x h e = ap (λ (y : Float). record { digits = n; decimals = d; value = y }) (e ∙ ap (λ (z : ℤ). quotient_of z d) (to_z_pos w64 {n = n} (omega arith)))

-- the word without its first point
abbrev pub unpointed_of : Bytes → Bytes
unpointed_of w = take (span unpointed w) w ++ drop (suc (span unpointed w)) w

module _ (w : Bytes) where
  pub no_factor : digits_of 9 (unpointed_of w) ≡ None → Err Shape ≡ judged (factor_shape w)
  unfolding judged factor_shape
  no_factor e = sym (rw (e, ◌and_then◌))

  module _ (n : ℕ) (e : digits_of 9 (unpointed_of w) ≡ Some n) where
    shape_is : factor_shape w ≡ Some (factor n (length w - suc (span unpointed w)))
    unfolding factor_shape
    shape_is = rw (e, ◌and_then◌)

    pub zero_factor : n ≡ 0 → Err Range ≡ judged (factor_shape w)
    unfolding judged
    zero_factor z = sym (ap judged shape_is ∙ rw (eq-eqb n 0 z, judged))

    pub some_factor : (n ≡ 0 → ⊥) → (d : ℕ) → d ≡ length w - suc (span unpointed w) → (r : Kept) → r ≡ factor_from n d → shown_factor (Ok r) ≡ judged (factor_shape w)
    unfolding judged
    some_factor z d p r q = ap (λ (k : Kept). shown_factor (Ok k)) q ∙ ap (λ (k : ℕ). Ok (factor n k)) p ∙ sym (ap judged shape_is ∙ rw (ne_eqb n 0 z, judged))

-- the refusal of a word without shape, handed on
pub shape_err : (r : Result Kept Refusal) (e : Refusal) (o : Option ℕ) → IsErrAnd r (λ y. y ≡ e) → o ≡ None → Err e ≡ ok_or o Shape → shown_factor r ≡ Err Shape
shape_err (Ok f) e o h n q = absurd h
shape_err (Err y) e o h n q = let z : e ≡ Shape = cc in ap (λ (z : Refusal). Err z) (h ∙ z)

pub factor_small : (n d : ℕ) → n < 1000000000 → d ≤ 9 → (r : Kept) → r ≡ factor_from n d → FactorSmall r
factor_small n d b c r q = rw q (value_is n d c, omega arith, c)

-- what the answer says to the reading: its factor is taken, its refusal stops
pub turn_judged : (st : State) (o : Option Factor) → factor_turn st o ≡ judged_turn st (judged o)
unfolding factor_turn judged
turn_judged st None = refl
turn_judged st (Some f) = go (eqb f.digits 0) refl
  where
    go : (t : Bool) → eqb f.digits 0 ≡ t → factor_turn st (Some f) ≡ judged_turn st (judged (Some f))
    go true e = let q : judged (Some f) ≡ Err Range = rw (e, judged) in rw (e, if◌stop◌else◌) (sym (ap (judged_turn st) q))
    go false e = let q : judged (Some f) ≡ Ok f = rw (e, judged) in rw (e, if◌stop◌else◌) (sym (ap (judged_turn st) q))
