-- One rounded division of whole numbers that are exact as floats, and the product that a coordinate divides. Serves document 02, L2 ("the whole product of row value and
-- factor digits, divided once by its power of ten"). Assumes nothing.
use Prim.Native.Nat.{ℕ, zero, suc, ◌^◌, ◌≤◌, ◌<◌}
use mathlib.Core.Path.{◌≡◌, refl, sym, ap, ap₂, ◌∙◌}
use mathlib.Core.Bool.{Bool, true, false}
use mathlib.Core.List.{List, [], ◌∷◌}
use native.Mathlib.Nat.{le_trans, le_of_lt, mul-le-mul}
use native.Mathlib.Omega.{arith}
use borrow.Author.Rules.{sfits_of}
use borrow.Author.Tests.{lt-leb, le-leb, ltb-true, ltb-false, leb-true}
use lib.Dec.{ltb, lit≤}
use lib.ListN.{get_or}
use lib.IntN.{ℤ, pos, negsuc, nat_abs, ◌-ℤ◌, ◌*ℤ◌}
use lib.Ieee.{Float, binary64, div, of_int, of_bits, of_fields}
use mir.Facts.{to_z-of_z, to_z_pos}
use mir.Syntax.{w64}
use mir.Val.{SFits, to_z, of_z}
use Rattle.format.specs.Coordinates.{Factor, nought, coordinate}
use Rattle.format.proofs.CoordinateLaws.{abs_product}
use Rattle.rows.specs.Raised.{lowered, six_digits}
use Rattle.rows.proofs.XyzLaws.{lowered_low, lowered_high}
use Rattle.factor.specs.ShownFactors.{quotient_of, scaled}

-- a literal 0.0 of the code is the definitions' nought
pub nought_is : of_bits binary64 0 ≡ nought
unfolding of_bits of_fields
nought_is = refl

-- THE POWERS
abbrev pub powers : List ℕ
powers = 1 ∷ 10 ∷ 100 ∷ 1000 ∷ 10000 ∷ 100000 ∷ 1000000 ∷ 10000000 ∷ 100000000 ∷ 1000000000 ∷ []

pub power_is : (d : ℕ) → d ≤ 9 → get_or powers d 0 ≡ 10 ^ d
power_is zero h = refl
power_is (suc zero) h = refl
power_is (suc (suc zero)) h = refl
power_is (suc (suc (suc zero))) h = refl
power_is (suc (suc (suc (suc zero)))) h = refl
power_is (suc (suc (suc (suc (suc zero))))) h = refl
power_is (suc (suc (suc (suc (suc (suc zero)))))) h = refl
power_is (suc (suc (suc (suc (suc (suc (suc zero))))))) h = refl
power_is (suc (suc (suc (suc (suc (suc (suc (suc zero)))))))) h = refl
power_is (suc (suc (suc (suc (suc (suc (suc (suc (suc zero))))))))) h = refl
power_is (suc (suc (suc (suc (suc (suc (suc (suc (suc (suc d)))))))))) h = absurd (omega arith)

-- THE QUOTIENT
module _ (p : ℤ) (d : ℕ) where
  pub quotient_high : 9 < d → nought ≡ quotient_of p d
  unfolding quotient_of
  quotient_high h = sym (rw (lt-leb d 9 h, quotient_of))

  pub quotient_is : d ≤ 9 → div binary64 (of_int binary64 p) (of_int binary64 (pos (10 ^ d))) ≡ quotient_of p d
  unfolding quotient_of
  quotient_is h = sym (rw (le-leb d 9 h, quotient_of))

-- A RAISED NUMBER, lowered again: how far it is from 0: at most 1,000,000, and beyond for a number that no row gives
lowered_near : (n : ℕ) → n ≤ 2000000 → nat_abs (lowered n) ≤ 1000000
lowered_near n h = go (ltb n 1000000) refl
  where
    go : (t : Bool) → ltb n 1000000 ≡ t → nat_abs (lowered n) ≤ 1000000
    go true e = rw (lowered_low n (ltb-true n 1000000 e)) (omega arith)
    go false e = rw (lowered_high n (ltb-false n 1000000 e)) (omega arith)

pub lowered_far : (n : ℕ) → 2000000 < n → 1000000 < nat_abs (lowered n)
lowered_far n h = rw (lowered_high n (omega arith)) (omega arith)

-- THE PRODUCT of a row's value and the factor's digits: exact as a float, and so in 64 bits
held : (p : ℤ) → nat_abs p ≤ 9007199254740992 → SFits w64 p
held (pos n) h = sfits_of (omega arith)
held (negsuc n) h = sfits_of (omega arith)

-- as the machine holds it, and read back
module _ (n : ℕ) (near : n ≤ 2000000) where
  lowered_is : to_z w64 n -ℤ pos 1000000 ≡ lowered n
  lowered_is = ap (λ (z : ℤ). z -ℤ pos 1000000) (to_z_pos w64 {n = n} (omega arith))

  pub lowered_held : SFits w64 (to_z w64 n -ℤ pos 1000000)
  lowered_held = let b = lowered_near n near in rw lowered_is (held (lowered n) (omega arith))

  module _ (d : ℕ) (small : d < 2 ^ 32) where
    product_exact : nat_abs (lowered n *ℤ pos d) ≤ 9007199254740992
    product_exact = rw (abs_product (lowered n) d) (le_trans (mul-le-mul (lowered_near n near) (le_of_lt small)) (lit≤ tt))

    product_is : to_z w64 (of_z w64 (to_z w64 n -ℤ pos 1000000)) *ℤ to_z w64 d ≡ lowered n *ℤ pos d
    product_is = ap₂ (λ (x y : ℤ). x *ℤ y) (to_z-of_z lowered_held ∙ lowered_is) (to_z_pos w64 {n = d} (omega arith))

    pub product_held : SFits w64 (to_z w64 (of_z w64 (to_z w64 n -ℤ pos 1000000)) *ℤ to_z w64 d)
    product_held = rw product_is (held (lowered n *ℤ pos d) product_exact)

    pub product_read : (to_z w64 (of_z w64 (to_z w64 (of_z w64 (to_z w64 n -ℤ pos 1000000)) *ℤ to_z w64 d)) ≡ lowered n *ℤ pos d) × (nat_abs (to_z w64 (of_z w64 (to_z w64 (of_z w64 (to_z w64 n -ℤ pos 1000000)) *ℤ to_z w64 d))) ≤ 9007199254740992)
    product_read = let p = to_z-of_z product_held ∙ product_is in (p, rw p product_exact)

-- THE COORDINATE
module _ (f : Factor) where
  pub scaled_far : (n : ℕ) → 2000000 < n → nought ≡ scaled f (lowered n)
  unfolding scaled
  scaled_far n h = sym (rw (lt-leb (nat_abs (lowered n)) 1000000 (lowered_far n h), scaled))

  scaled_by_lem : (v : ℤ) → nat_abs v ≤ 1000000 → quotient_of (v *ℤ pos f.digits) f.decimals ≡ scaled f v
  unfolding scaled
  scaled_by_lem v h = sym (rw (le-leb (nat_abs v) 1000000 h, scaled))

  pub scaled_of : (n : ℕ) (p : ℤ) (x : Float) → n ≤ 2000000 → (p ≡ lowered n *ℤ pos f.digits) × (nat_abs p ≤ 9007199254740992)
      → x ≡ quotient_of (to_z w64 (of_z w64 p)) f.decimals → x ≡ scaled f (lowered n)
  scaled_of n p x h e q = q ∙ ap (λ (z : ℤ). quotient_of z f.decimals) (to_z-of_z (held p e.1) ∙ e.0) ∙ scaled_by_lem (lowered n) (lowered_near n h)

  -- it is the definition's, wherever the row's value has six digits and the factor at most nine decimals
  pub scaled_is : (v : ℤ) → six_digits v ≡ true → f.decimals ≤ 9 → scaled f v ≡ coordinate f v
  unfolding coordinate
  scaled_is v h d = let b = leb-true (nat_abs v) 999999 h in sym (quotient_is (v *ℤ pos f.digits) f.decimals d ∙ scaled_by_lem v (omega arith))
