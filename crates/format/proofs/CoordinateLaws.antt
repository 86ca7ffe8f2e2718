-- A coordinate times its power of ten differs from the whole product by at most the product's size over 2^53: document 02, L2. The bound does not determine the
-- float, so promises speak of `coordinate` itself. Assumes nothing.
use Prim.Native.Nat.{ℕ, zero, suc, ◌*◌, ◌^◌, ◌≤◌, ◌<◌}
use mathlib.Core.Path.{◌≡◌, refl, sym, subst}
use native.Mathlib.Nat.{le_trans, mul-le-mul, one-le-pow, pow-le-pow_right}
use lib.Dec.{lit<, lit≤}
use lib.IntN.{ℤ, pos, negsuc, neg_ℤ, nat_abs, ◌*ℤ◌}
use Rattle.format.specs.Coordinates.{Factor, coordinate, Near, minus_of}
use Rattle.format.proofs.HalfLaws.{quotient_near}

pub abs_neg : (n : ℕ) → nat_abs (neg_ℤ (pos n)) ≡ n
abs_neg zero = refl
abs_neg (suc n) = refl

pub abs_product : (v : ℤ) (n : ℕ) → nat_abs (v *ℤ pos n) ≡ nat_abs v * n
abs_product (pos m) n = refl
abs_product (negsuc m) n = abs_neg (suc m * n)

module _ (f : Factor) (v : ℤ) (d : f.digits ≤ 999999999) (r : nat_abs v ≤ 999999) (z : f.decimals ≤ 9) where
  small : nat_abs (v *ℤ pos f.digits) ≤ 2 ^ 53
  small = subst (λ (n : ℕ). n ≤ 2 ^ 53) (sym (abs_product v f.digits)) (le_trans (mul-le-mul r d) (lit≤ tt))

  power : (0 < 10 ^ f.decimals) × (10 ^ f.decimals ≤ 2 ^ 53)
  power = (one-le-pow f.decimals 10 (lit< tt), le_trans (pow-le-pow_right {n = 10} (lit< tt) z) (lit≤ tt))

  pub coordinate_near : Near (minus_of (v *ℤ pos f.digits)) (nat_abs v * f.digits) (10 ^ f.decimals) (coordinate f v)
  unfolding coordinate
  coordinate_near = subst (λ (n : ℕ). Near (minus_of (v *ℤ pos f.digits)) n (10 ^ f.decimals) (coordinate f v)) (abs_product v f.digits) (quotient_near (v *ℤ pos f.digits) (10 ^ f.decimals) small power.0 power.1)
