-- A number of the table as the machine reads it: its sign, what it is without it, and whether it lies between two limits. Document 01, "The structure table".
-- Assumes nothing.
use Prim.Native.Nat.{ℕ, zero, suc, ◌≤◌, ◌<◌, ◌^◌}
use mathlib.Core.Path.{◌≡◌, refl, sym, ap, ◌∙◌}
use mathlib.Core.Bool.{true, false, not, ◌&&◌}
use mathlib.Core.List.{List, [], ◌∷◌}
use native.Mathlib.Nat.{not-suc-le-zero, le_of_suc-le-suc}
use borrow.Author.Rules.{sfits_of}
use borrow.Author.Tests.{ltb-true, ltb-false}
use lib.Dec.{T, leb}
use lib.ListN.{length, get_or}
use lib.IntN.{ℤ, pos, negsuc, nat_abs}
use lib.Signed.{lt_z, mag, non_neg}
use mir.Facts.{to_z-of_z}
use mir.Syntax.{w32}
use mir.Val.{to_z, of_z}
use Rattle.lists.proofs.Bools.{torn}
use Rattle.format.specs.Bytes.{within}
use Rattle.format.specs.Structure.{ranging}
use Rattle.format.proofs.ByteLaws.{within_low}
use Rattle.cells.specs.Signs.{negative}

ranging_pos : (l h n : ℕ) → ranging l h (pos n) ≡ within l h n
unfolding ranging
ranging_pos l h n = refl

ranging_neg : (l h n : ℕ) → ranging l h (negsuc n) ≡ false
unfolding ranging
ranging_neg l h n = refl

pub ranging_plain : (l h : ℕ) (z : ℤ) → z ≡ pos (nat_abs z) → ranging l h z ≡ within l h (nat_abs z)
ranging_plain l h z e = ap (ranging l h) e ∙ ranging_pos l h (nat_abs z)

-- beyond the end stands the default
pub beyond : {A : Type 0} (d : A) (l : List A) (i : ℕ) → length l ≤ i → get_or l i d ≡ d
beyond d [] i h = refl
beyond d (x ∷ l) zero h = absurd (not-suc-le-zero h)
beyond d (x ∷ l) (suc i) h = beyond d l i (le_of_suc-le-suc h)

-- THE MACHINE'S NUMBER, whose bits are those of z
abbrev pub machine : ℤ → ℤ
machine z = to_z w32 (of_z w32 z)

machine_is : (z : ℤ) → mag z < 2 ^ 31 → machine z ≡ z
machine_is z b = to_z-of_z {w = w32} (sfits_of b)

-- AGAINST A LIMIT: below it, or a number without a sign that is not
pub below_limit : (l h : ℕ) (z : ℤ) → mag z < 2 ^ 31 → lt_z (machine z) (pos l) ≡ true → ranging l h z ≡ false
below_limit l h z b e = by z (ap (λ y. lt_z y (pos l)) (sym (machine_is z b)) ∙ e)
  where
    by : (y : ℤ) → lt_z y (pos l) ≡ true → ranging l h y ≡ false
    by (pos n) f = ranging_pos l h n ∙ within_low l h n (ltb-true n l f)
    by (negsuc n) f = ranging_neg l h n

pub record Plain (l : ℕ) (z : ℤ) : Type 0 where
  pub is : z ≡ pos (nat_abs z)
  pub low : l ≤ nat_abs z
  pub small : nat_abs z < 2 ^ 31
  pub unsigned : T (non_neg (machine z))
  pub same : nat_abs (machine z) ≡ nat_abs z

pub not_below_limit : (l : ℕ) (z : ℤ) → mag z < 2 ^ 31 → lt_z (machine z) (pos l) ≡ false → Plain l z
not_below_limit l z b e = by z b (ap (λ y. lt_z y (pos l)) (sym (machine_is z b)) ∙ e)
  where
    by : (y : ℤ) → mag y < 2 ^ 31 → lt_z y (pos l) ≡ false → Plain l y
    by (pos n) c f = record { is = refl; low = ltb-false n l f; small = c; unsigned = rw (machine_is (pos n) c) tt; same = ap nat_abs (machine_is (pos n) c) }
    by (negsuc n) c f = torn true refl f

-- the test as it is made: of the sign first, then of the number without it
pub ranging_is : (low high : ℕ) (z : ℤ) → ranging low high z ≡ (not (negative z) && (leb low (nat_abs z) && leb (nat_abs z) high))
unfolding negative ranging within
ranging_is low high (pos n) = refl
ranging_is low high (negsuc n) = refl
