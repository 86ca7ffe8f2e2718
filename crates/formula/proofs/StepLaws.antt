-- What the code's order of tests adds to the clauses of the formula's machine (format/proofs/FormulaLaws), and numbers no longer than their digits: document 01,
-- "Rows", MOLFORM. Assumes nothing.
use Prim.Native.Nat.{ℕ, suc, ◌+◌, ◌-◌, ◌*◌, ◌^◌, ◌≤◌, ◌<◌}
use mathlib.Core.Path.{◌≡◌}
use mathlib.Core.Bool.{Bool, true, false}
use native.Mathlib.Omega.{arith}
use native.Mathlib.Nat.{pow-suc, pow-le-pow_right}
use lib.Dec.{eqb}
use borrow.Author.Tests.{eq-eqb, ne_eqb}
use Rattle.lists.proofs.Bools.{and_both, and_left_false, and_right_false}
use Rattle.format.specs.Bytes.{gap}
use Rattle.format.specs.Rows.{digit, upper}
use Rattle.format.specs.Formula.{dead, between, still, fstep}
use Rattle.format.proofs.ByteLaws.{digit_bounds}
use Rattle.format.proofs.FormulaLaws.{between_star, between_dead}

-- a byte that is no letter, no `^` and no gap, between entries
module _ (begun : Bool) (b : ℕ) (u : upper b ≡ false) (n : b ≡ 94 → ⊥) (g : gap b ≡ false) where
  pub between_other : (b ≡ 42 → ⊥) → fstep (between begun) b ≡ still dead
  between_other e = between_dead begun b u (ne_eqb b 94 n) g (and_left_false (eqb b 42) begun (ne_eqb b 42 e))

  pub between_next : b ≡ 42 → begun ≡ true → fstep (between begun) b ≡ still (between false)
  between_next e h = between_star begun b u (ne_eqb b 94 n) g (and_both (eqb b 42) begun (eq-eqb b 42 e) h)

  pub between_early : b ≡ 42 → begun ≡ false → fstep (between begun) b ≡ still dead
  between_early e h = between_dead begun b u (ne_eqb b 94 n) g (and_right_false (eqb b 42) begun h)

-- NUMBERS no longer than their digits
pub short : (n v : ℕ) → n < 6 → v < 10 ^ n → v < 100000
short n v h k =
    let p : 10 ^ n ≤ 100000 = pow-le-pow_right (omega arith) {j = 5} (omega arith) in
    omega arith

pub one_digit : (b : ℕ) → digit b ≡ true → b - 48 < 10 ^ 1
one_digit b d = omega (arith, digit_bounds b d)

pub digit_more : (n v b : ℕ) → digit b ≡ true → v < 10 ^ n → v * 10 + (b - 48) < 10 ^ suc n
digit_more n v b d h = rw pow-suc (omega (arith, digit_bounds b d))
