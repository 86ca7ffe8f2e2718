-- The digits of a number as they are printed: document 01, "The one written form" ("no leading zeros", "zero hydrogens .. left out"). Assumes nothing.
use Prim.Native.Nat.{ℕ, zero, suc, ◌+◌, ◌-◌, ◌/◌, ◌%◌, ◌≤◌, ◌<◌}
use mathlib.Core.Path.{◌≡◌, refl, sym, ap, ◌∙◌}
use mathlib.Core.List.{[], ◌∷◌, ◌++◌, append-nil}
use native.Mathlib.Omega.{arith}
use borrow.Author.Tests.{lt-ltb, le-ltb}
use Rattle.format.specs.Bytes.{Bytes}
use Rattle.format.specs.Writing.{digits_in, digits, unless_zero}
use Rattle.printing.specs.Printing.{spaced}
use Rattle.printing.proofs.PrintLaws.{spaced_none, spaced_more}

pub digits_none : (k n : ℕ) → k ≡ 0 → [] ≡ digits_in k n
unfolding digits_in
digits_none k n e = sym (ap (λ j. digits_in j n) e)

digits_less : (k n : ℕ) → (k ≡ 0 → ⊥) → n < 10 → (48 + n) ∷ [] ≡ digits_in k n
unfolding digits_in
digits_less zero n f h = absurd (f refl)
digits_less (suc k) n f h = sym (rw (lt-ltb n 10 h, digits_in))

pub digits_one : (k n : ℕ) → (k ≡ 0 → ⊥) → n < 10 → (48 + n % 10) ∷ [] ≡ digits_in k n
digits_one k n f h = let q : n % 10 ≡ n = omega arith in ap (λ d. (48 + d) ∷ []) q ∙ digits_less k n f h

pub digits_more : (k n : ℕ) → (k ≡ 0 → ⊥) → 10 ≤ n → digits_in (k - 1) (n / 10) ++ ((48 + n % 10) ∷ []) ≡ digits_in k n
unfolding digits_in
digits_more zero n f h = absurd (f refl)
digits_more (suc k) n f h =
    let q : suc k - 1 ≡ k = omega arith in
    ap (λ j. digits_in j (n / 10) ++ ((48 + n % 10) ∷ [])) q ∙ sym (rw (le-ltb n 10 h, digits_in))

pub digits_all : (n : ℕ) → digits_in 6 n ≡ digits n
unfolding digits
digits_all n = refl

-- a number of one digit, of two and of three
digits_two : (k n : ℕ) → 10 ≤ n → n < 100 → (48 + n / 10) ∷ (48 + n % 10) ∷ [] ≡ digits_in (suc (suc k)) n
unfolding digits_in
digits_two k n l h = ap (λ w. w ++ ((48 + n % 10) ∷ [])) (digits_less (suc k) (n / 10) (λ e. absurd (omega arith)) (omega arith)) ∙ sym (rw (le-ltb n 10 l, digits_in))

pub digits_single : (n : ℕ) → n < 10 → (48 + n) ∷ [] ≡ digits n
unfolding digits
digits_single n h = digits_less 6 n (λ e. absurd (omega arith)) h

pub digits_double : (n : ℕ) → 10 ≤ n → n < 100 → (48 + n / 10) ∷ (48 + n % 10) ∷ [] ≡ digits n
unfolding digits
digits_double n l h = digits_two 4 n l h

pub digits_triple : (n : ℕ) → 100 ≤ n → n < 1000 → (48 + n / 100) ∷ (48 + n / 10 % 10) ∷ (48 + n % 10) ∷ [] ≡ digits n
unfolding digits
digits_triple n l h =
    let q : n / 100 ≡ n / 10 / 10 = omega arith in
    ap (λ w. w ++ ((48 + n % 10) ∷ [])) (ap (λ k. (48 + k) ∷ (48 + n / 10 % 10) ∷ []) q ∙ digits_two 3 (n / 10) (omega arith) (omega arith))
    ∙ digits_more 6 n (λ e. absurd (omega arith)) (omega arith)

-- such a number with the space before it
pub behind_single : (n : ℕ) → n < 10 → 32 ∷ (48 + n) ∷ [] ≡ 32 ∷ digits n
behind_single n h = ap (λ w. 32 ∷ w) (digits_single n h)

pub behind_double : (n : ℕ) → 10 ≤ n → n < 100 → 32 ∷ (48 + n / 10) ∷ (48 + n % 10) ∷ [] ≡ 32 ∷ digits n
behind_double n l h = ap (λ w. 32 ∷ w) (digits_double n l h)

pub behind_triple : (n : ℕ) → 100 ≤ n → n < 1000 → 32 ∷ (48 + n / 100) ∷ (48 + n / 10 % 10) ∷ (48 + n % 10) ∷ [] ≡ 32 ∷ digits n
behind_triple n l h = ap (λ w. 32 ∷ w) (digits_triple n l h)

-- a number that is left out where it is zero
pub zero_left_out : (n : ℕ) (w : Bytes) → n ≡ 0 → [] ≡ spaced (unless_zero n w)
zero_left_out n w e = sym (ap (λ k. spaced (unless_zero k w)) e ∙ spaced_none)

pub unless_zero_lem : (n : ℕ) (w : Bytes) → (n ≡ 0 → ⊥) → 32 ∷ w ≡ spaced (unless_zero n w)
unless_zero_lem zero w f = absurd (f refl)
unless_zero_lem (suc n) w f = sym (spaced_more w [] ∙ ap (λ v. 32 ∷ (w ++ v)) spaced_none ∙ ap (λ v. 32 ∷ v) (append-nil w))
