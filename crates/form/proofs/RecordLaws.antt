-- Records with a value: document 01, "The one written form" ("`=` then a space and the value; no space where there is none", "empty optional ones left out"),
-- and document 02, L4 (STEREOMOLECULE). Assumes nothing.
use Prim.Native.Nat.{ℕ, zero, suc, ◌+◌, ◌-◌, ◌/◌, ◌%◌}
use mathlib.Core.Path.{◌≡◌, refl, sym, ap}
use mathlib.Core.Bool.{Bool, true, false}
use mathlib.Core.List.{[], ◌∷◌, ◌++◌}
use native.Mathlib.Omega.{arith}
use borrow.Author.Tests.{eq-eqb, ne_eqb}
use lib.Dec.{eqb, ltb}
use lib.ListN.{length, length-append}
use Rattle.format.specs.Bytes.{Bytes, bytes}
use Rattle.format.specs.Writing.{digits_in, digits, valued, print_record, print_id, print_yes}
use Rattle.printing.specs.Printing.{Printed}
use Rattle.printing.specs.declared.Sheet.{Sheet}
use Rattle.printing.proofs.PrintLaws.{printed_then, printed_as}

-- A VALUE
pub valued_none : (v : Bytes) → length v ≡ 0 → 10 ∷ [] ≡ valued v
unfolding valued
valued_none [] e = refl
valued_none (x ∷ v) e = absurd (omega arith)

pub valued_some : (v : Bytes) → (length v ≡ 0 → ⊥) → 32 ∷ (v ++ (10 ∷ [])) ≡ valued v
unfolding valued
valued_some [] f = absurd (f refl)
valued_some (x ∷ v) f = refl

module _ {s₀ s₁ s₂ : Sheet} where
  pub record_bare : (l v : Bytes) → length v ≡ 0 → Printed s₀ l s₁ → Printed s₁ (10 ∷ []) s₂ → Printed s₀ (l ++ valued v) s₂
  record_bare l v e p q = printed_then p (printed_as (valued_none v e) q)

module _ {s₀ s₁ s₂ s₃ s₄ : Sheet} where
  pub record_full : (l v : Bytes) → (length v ≡ 0 → ⊥) → Printed s₀ l s₁ → Printed s₁ (32 ∷ []) s₂ → Printed s₂ v s₃ → Printed s₃ (10 ∷ []) s₄ → Printed s₀ (l ++ valued v) s₄
  record_full l v f p q s u = printed_then p (printed_as (valued_some v f) (printed_then q (printed_then s u)))

-- THE BLOCK'S NUMBER
pub digits_some : (n : ℕ) → length (digits n) ≡ 0 → ⊥
unfolding digits digits_in
digits_some n e = go (ltb n 10) refl
  where
    go : (t : Bool) → ltb n 10 ≡ t → ⊥
    go true h = let z : length (digits n) ≡ 1 = rw (h, digits_in) in omega (arith, z, e)
    go false h =
        let z : length (digits n) ≡ length (digits_in 5 (n / 10) ++ ((48 + n % 10) ∷ [])) = rw (h, digits_in) in
        omega (arith, z, e, length-append (digits_in 5 (n / 10)) ((48 + n % 10) ∷ []))

pub id_none : (n : ℕ) → n ≡ 0 → [] ≡ print_id n
id_none n e = sym (ap print_id e)

id_is : (n : ℕ) → (n ≡ 0 → ⊥) → bytes "##BLOCK_ID=" ++ (32 ∷ (digits n ++ (10 ∷ []))) ≡ print_id n
unfolding print_record
id_is zero f = absurd (f refl)
id_is (suc n) f = ap (λ v. bytes "##BLOCK_ID=" ++ v) (valued_some (digits (suc n)) (digits_some (suc n)))

module _ {s₀ s₁ s₂ s₃ : Sheet} where
  pub id_laid : (n : ℕ) → (n ≡ 0 → ⊥) → Printed s₀ (bytes "##BLOCK_ID=") s₁ → Printed s₁ (32 ∷ digits n) s₂ → Printed s₂ (10 ∷ []) s₃ → Printed s₀ (print_id n) s₃
  id_laid n f p q s = printed_as (id_is n f) (printed_then p (printed_then q s))

-- HANDED AS A WHOLE
pub yes_some : (flag : ℕ) → flag ≡ 1 → print_record "##STEREOMOLECULE=" (bytes "YES") ≡ print_yes (eqb flag 1)
yes_some flag e = sym (ap print_yes (eq-eqb flag 1 e))

pub yes_none : (flag : ℕ) → (flag ≡ 1 → ⊥) → [] ≡ print_yes (eqb flag 1)
yes_none flag f = sym (ap print_yes (ne_eqb flag 1 f))
