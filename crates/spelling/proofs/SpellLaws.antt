-- How an element and its mass are spelt: document 01, "The one written form" ("D and T for hydrogen 2 and 3"). Assumes nothing.
use Prim.Native.Nat.{ℕ, zero, suc}
use mathlib.Core.Path.{◌≡◌, refl, sym, ap, ap₂}
use mathlib.Core.Bool.{Bool, true, false, ◌&&◌, not}
use mathlib.Core.List.{[], ◌∷◌, ◌++◌}
use borrow.Author.Tests.{eq-eqb, ne_eqb, eqb-true}
use lib.Dec.{eqb}
use lib.ListN.{get_or}
use Rattle.format.specs.Structure.{isotope_of}
use Rattle.format.specs.Writing.{digits, symbol_of, spelt_by, spelt, print_mass, print_sym}
use Rattle.printing.specs.Printing.{Printed}
use Rattle.printing.specs.declared.Sheet.{Sheet}
use Rattle.spelling.specs.Spelling.{plain_sym, letters_of}
use Rattle.printing.proofs.PrintLaws.{printed_then, printed_as}

-- ONE LETTER OR TWO
pub letter_one : (a b : ℕ) → b ≡ 0 → a ∷ [] ≡ letters_of a b
letter_one a b e = sym (ap (letters_of a) e)

pub letter_two : (a b : ℕ) → (b ≡ 0 → ⊥) → (a ∷ []) ++ (b ∷ []) ≡ letters_of a b
letter_two a zero f = absurd (f refl)
letter_two a (suc b) f = refl

-- A MASS
pub mass_none : (m : ℕ) → m ≡ 0 → [] ≡ print_mass (not (eqb m 0)) m
mass_none m e = sym (ap (λ t. print_mass (not t) m) (eq-eqb m 0 e))

pub mass_some : (m : ℕ) → (m ≡ 0 → ⊥) → (94 ∷ []) ++ digits m ≡ print_mass (not (eqb m 0)) m
mass_some m f = sym (ap (λ t. print_mass (not t) m) (ne_eqb m 0 f))

-- A SYMBOL
module _ {s₀ s₁ s₂ : Sheet} where
  pub plain_printed : (e m f s : ℕ) → f ≡ get_or (symbol_of e) 0 0 → s ≡ get_or (symbol_of e) 1 0 → Printed s₀ (print_mass (not (eqb m 0)) m) s₁ → Printed s₁ (letters_of f s) s₂ → Printed s₀ (print_sym (plain_sym e m)) s₂
  unfolding print_sym
  plain_printed e m f s p q l k = printed_then l (printed_as (ap₂ letters_of p q) k)

-- HYDROGEN, and any other
pub deuterium : (e m : ℕ) → e ≡ 1 → m ≡ 2 → 68 ∷ [] ≡ print_sym (spelt (isotope_of e m))
unfolding print_sym spelt
deuterium e m p q = sym (ap₂ (λ j k. print_sym (spelt (isotope_of j k))) p q)

pub tritium : (e m : ℕ) → e ≡ 1 → m ≡ 3 → 84 ∷ [] ≡ print_sym (spelt (isotope_of e m))
unfolding print_sym spelt
tritium e m p q = sym (ap₂ (λ j k. print_sym (spelt (isotope_of j k))) p q)

pub plain : (e m : ℕ) → (e ≡ 1 → (m ≡ 2 → ⊥) × (m ≡ 3 → ⊥)) → print_sym (plain_sym e m) ≡ print_sym (spelt (isotope_of e m))
unfolding spelt
plain e m f = go (eqb e 1) refl
  where
    go : (t : Bool) → eqb e 1 ≡ t → print_sym (plain_sym e m) ≡ print_sym (spelt (isotope_of e m))
    go true q = sym (rw (q, ne_eqb m 2 (f (eqb-true e 1 q)).0, ne_eqb m 3 (f (eqb-true e 1 q)).1) refl)
    go false q = sym (ap (λ t. print_sym (spelt_by (t && eqb m 2) (t && eqb m 3) m (symbol_of e))) q)
