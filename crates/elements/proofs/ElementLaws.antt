-- The element of one letter or two: what the table of elements holds at their number, and 0 for bytes that are no such letters: document 01, "Rows", ATOMLIST.
-- Assumes nothing.
use Prim.Native.Nat.{ℕ, zero, suc, ◌+◌, ◌-◌, ◌*◌, ◌/◌, ◌%◌, ◌≤◌}
use mathlib.Core.Path.{◌≡◌, refl, sym, ap, ap₂, ◌∙◌}
use mathlib.Core.Bool.{Bool, true, false, ◌&&◌}
use mathlib.Core.List.{[], ◌∷◌}
use native.Mathlib.Omega.{arith}
use native.Mathlib.Nat.{zero-add}
use lib.ListN.{take}
use Rattle.lists.specs.Lists.{all}
use Rattle.lists.proofs.Bools.{and_right_false}
use Rattle.format.specs.Bytes.{Bytes, bytes, within, blank, gap, cons_to, fields}
use Rattle.format.specs.Rows.{sym_of, upper, lower}
use Rattle.format.specs.Structure.{symbols, place_of, letters}
use Rattle.format.proofs.ByteLaws.{upper_bounds, lower_bounds}
use Rattle.elements.specs.Spelling.{lower_at, spelling, up_to}
use Rattle.elements.proofs.PlaceLaws.{place_outside, place_first, up_to_in}

-- The symbols: an upper-case letter, or that and a lower-case one
abbrev pub symbolic : Bytes → Bool
symbolic [] = false
symbolic (a ∷ []) = upper a
symbolic (a ∷ b ∷ []) = upper a && lower b
symbolic (a ∷ b ∷ c ∷ w) = false

-- the letters of a symbol are those of its number
pub spelling_two : (a b : ℕ) → 65 ≤ a → a ≤ 90 → 97 ≤ b → b ≤ 122 → spelling ((a - 65) * 27 + (b - 96)) ≡ a ∷ b ∷ []
unfolding spelling
spelling_two a b l h m k =
    let q : 65 + ((a - 65) * 27 + (b - 96)) / 27 ≡ a = omega arith in
    let r : ((a - 65) * 27 + (b - 96)) % 27 ≡ suc (b - 97) = omega arith in
    let s : 97 + (b - 97) ≡ b = omega arith in
    ap₂ (λ (x y : ℕ). x ∷ lower_at y) q r ∙ ap (λ (y : ℕ). a ∷ y ∷ []) s

symbols_symbolic : all symbolic symbols ≡ true
unfolding all symbols bytes within blank gap cons_to fields
symbols_symbolic = refl

-- the place among the first few
among_first : (last p : ℕ) (w : Bytes) → p ≡ place_of 1 w symbols → up_to last p ≡ place_of 1 w (take last symbols)
among_first last p w e = ap₂ up_to (sym (zero-add last)) e ∙ sym (place_first 0 last w symbols)

pub unspelt : (last : ℕ) (w : Bytes) → symbolic w ≡ false → 0 ≡ place_of 1 w (take last symbols)
unspelt last w f = sym (up_to_in last 0 (omega arith)) ∙ among_first last 0 w (sym (place_outside symbolic 1 w symbols symbols_symbolic f))

-- THE FOUR CASES of `element_of`
module _ (a b last : ℕ) where
  no_first : upper a ≡ false → 0 ≡ place_of 1 (letters (sym_of false 0 a b)) (take last symbols)
  no_first f = unspelt last (letters (sym_of false 0 a b)) (go b)
    where
      go : (b : ℕ) → symbolic (letters (sym_of false 0 a b)) ≡ false
      go zero = f
      go (suc b) = rw f

  no_second : (b ≡ 0 → ⊥) → lower b ≡ false → 0 ≡ place_of 1 (letters (sym_of false 0 a b)) (take last symbols)
  no_second n f = unspelt last (letters (sym_of false 0 a b)) (go b n f)
    where
      go : (b : ℕ) → (b ≡ 0 → ⊥) → lower b ≡ false → symbolic (letters (sym_of false 0 a b)) ≡ false
      go zero n f = absurd (n refl)
      go (suc b) n f = and_right_false (upper a) (lower (suc b)) f

  pub unlettered : (b ≡ 0 → ⊥) → (65 ≤ a → a ≤ 90 → 97 ≤ b → b ≤ 122 → ⊥) → 0 ≡ place_of 1 (letters (sym_of false 0 a b)) (take last symbols)
  unlettered n o = go (upper a) (lower b) refl refl
    where
      go : (t u : Bool) → upper a ≡ t → lower b ≡ u → 0 ≡ place_of 1 (letters (sym_of false 0 a b)) (take last symbols)
      go false u f g = no_first f
      go true false f g = no_second n g
      go true true f g = absurd (o (upper_bounds a f).0 (upper_bounds a f).1 (lower_bounds b g).0 (lower_bounds b g).1)

  pub one_letter : (e r : ℕ) → r ≡ up_to last e → b ≡ 0 → e ≡ place_of 1 (a ∷ []) symbols → r ≡ place_of 1 (letters (sym_of false 0 a b)) (take last symbols)
  one_letter e r is z p = is ∙ among_first last e (a ∷ []) p ∙ sym (ap (λ (d : ℕ). place_of 1 (letters (sym_of false 0 a d)) (take last symbols)) z)

  module _ (l : 65 ≤ a) (h : a ≤ 90) (e r : ℕ) (is : r ≡ up_to last e) where
    pub two_letters : 97 ≤ b → b ≤ 122 → (n : ℕ) → n ≡ (a - 65) * 27 + (b - 96) → e ≡ place_of 1 (spelling n) symbols → r ≡ place_of 1 (letters (sym_of false 0 a b)) (take last symbols)
    two_letters m k n q p =
        is
        ∙ among_first last e (a ∷ b ∷ []) (p ∙ ap (λ (n : ℕ). place_of 1 (spelling n) symbols) q ∙ ap (λ (w : Bytes). place_of 1 w symbols) (spelling_two a b l h m k))
        ∙ ap (λ (w : Bytes). place_of 1 w (take last symbols)) (go b m)
      where
        go : (b : ℕ) → 97 ≤ b → a ∷ b ∷ [] ≡ letters (sym_of false 0 a b)
        go zero m = absurd (omega arith)
        go (suc b) m = refl
