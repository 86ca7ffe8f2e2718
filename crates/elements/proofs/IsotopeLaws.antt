-- The isotope of a symbol by its letters: D, T and all others; a mass in its range: document 01, "Rows", ATOMLIST. Assumes nothing.
use Prim.Native.Nat.{ℕ, zero, suc, ◌≤◌, ◌<◌}
use mathlib.Core.Path.{◌≡◌, refl, sym, ap, ◌∙◌}
use native.Mathlib.Omega.{arith}
use Rattle.format.proofs.ByteLaws.{within_is, within_low, within_high}
use mathlib.Core.Bool.{Bool, true, false, ◌&&◌}
use mathlib.Core.List.{[], ◌∷◌}
use lib.ListN.{take}
use lib.Dec.{eqb}
use borrow.Author.Tests.{eq-eqb, ne_eqb}
use Rattle.lists.specs.Lists.{same_by}
use Rattle.lists.proofs.Bools.{and_right_false}
use Rattle.format.specs.Bytes.{bytes, within, same}
use Rattle.format.specs.Rows.{Sym, sym_of}
use Rattle.format.proofs.SymbolLaws.{isotope_deuterium, isotope_tritium, isotope_other}
use Rattle.format.specs.Structure.{symbols, place_of, letters, heavy, isotope_of, isotope, mass_ok}

-- the letters against one
same_lone : (a d : ℕ) → same (a ∷ []) (d ∷ []) ≡ eqb a d
unfolding same_by
same_lone a d = go (eqb a d)
  where
    go : (t : Bool) → (t && true) ≡ t
    go true = refl
    go false = refl

same_two : (a b d : ℕ) → same (a ∷ b ∷ []) (d ∷ []) ≡ false
unfolding same_by
same_two a b d = and_right_false (eqb a d) false refl

module _ (x : Sym) (d : ℕ) where
  pub letter_is : x.second ≡ 0 → same (letters x) (d ∷ []) ≡ eqb x.first d
  letter_is z = ap (λ (b : ℕ). same (letters (sym_of x.caret x.mass x.first b)) (d ∷ [])) z ∙ same_lone x.first d

  pub letters_not : (x.second ≡ 0 → x.first ≡ d → ⊥) → same (letters x) (d ∷ []) ≡ false
  letters_not n = go x.second n
    where
      go : (b : ℕ) → (b ≡ 0 → x.first ≡ d → ⊥) → same (letters (sym_of x.caret x.mass x.first b)) (d ∷ []) ≡ false
      go zero n = same_lone x.first d ∙ ne_eqb x.first d (n refl)
      go (suc b) n = same_two x.first (suc b) d

-- THE CASES of an isotope
module _ (k : ℕ) (x : Sym) where
  pub deuterium : x.second ≡ 0 → x.first ≡ 68 → isotope k x ≡ heavy x.caret 2
  unfolding bytes
  deuterium z e = isotope_deuterium k x (letter_is x 68 z ∙ eq-eqb _ _ e)

  pub tritium : x.second ≡ 0 → x.first ≡ 84 → isotope k x ≡ heavy x.caret 3
  unfolding bytes
  tritium z e = isotope_tritium k x (letters_not x 68 (λ z f. omega arith)) (letter_is x 84 z ∙ eq-eqb _ _ e)

  pub other : (x.second ≡ 0 → x.first ≡ 68 → ⊥) → (x.second ≡ 0 → x.first ≡ 84 → ⊥) → isotope k x ≡ isotope_of (place_of 1 (letters x) (take k symbols)) x.mass
  unfolding bytes
  other n m = isotope_other k x (letters_not x 68 n) (letters_not x 84 m)

-- THE CASES of a mass
module _ (x : Sym) where
  pub massless : x.caret ≡ false → mass_ok x ≡ true
  unfolding mass_ok
  massless e = rw (e, mass_ok)

  mass_is : x.caret ≡ true → mass_ok x ≡ within 1 300 x.mass
  unfolding mass_ok
  mass_is e = rw (e, mass_ok)

  pub mass_under : x.caret ≡ true → x.mass < 1 → false ≡ mass_ok x
  mass_under e h = sym (mass_is e ∙ within_low 1 300 x.mass h)

  pub mass_over : x.caret ≡ true → 300 < x.mass → false ≡ mass_ok x
  mass_over e h = sym (mass_is e ∙ within_high 1 300 x.mass h)

  pub mass_in : x.caret ≡ true → 1 ≤ x.mass → x.mass ≤ 300 → true ≡ mass_ok x
  mass_in e l h = sym (mass_is e ∙ within_is 1 300 x.mass l h)
