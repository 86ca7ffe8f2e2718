-- The letters of the elements by words, and the rule of it, which is computed once for all elements: the two bytes of an element are the letters of its symbol.
-- Serves the symbols of document 01, "Rows". Assumes nothing.
use Prim.Native.Nat.{ℕ, ◌-◌, ◌*◌, ◌/◌, ◌%◌, ◌^◌, ◌≤◌, ◌<◌}
use mathlib.Core.Path.{◌≡◌, refl, sym, ap, ◌∙◌}
use mathlib.Core.Bool.{Bool, true, false, ◌&&◌}
use mathlib.Core.List.{[]}
use native.Mathlib.Nat.{zero-div}
use native.Mathlib.Omega.{arith}
use lib.Dec.{eqb, ltb}
use lib.ListN.{length, get_or, get_or-eq_default}
use borrow.Author.Tests.{eqb-true, ltb-true, ltb-false}
use Rattle.lists.proofs.Bools.{and_parts}
use Rattle.lists.proofs.IndexLaws.{below, at_below}
use Rattle.format.specs.Structure.{symbols}
use Rattle.format.specs.Writing.{symbol_of}
use Rattle.format.proofs.Tables.{elements_numbered}
use Rattle.format.proofs.Computing.{computing}
use Rattle.spelling.specs.Words.{words, word_of}

-- THE WORDS
words_number : length words ≡ 26
unfolding words
words_number = refl

pub word_past : (row : ℕ) → 26 ≤ row → 0 ≡ word_of row
unfolding word_of
word_past row h = sym (get_or-eq_default words 0 {n = row} (rw words_number h))

-- BOTH LETTERS
abbrev low : (element : ℕ) → ℕ
low e = word_of (e / 4) / 2 ^ (16 * (e % 4))

abbrev Both : (element word : ℕ) → Type 0
Both e w = (w % 256 ≡ get_or (symbol_of e) 0 0) × (w / 256 % 256 ≡ get_or (symbol_of e) 1 0)

unfoldable right : ℕ → Bool
right e = eqb (low e % 256) (get_or (symbol_of e) 0 0) && eqb (low e / 256 % 256) (get_or (symbol_of e) 1 0)

all_right : below right 104 ≡ true
unfolding below right word_of words computing
all_right = refl

inside : (e : ℕ) → e < 104 → Both e (low e)
unfolding right
inside e h =
    let b = and_parts (eqb (low e % 256) (get_or (symbol_of e) 0 0)) (eqb (low e / 256 % 256) (get_or (symbol_of e) 1 0)) (at_below right 104 all_right e h) in
    (eqb-true _ _ b.0, eqb-true _ _ b.1)

outside : (e : ℕ) → 104 ≤ e → Both e (low e)
outside e h =
    let None : symbol_of e ≡ [] = get_or-eq_default symbols [] {n = e - 1} (rw elements_numbered.0 (omega arith)) in
    let bare : low e ≡ 0 = ap (λ (w : ℕ). w / 2 ^ (16 * (e % 4))) (sym (word_past (e / 4) (omega arith))) ∙ zero-div (2 ^ (16 * (e % 4))) in
    (ap (λ (w : ℕ). w % 256) bare ∙ sym (ap (λ l. get_or l 0 0) None), ap (λ (w : ℕ). w / 256 % 256) bare ∙ sym (ap (λ l. get_or l 1 0) None))

pub letters_in : (e w : ℕ) → w ≡ word_of (e / 4) → Both e (w / 2 ^ (16 * (e % 4)))
letters_in e w q = rw q (go (ltb e 104) refl)
  where
    go : (t : Bool) → ltb e 104 ≡ t → Both e (low e)
    go true h = inside e (ltb-true e 104 h)
    go false h = outside e (ltb-false e 104 h)
