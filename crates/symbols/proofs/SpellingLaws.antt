-- A symbol's letters by the length of the word, and its mass by the digits behind `^`. Serves document 01, "Rows" ("A symbol is an
-- upper-case letter and at most one lower-case letter, before it optionally `^` and 1 to 3 digits"). Assumes nothing.
use Prim.Native.Nat.{ℕ, ◌-◌, ◌≤◌, ◌<◌}
use mathlib.Core.Path.{◌≡◌, refl, sym, ap, ◌∙◌}
use mathlib.Core.Bool.{Bool, true, false, ◌&&◌, ◌||◌}
use Rattle.std.specs.declared.option.Option.{Option}
use Rattle.std.specs.declared.option.Option.TheVariants.{None, Some}
use mathlib.Core.List.{[], ◌∷◌}
use native.Mathlib.Omega.{arith}
use lib.ListN.{length, get_or, take, drop, length-drop}
use lib.Seq.{take_all}
use borrow.Author.Tests.{ne_eqb}
use Rattle.lists.specs.Lists.{span}
use Rattle.lists.proofs.Bools.{and_parts}
use Rattle.format.specs.Bytes.{Bytes}
use Rattle.format.specs.Rows.{◌and_then◌, digit, upper, lower, digits_of, sym_of, lettered, massed, symbol}
use Rattle.format.proofs.SymbolLaws.{lettered_one, lettered_two, symbol_plain, symbol_caret}
use Rattle.alphabet.specs.Runs.{RunEnd}
use Rattle.std.specs.Option.{option_map}
use Rattle.std.specs.Bool.{then_some}
use Rattle.symbols.specs.declared.Mark.{Mark}
use Rattle.symbols.specs.ShownSymbols.{sym_of_mark}

-- a test that is made only where the first failed, or where the first passed
pub either_first : (a b t : Bool) → a ≡ true → t ≡ a → t ≡ (a || b)
either_first true b t e f = f
either_first false b t e f = cc

pub either_second : (a b t : Bool) → a ≡ false → t ≡ b → t ≡ (a || b)
either_second true b t e f = cc
either_second false b t e f = f

pub both_first : (a b t : Bool) → a ≡ false → t ≡ a → t ≡ (a && b)
both_first true b t e f = cc
both_first false b t e f = f

pub both_second : (a b t : Bool) → a ≡ true → t ≡ b → t ≡ (a && b)
both_second true b t e f = f
both_second false b t e f = cc

-- LETTERS
module _ (c : Bool) (m : ℕ) where
  lettered_high : (a : ℕ) → upper a ≡ false → lettered c m (a ∷ []) ≡ None
  unfolding lettered
  lettered_high a e = rw (e, lettered)

  lettered_both : (a b : ℕ) → (upper a && lower b) ≡ false → lettered c m (a ∷ b ∷ []) ≡ None
  unfolding lettered
  lettered_both a b e = rw (e, lettered)

  pub letters_none : (w : Bytes) → length w < 1 → None ≡ lettered c m w
  unfolding lettered
  letters_none [] h = refl
  letters_none (a ∷ w) h = absurd (omega arith)

  pub letters_long : (w : Bytes) → 3 ≤ length w → None ≡ lettered c m w
  unfolding lettered
  letters_long [] h = absurd (omega arith)
  letters_long (a ∷ []) h = absurd (omega arith)
  letters_long (a ∷ b ∷ []) h = absurd (omega arith)
  letters_long (a ∷ b ∷ d ∷ w) h = refl

  module _ (r : Option Mark) (t : Bool) (x : Mark) (is : r ≡ then_some t x) where
    pub letters_one : (w : Bytes) → length w ≡ 1 → t ≡ upper (get_or w 0 0) → sym_of_mark x ≡ sym_of c m (get_or w 0 0) 0 → option_map sym_of_mark r ≡ lettered c m w
    letters_one [] h e s = absurd (omega arith)
    letters_one (a ∷ []) h e s = ap (option_map sym_of_mark) is ∙ go t e
      where
        go : (t : Bool) → t ≡ upper a → option_map sym_of_mark (then_some t x) ≡ lettered c m (a ∷ [])
        go true e = ap Some s ∙ sym (lettered_one c m a (sym e))
        go false e = sym (lettered_high a (sym e))
    letters_one (a ∷ b ∷ w) h e s = absurd (omega arith)

    pub letters_two : (w : Bytes) → length w ≡ 2 → t ≡ (upper (get_or w 0 0) && lower (get_or w 1 0)) → sym_of_mark x ≡ sym_of c m (get_or w 0 0) (get_or w 1 0) → option_map sym_of_mark r ≡ lettered c m w
    letters_two [] h e s = absurd (omega arith)
    letters_two (a ∷ []) h e s = absurd (omega arith)
    letters_two (a ∷ b ∷ []) h e s = ap (option_map sym_of_mark) is ∙ go t e
      where
        go : (t : Bool) → t ≡ (upper a && lower b) → option_map sym_of_mark (then_some t x) ≡ lettered c m (a ∷ b ∷ [])
        go true e = let p : (upper a ≡ true) × (lower b ≡ true) = and_parts (upper a) (lower b) (sym e) in ap Some s ∙ sym (lettered_two c m a b p.0 p.1)
        go false e = sym (lettered_both a b (sym e))
    letters_two (a ∷ b ∷ d ∷ w) h e s = absurd (omega arith)

-- MASSES
module _ (w : Bytes) (end : ℕ) (run : RunEnd digit w 0 end) where
  massed_is : massed w ≡ (digits_of 3 (take end w) and_then λ m. lettered true m (drop end w))
  unfolding massed
  massed_is =
      let q : span digit w ≡ end = omega (arith, run.is) in
      ap (λ (n : ℕ). digits_of 3 (take n w) and_then λ m. lettered true m (drop n w)) q

  pub massed_none : digits_of 3 (take end w) ≡ None → None ≡ massed w
  massed_none e = sym (rw (massed_is, e))

  pub massed_some : (m : ℕ) → digits_of 3 (take end w) ≡ Some m → lettered true m (take (length w - end) (drop end w)) ≡ massed w
  massed_some m e =
      let t : take (length w - end) (drop end w) ≡ drop end w = take_all (length w - end) (drop end w) (simp length-drop (omega arith)) in
      ap (lettered true m) t ∙ sym (rw (massed_is, e))

-- SYMBOLS
pub symbol_nil : (s : Bytes) → length s ≡ 0 → None ≡ symbol s
unfolding symbol
symbol_nil [] h = refl
symbol_nil (b ∷ s) h = cc

module _ (s : Bytes) (b : ℕ) (rest : Bytes) (is : s ≡ b ∷ rest) where
  pub symbol_massed : b ≡ 94 → massed rest ≡ symbol s
  symbol_massed e = sym (rw (is, e) (symbol_caret rest))

  pub symbol_lettered : (b ≡ 94 → ⊥) → lettered false 0 s ≡ symbol s
  symbol_lettered n = sym (rw is (symbol_plain b rest (ne_eqb b 94 n)))
