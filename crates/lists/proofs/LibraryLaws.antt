-- The library's words for tests on lists are those of this project. Assumes nothing.
use Prim.Native.Nat.{ℕ, suc, ◌-◌, ◌≤◌}
use mathlib.Core.Path.{◌≡◌, refl, sym, ap, ◌∙◌}
use mathlib.Core.Bool.{Bool, true, false, ◌&&◌, ◌||◌, not, cond}
use mathlib.Core.List.{List, [], ◌∷◌, ◌++◌}
use native.Mathlib.Omega.{arith}
use lib.ListN.{length, drop, length-drop}
use lib.Seq.{take_all}
use lib.Dec.{ltb}
use borrow.Author.Tests.{ltb-false}
use Rattle.std.specs.Prelude.{Option, Some, None, unwrap_or, slice_range}
use Rattle.std.specs.declared.slice.Windows.{Windows}
use Rattle.std.specs.Iterator.{AlwaysYields}
use Rattle.std.specs.Slice.Iter.{windows_steps, windows_rest, windows_size}
use Rattle.std.proofs.lemmas.Iterator.{YieldsList}
use Rattle.std.specs.List.{list_all, list_any, prefix_len, position_or_len}
use Rattle.lists.specs.Lists.{all, any, span}
use Rattle.lists.proofs.ListLaws.{all_append, all_one, span_le}

module _ {A : Type 0} (p : A → Bool) where
  pub all_is : (xs : List A) → list_all p xs ≡ all p xs
  unfolding all
  all_is [] = refl
  all_is (x ∷ xs) = ap (λ b. p x && b) (all_is xs)

  pub any_is : (xs : List A) → list_any p xs ≡ any p xs
  unfolding any
  any_is [] = refl
  any_is (x ∷ xs) = ap (λ b. p x || b) (any_is xs)

  span_by : (t : Bool) (x : A) (xs : List A) → p x ≡ t → prefix_len p xs ≡ span p xs → prefix_len p (x ∷ xs) ≡ span p (x ∷ xs)
  unfolding span
  span_by true x xs e h = rw (e, h, span) (omega arith)
  span_by false x xs e h = rw (e, span)

  pub span_is : (xs : List A) → prefix_len p xs ≡ span p xs
  unfolding span
  span_is [] = refl
  span_is (x ∷ xs) = span_by (p x) x xs refl (span_is xs)

  -- one more that is tested, in a test of all that looks at each
  pub all_more : (xs : List A) (fine : Bool) (x : A) (next : Bool) → fine ≡ all p xs → next ≡ (fine && p x) → next ≡ all p (xs ++ (x ∷ []))
  all_more xs fine x next h k = k ∙ sym (all_append p xs (x ∷ []) ∙ ap (λ b. b && all p (x ∷ [])) (sym h) ∙ ap (λ b. fine && b) (all_one p x))

-- the place of the first that passes, or where none does the length
pub place_or : {A : Type 0} (p : A → Bool) (xs : List A) → unwrap_or (cond (ltb (position_or_len p xs) (length xs)) (Some (position_or_len p xs)) None) (length xs) ≡ position_or_len p xs
place_or p xs = by (position_or_len p xs) (ltb (position_or_len p xs) (length xs)) refl (omega (arith, span_le (λ x. not (p x)) xs, span_is (λ x. not (p x)) xs))
  where
    by : (n : ℕ) (t : Bool) → ltb n (length xs) ≡ t → n ≤ length xs → unwrap_or (cond t (Some n) None) (length xs) ≡ n
    by n true e h = refl
    by n false e h = omega (arith, ltb-false _ _ e)

-- what stands from a place on
pub rest_is : {A : Type 0} (i : ℕ) (xs : List A) → slice_range xs i (length xs) ≡ drop i xs
rest_is i xs = take_all (length xs - i) (drop i xs) (simp length-drop (omega arith))

-- each two that stand side by side, as a slice's windows of two give them
abbrev pub twos : {A : Type 0} → List A → List (List A)
twos [] = []
twos (x ∷ []) = []
twos (x ∷ y ∷ xs) = (x ∷ y ∷ []) ∷ twos (y ∷ xs)

pub twos_given : {A : Type 0} (xs : List A) (s : Windows A) → windows_size s ≡ 2 → windows_rest s ≡ xs → YieldsList windows_steps (λ y. y.now) s (twos xs)
twos_given {A = A} xs s e f = record { runs = go xs s e f }
  where
    go : (xs : List A) (s : Windows A) → windows_size s ≡ 2 → windows_rest s ≡ xs → AlwaysYields windows_steps (λ y. y.now) s (twos xs)
    go [] s e f = λ x j p. absurd (omega (arith, p.1.0, e, ap length f))
    go (x ∷ []) s e f = λ w j p. absurd (omega (arith, p.1.0, e, ap length f))
    go (x ∷ y ∷ xs) s e f = (
      (λ j p. absurd (omega (arith, p.1.0, e, ap length f))),
      λ w j p. (p.1.1 ∙ rw (e, f), go (y ∷ xs) j (p.0 ∙ e) (p.1.2 ∙ ap (drop 1) f)),
    )
