-- The place of a word among words: a word that fails a test which all of them pass is not there, and of the first few alone it has the place that it has among
-- all, if that is one of them. Serves the elements of document 01, "Rows". Assumes nothing.
use Prim.Native.Nat.{ℕ, zero, suc, ◌+◌, ◌≤◌, ◌<◌}
use mathlib.Core.Path.{◌≡◌, refl, sym, ap, ap₂, ◌∙◌}
use mathlib.Core.Bool.{Bool, true, false}
use mathlib.Core.List.{List, [], ◌∷◌}
use mathlib.Core.Logic.{◌⊎◌, inl, inr}
use native.Mathlib.Omega.{arith}
use lib.ListN.{take}
use borrow.Author.Tests.{le-leb, lt-leb}
use Rattle.lists.specs.Lists.{all}
use Rattle.lists.proofs.Bools.{torn}
use Rattle.lists.proofs.ListLaws.{all_parts}
use Rattle.lists.proofs.PairLaws.{bytes_equal}
use Rattle.format.specs.Bytes.{Bytes, same}
use Rattle.format.specs.Structure.{place_of}
use Rattle.format.proofs.SymbolLaws.{place_hit, place_miss}
use Rattle.elements.specs.Spelling.{up_to}

-- a word outside of a test that all of them pass
pub place_outside : (q : Bytes → Bool) (n : ℕ) (w : Bytes) (xs : List Bytes) → all q xs ≡ true → q w ≡ false → place_of n w xs ≡ 0
unfolding place_of all
place_outside q n w [] a f = refl
place_outside q n w (x ∷ xs) a f = go (same w x) refl (place_outside q (suc n) w xs (all_parts q x xs a).1 f)
  where
    go : (t : Bool) → same w x ≡ t → place_of (suc n) w xs ≡ 0 → place_of n w (x ∷ xs) ≡ 0
    go true e ih = torn (q x) (all_parts q x xs a).0 (sym (ap q (bytes_equal w x e)) ∙ f)
    go false e ih = place_miss n w x xs e ∙ ih

-- a place is 0, or at least the number that the first one has
pub place_low : (n : ℕ) (w : Bytes) (xs : List Bytes) → (place_of n w xs ≡ 0) ⊎ (n ≤ place_of n w xs)
unfolding place_of
place_low n w [] = inl refl
place_low n w (x ∷ xs) = go (same w x) refl (place_low (suc n) w xs)
  where
    go : (t : Bool) → same w x ≡ t → (place_of (suc n) w xs ≡ 0) ⊎ (suc n ≤ place_of (suc n) w xs) → (place_of n w (x ∷ xs) ≡ 0) ⊎ (n ≤ place_of n w (x ∷ xs))
    go true e ih = inr (rw (place_hit n w x xs e) (omega arith))
    go false e (inl z) = inl (place_miss n w x xs e ∙ z)
    go false e (inr h) = inr (rw (place_miss n w x xs e) (omega arith))

pub up_to_in : (last p : ℕ) → p ≤ last → up_to last p ≡ p
up_to_in last p h = rw (le-leb p last h, up_to)

pub up_to_out : (last p : ℕ) → last < p → up_to last p ≡ 0
up_to_out last p h = rw (lt-leb p last h, up_to)

-- the place among the first k, counted from n + 1
pub place_first : (n k : ℕ) (w : Bytes) (xs : List Bytes) → place_of (suc n) w (take k xs) ≡ up_to (n + k) (place_of (suc n) w xs)
unfolding place_of
place_first n zero w [] = sym (up_to_in (n + 0) 0 (omega arith))
place_first n (suc k) w [] = sym (up_to_in (n + suc k) 0 (omega arith))
place_first n zero w (x ∷ xs) = go (place_of (suc n) w (x ∷ xs)) (place_low (suc n) w (x ∷ xs))
  where
    go : (p : ℕ) → (p ≡ 0) ⊎ (suc n ≤ p) → 0 ≡ up_to (n + 0) p
    go p (inl z) = sym (up_to_in (n + 0) p (omega arith) ∙ z)
    go p (inr h) = sym (up_to_out (n + 0) p (omega arith))
place_first n (suc k) w (x ∷ xs) = go (same w x) refl (place_first (suc n) k w xs)
  where
    go : (t : Bool) → same w x ≡ t → place_of (suc (suc n)) w (take k xs) ≡ up_to (suc n + k) (place_of (suc (suc n)) w xs)
        → place_of (suc n) w (x ∷ take k xs) ≡ up_to (n + suc k) (place_of (suc n) w (x ∷ xs))
    go true e ih = place_hit (suc n) w x (take k xs) e ∙ sym (ap (up_to (n + suc k)) (place_hit (suc n) w x xs e) ∙ up_to_in (n + suc k) (suc n) (omega arith))
    go false e ih =
        let s : suc n + k ≡ n + suc k = omega arith in
        place_miss (suc n) w x (take k xs) e ∙ ih ∙ ap₂ up_to s (sym (place_miss (suc n) w x xs e))
