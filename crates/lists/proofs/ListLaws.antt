-- Tests on lists (all, any, span), clause by clause, so that no later proof opens one; then for lists put together and, for loops, at an index: a list passes a
-- test if each member does, and a run in front ends at the first that does not. Serves every law file. Assumes nothing.
use Prim.Native.Nat.{ℕ, zero, suc, ◌+◌, ◌≤◌, ◌<◌}
use mathlib.Core.Path.{◌≡◌, refl, sym, ap, ◌∙◌}
use mathlib.Core.Bool.{Bool, true, false, not, ◌&&◌, ◌||◌, and_assoc, and-true, or_assoc, or-false}
use mathlib.Core.List.{List, [], ◌∷◌, ◌++◌, append-nil}
use native.Mathlib.Nat.{add-zero}
use native.Mathlib.Numerals.{add-one}
use native.Mathlib.Omega.{arith}
use lib.ListN.{length, get_or, take, drop, replicate, length-drop, drop_of_length-le}
use lib.Seq.{drop-cons}
use Rattle.lists.specs.Lists.{is_nil, all, any, span}
use Rattle.lists.proofs.Bools.{torn, and_parts, and_both, and_shuffle, or_parts, or_right, or_shuffle, not_or}

module _ {A : Type 0} where
  -- EMPTY OR NOT
  pub nil_is : (xs : List A) → is_nil xs ≡ true → xs ≡ []
  nil_is [] e = refl
  nil_is (x ∷ xs) e = torn false e refl

  pub nil_length : (xs : List A) → is_nil xs ≡ true → length xs ≡ 0
  nil_length [] e = refl
  nil_length (x ∷ xs) e = torn false e refl

  pub some_length : (xs : List A) → is_nil xs ≡ false → 0 < length xs
  some_length [] e = torn true refl e
  some_length (x ∷ xs) e = omega arith

  pub length_nil : (xs : List A) → length xs ≡ 0 → xs ≡ []
  length_nil [] e = refl
  length_nil (x ∷ xs) e = absurd (omega arith)

  module _ (p : A → Bool) where
    -- ALL
    pub all_nil : all p [] ≡ true
    unfolding all
    all_nil = refl

    pub all_cons : (x : A) (xs : List A) → all p (x ∷ xs) ≡ (p x && all p xs)
    unfolding all
    all_cons x xs = refl

    pub all_one : (x : A) → all p (x ∷ []) ≡ p x
    unfolding all
    all_one x = and-true (p x)

    pub all_in : (x : A) (xs : List A) → p x ≡ true → all p (x ∷ xs) ≡ all p xs
    all_in x xs e = all_cons x xs ∙ ap (λ (t : Bool). t && all p xs) e

    pub all_out : (x : A) (xs : List A) → p x ≡ false → all p (x ∷ xs) ≡ false
    all_out x xs e = all_cons x xs ∙ ap (λ (t : Bool). t && all p xs) e

    pub all_parts : (x : A) (xs : List A) → all p (x ∷ xs) ≡ true → (p x ≡ true) × (all p xs ≡ true)
    all_parts x xs h = and_parts (p x) (all p xs) (sym (all_cons x xs) ∙ h)

    pub all_both : (x : A) (xs : List A) → p x ≡ true → all p xs ≡ true → all p (x ∷ xs) ≡ true
    all_both x xs e h = all_in x xs e ∙ h

    pub all_append : (xs ys : List A) → all p (xs ++ ys) ≡ (all p xs && all p ys)
    unfolding all
    all_append [] ys = refl
    all_append (x ∷ xs) ys = ap (λ (t : Bool). p x && t) (all_append xs ys) ∙ sym (and_assoc (p x) (all p xs) (all p ys))

    pub all_append_parts : (xs ys : List A) → all p (xs ++ ys) ≡ true → (all p xs ≡ true) × (all p ys ≡ true)
    all_append_parts xs ys h = and_parts (all p xs) (all p ys) (sym (all_append xs ys) ∙ h)

    pub all_append_both : (xs ys : List A) → all p xs ≡ true → all p ys ≡ true → all p (xs ++ ys) ≡ true
    all_append_both xs ys h k = all_append xs ys ∙ and_both (all p xs) (all p ys) h k

    pub all_drop : (n : ℕ) (xs : List A) → all p xs ≡ true → all p (drop n xs) ≡ true
    all_drop zero xs h = h
    all_drop (suc n) [] h = h
    all_drop (suc n) (x ∷ xs) h = all_drop n xs (all_parts x xs h).1

    pub all_take : (n : ℕ) (xs : List A) → all p xs ≡ true → all p (take n xs) ≡ true
    all_take zero xs h = all_nil
    all_take (suc n) [] h = h
    all_take (suc n) (x ∷ xs) h = all_both x (take n xs) (all_parts x xs h).0 (all_take n xs (all_parts x xs h).1)

    pub all_at : (d : A) (xs : List A) (i : ℕ) → all p xs ≡ true → i < length xs → p (get_or xs i d) ≡ true
    all_at d [] i h k = absurd (omega arith)
    all_at d (x ∷ xs) zero h k = (all_parts x xs h).0
    all_at d (x ∷ xs) (suc i) h k = all_at d xs i (all_parts x xs h).1 (omega arith)

    pub all_replicate : (n : ℕ) (x : A) → p x ≡ true → all p (replicate n x) ≡ true
    all_replicate zero x e = all_nil
    all_replicate (suc n) x e = all_both x (replicate n x) e (all_replicate n x e)

    -- ANY
    pub any_nil : any p [] ≡ false
    unfolding any
    any_nil = refl

    pub any_cons : (x : A) (xs : List A) → any p (x ∷ xs) ≡ (p x || any p xs)
    unfolding any
    any_cons x xs = refl

    pub any_one : (x : A) → any p (x ∷ []) ≡ p x
    unfolding any
    any_one x = or-false (p x)

    pub any_hit : (x : A) (xs : List A) → p x ≡ true → any p (x ∷ xs) ≡ true
    any_hit x xs e = any_cons x xs ∙ ap (λ (t : Bool). t || any p xs) e

    pub any_miss : (x : A) (xs : List A) → p x ≡ false → any p (x ∷ xs) ≡ any p xs
    any_miss x xs e = any_cons x xs ∙ ap (λ (t : Bool). t || any p xs) e

    pub any_later : (x : A) (xs : List A) → any p xs ≡ true → any p (x ∷ xs) ≡ true
    any_later x xs h = any_cons x xs ∙ or_right (p x) (any p xs) h

    pub any_parts : (x : A) (xs : List A) → any p (x ∷ xs) ≡ false → (p x ≡ false) × (any p xs ≡ false)
    any_parts x xs h = or_parts (p x) (any p xs) (sym (any_cons x xs) ∙ h)

    pub any_neither : (x : A) (xs : List A) → p x ≡ false → any p xs ≡ false → any p (x ∷ xs) ≡ false
    any_neither x xs e h = any_miss x xs e ∙ h

    pub any_append : (xs ys : List A) → any p (xs ++ ys) ≡ (any p xs || any p ys)
    unfolding any
    any_append [] ys = refl
    any_append (x ∷ xs) ys = ap (λ (t : Bool). p x || t) (any_append xs ys) ∙ sym (or_assoc (p x) (any p xs) (any p ys))

    pub any_append_parts : (xs ys : List A) → any p (xs ++ ys) ≡ false → (any p xs ≡ false) × (any p ys ≡ false)
    any_append_parts xs ys h = or_parts (any p xs) (any p ys) (sym (any_append xs ys) ∙ h)

    pub any_at : (d : A) (xs : List A) (i : ℕ) → any p xs ≡ false → i < length xs → p (get_or xs i d) ≡ false
    any_at d [] i h k = absurd (omega arith)
    any_at d (x ∷ xs) zero h k = (any_parts x xs h).0
    any_at d (x ∷ xs) (suc i) h k = any_at d xs i (any_parts x xs h).1 (omega arith)

    -- none passes if and only if all fail
    pub any_all : (xs : List A) → not (any p xs) ≡ all (λ x. not (p x)) xs
    unfolding all any
    any_all [] = refl
    any_all (x ∷ xs) = not_or (p x) (any p xs) ∙ ap (λ (t : Bool). not (p x) && t) (any_all xs)

    pub any_none : (xs : List A) → any p xs ≡ false → all (λ x. not (p x)) xs ≡ true
    any_none xs h = sym (any_all xs) ∙ ap not h

    -- SPAN
    pub span_nil : span p [] ≡ 0
    unfolding span
    span_nil = refl

    pub in_cons : (x : A) (xs : List A) → p x ≡ true → span p (x ∷ xs) ≡ suc (span p xs)
    unfolding span
    in_cons x xs e = rw (e, span)

    pub out_cons : (x : A) (xs : List A) → p x ≡ false → span p (x ∷ xs) ≡ 0
    unfolding span
    out_cons x xs e = rw (e, span)

    pub span_le : (s : List A) → span p s ≤ length s
    span_le [] = omega (arith, span_nil)
    span_le (x ∷ s) = go (p x) refl (span_le s)
      where
        go : (t : Bool) → p x ≡ t → span p s ≤ length s → span p (x ∷ s) ≤ length (x ∷ s)
        go true e h = omega (arith, in_cons x s e)
        go false e h = omega (arith, out_cons x s e)

    pub span_within : (s : List A) (at : ℕ) → at ≤ length s → at + span p (drop at s) ≤ length s
    span_within s at h = omega (arith, span_le (drop at s), length-drop at s)

    -- what stands in the run passes
    pub span_all : (s : List A) → all p (take (span p s) s) ≡ true
    span_all [] = ap (λ (n : ℕ). all p (take n [])) span_nil ∙ all_nil
    span_all (x ∷ s) = go (p x) refl (span_all s)
      where
        go : (t : Bool) → p x ≡ t → all p (take (span p s) s) ≡ true → all p (take (span p (x ∷ s)) (x ∷ s)) ≡ true
        go true e h = ap (λ (n : ℕ). all p (take n (x ∷ s))) (in_cons x s e) ∙ all_both x (take (span p s) s) e h
        go false e h = ap (λ (n : ℕ). all p (take n (x ∷ s))) (out_cons x s e) ∙ all_nil

    -- what stands behind it does not
    pub span_stops : (d : A) (s : List A) → span p s < length s → p (get_or s (span p s) d) ≡ false
    span_stops d [] h = absurd (omega arith)
    span_stops d (x ∷ s) h = go (p x) refl (span_stops d s)
      where
        go : (t : Bool) → p x ≡ t → (span p s < length s → p (get_or s (span p s) d) ≡ false) → p (get_or (x ∷ s) (span p (x ∷ s)) d) ≡ false
        go true e ih = ap (λ (n : ℕ). p (get_or (x ∷ s) n d)) (in_cons x s e) ∙ ih (omega (arith, in_cons x s e))
        go false e ih = ap (λ (n : ℕ). p (get_or (x ∷ s) n d)) (out_cons x s e) ∙ e

    pub span_through : (a b : List A) → all p a ≡ true → span p (a ++ b) ≡ length a + span p b
    span_through [] b h = omega arith
    span_through (x ∷ a) b h = omega (arith, in_cons x (a ++ b) (all_parts x a h).0, span_through a b (all_parts x a h).1)

    pub span_whole : (a : List A) → all p a ≡ true → span p a ≡ length a
    span_whole a h = ap (span p) (sym (append-nil a)) ∙ span_through a [] h ∙ omega (arith, span_nil)

    pub span_upto : (a : List A) (x : A) (b : List A) → all p a ≡ true → p x ≡ false → span p (a ++ (x ∷ b)) ≡ length a
    span_upto a x b h e = omega (arith, span_through a (x ∷ b) h, out_cons x b e)

  -- AT AN INDEX, for loops: how a test, or a run, from place i on follows from that from place i + 1 on
  module _ (p : A → Bool) (d : A) (s : List A) (i : ℕ) where
    pub span_in : i < length s → p (get_or s i d) ≡ true → i + span p (drop i s) ≡ i + 1 + span p (drop (i + 1) s)
    span_in h e = rw (drop-cons s i d h, in_cons p _ _ e, add-one) (omega arith)

    pub span_out : i < length s → p (get_or s i d) ≡ false → i + span p (drop i s) ≡ i
    span_out h e = rw (drop-cons s i d h, out_cons p _ _ e) (add-zero i)

    pub all_step : i < length s → p (get_or s i d) ≡ true → all p (drop i s) ≡ all p (drop (i + 1) s)
    all_step h e = rw (drop-cons s i d h, all_in p _ _ e, add-one)

    pub all_miss : i < length s → p (get_or s i d) ≡ false → all p (drop i s) ≡ false
    all_miss h e = rw (drop-cons s i d h) (all_out p _ _ e)

    pub any_step : i < length s → p (get_or s i d) ≡ false → any p (drop i s) ≡ any p (drop (i + 1) s)
    any_step h e = rw (drop-cons s i d h, any_miss p _ _ e, add-one)

    pub any_found : i < length s → p (get_or s i d) ≡ true → any p (drop i s) ≡ true
    any_found h e = rw (drop-cons s i d h) (any_hit p _ _ e)

  module _ (p : A → Bool) (s : List A) (i : ℕ) (h : length s ≤ i) where
    pub span_end : i + span p (drop i s) ≡ i
    span_end = ap (λ (l : List A). i + span p l) (drop_of_length-le s h) ∙ omega (arith, span_nil p)

    pub all_end : all p (drop i s) ≡ true
    all_end = ap (all p) (drop_of_length-le s h) ∙ all_nil p

    pub any_end : any p (drop i s) ≡ false
    any_end = ap (any p) (drop_of_length-le s h) ∙ any_nil p

  -- TWO TESTS
  module _ (p q : A → Bool) where
    pub all_imply : ((x : A) → p x ≡ true → q x ≡ true) → (xs : List A) → all p xs ≡ true → all q xs ≡ true
    all_imply f [] h = all_nil q
    all_imply f (x ∷ xs) h = all_both q x xs (f x (all_parts p x xs h).0) (all_imply f xs (all_parts p x xs h).1)

    pub any_imply : ((x : A) → p x ≡ false → q x ≡ false) → (xs : List A) → any p xs ≡ false → any q xs ≡ false
    any_imply f [] h = any_nil q
    any_imply f (x ∷ xs) h = any_neither q x xs (f x (any_parts p x xs h).0) (any_imply f xs (any_parts p x xs h).1)

    -- the same test, or the same on the members
    pub all_same : ((x : A) → p x ≡ q x) → (xs : List A) → all p xs ≡ all q xs
    unfolding all
    all_same f [] = refl
    all_same f (x ∷ xs) = rw (f x, all_same f xs)

    pub any_same : ((x : A) → p x ≡ q x) → (xs : List A) → any p xs ≡ any q xs
    unfolding any
    any_same f [] = refl
    any_same f (x ∷ xs) = rw (f x, any_same f xs)

    pub any_or : (xs : List A) → any (λ x. p x || q x) xs ≡ (any p xs || any q xs)
    unfolding any
    any_or [] = refl
    any_or (x ∷ xs) = ap (λ (t : Bool). (p x || q x) || t) (any_or xs) ∙ or_shuffle (p x) (q x) (any p xs) (any q xs)

    pub all_and : (xs : List A) → all (λ x. p x && q x) xs ≡ (all p xs && all q xs)
    unfolding all
    all_and [] = refl
    all_and (x ∷ xs) = ap (λ (t : Bool). (p x && q x) && t) (all_and xs) ∙ and_shuffle (p x) (q x) (all p xs) (all q xs)

    -- one that passes p, all of them pass q: that one passes both
    pub any_all_both : (xs : List A) → any p xs ≡ true → all q xs ≡ true → any (λ x. p x && q x) xs ≡ true
    any_all_both [] h k = torn (any p []) h (any_nil p)
    any_all_both (x ∷ xs) h k = go (p x) refl (any_all_both xs)
      where
        r : A → Bool
        r y = p y && q y

        go : (t : Bool) → p x ≡ t → (any p xs ≡ true → all q xs ≡ true → any r xs ≡ true) → any r (x ∷ xs) ≡ true
        go true e ih = any_hit r x xs (and_both (p x) (q x) e (all_parts q x xs k).0)
        go false e ih = any_later r x xs (ih (sym (any_miss p x xs e) ∙ h) (all_parts q x xs k).1)

-- lists as long as each other are empty or not alike
pub same_none : {A B : Type 0} (xs : List A) (ys : List B) → length xs ≡ length ys → is_nil xs ≡ is_nil ys
same_none [] [] e = refl
same_none [] (y ∷ ys) e = absurd (omega (arith, e))
same_none (x ∷ xs) [] e = absurd (omega (arith, e))
same_none (x ∷ xs) (y ∷ ys) e = refl
