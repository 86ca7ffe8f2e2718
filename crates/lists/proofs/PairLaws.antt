-- Two members of a list (pairs) and two lists member by member (same_by), clause by clause, so that no later proof opens them: lists are the same by a sound test
-- if and only if they are equal. Serves the laws on clashes, repeats and names. Assumes nothing.
use Prim.Native.Nat.{ℕ, zero, suc, ◌+◌, ◌≤◌, ◌<◌}
use mathlib.Core.Path.{◌≡◌, refl, sym, ap, ◌∙◌}
use mathlib.Core.Bool.{Bool, true, false, ◌&&◌, ◌||◌}
use mathlib.Core.List.{List, [], ◌∷◌, ◌++◌, map}
use native.Mathlib.Numerals.{add-one}
use lib.ListN.{length, get_or, drop, drop_of_length-le}
use lib.Seq.{drop-cons}
use lib.Dec.{eqb}
use borrow.Author.Tests.{eqb-true}
use Rattle.lists.specs.Lists.{all, any, same_by, pairs}
use Rattle.lists.proofs.Bools.{torn, never, and_parts, or_parts, or_neither, or_shuffle, eqb_same, eqb_symm}
use Rattle.lists.proofs.ListLaws.{all_parts, any_nil, any_cons, any_parts, any_neither, any_append, any_same, any_or, any_imply}

module _ {A : Type 0} where
  -- TWO OF A LIST
  module _ (r : A → A → Bool) where
    pub pairs_nil : pairs r [] ≡ false
    unfolding pairs
    pairs_nil = refl

    pub pairs_cons : (x : A) (xs : List A) → pairs r (x ∷ xs) ≡ (any (r x) xs || pairs r xs)
    unfolding pairs
    pairs_cons x xs = refl

    pub pairs_one : (x : A) → pairs r (x ∷ []) ≡ false
    unfolding pairs any
    pairs_one x = refl

    pub pairs_parts : (x : A) (xs : List A) → pairs r (x ∷ xs) ≡ false → (any (r x) xs ≡ false) × (pairs r xs ≡ false)
    pairs_parts x xs h = or_parts (any (r x) xs) (pairs r xs) (sym (pairs_cons x xs) ∙ h)

    pub pairs_neither : (x : A) (xs : List A) → any (r x) xs ≡ false → pairs r xs ≡ false → pairs r (x ∷ xs) ≡ false
    pairs_neither x xs h k = pairs_cons x xs ∙ or_neither (any (r x) xs) (pairs r xs) h k

    -- one of the first list stands in the relation to one of the second
    abbrev pub cross : List A → List A → Bool
    cross xs ys = any (λ x. any (r x) ys) xs

    pub cross_nil : (xs : List A) → cross xs [] ≡ false
    cross_nil [] = any_nil (λ x. any (r x) [])
    cross_nil (x ∷ xs) = any_neither (λ y. any (r y) []) x xs (any_nil (r x)) (cross_nil xs)

    pub pairs_append : (xs ys : List A) → pairs r (xs ++ ys) ≡ (pairs r xs || (cross xs ys || pairs r ys))
    unfolding pairs any
    pairs_append [] ys = refl
    pairs_append (x ∷ xs) ys = rw (any_append (r x) xs ys, pairs_append xs ys) (six (any (r x) xs) (any (r x) ys) (pairs r xs) (cross xs ys) (pairs r ys))
      where
        six : (a b c d e : Bool) → ((a || b) || (c || (d || e))) ≡ ((a || c) || ((b || d) || e))
        six true b c d e = refl
        six false true true d e = refl
        six false true false d e = refl
        six false false c d e = refl

    pub pairs_drop : (n : ℕ) (xs : List A) → pairs r xs ≡ false → pairs r (drop n xs) ≡ false
    pairs_drop zero xs h = h
    pairs_drop (suc n) [] h = h
    pairs_drop (suc n) (x ∷ xs) h = pairs_drop n xs (pairs_parts x xs h).1

    module _ (symm : (x y : A) → r x y ≡ r y x) where
      pub cross_cons : (xs : List A) (y : A) (ys : List A) → cross xs (y ∷ ys) ≡ (any (r y) xs || cross xs ys)
      cross_cons xs y ys =
          any_same (λ x. any (r x) (y ∷ ys)) (λ x. r y x || any (r x) ys) (λ x. any_cons (r x) y ys ∙ ap (λ (t : Bool). t || any (r x) ys) (symm x y)) xs
          ∙ any_or (r y) (λ x. any (r x) ys) xs

      pub cross_symm : (xs ys : List A) → cross xs ys ≡ cross ys xs
      cross_symm xs [] = cross_nil xs ∙ sym (any_nil (λ x. any (r x) xs))
      cross_symm xs (y ∷ ys) = cross_cons xs y ys ∙ ap (λ (t : Bool). any (r y) xs || t) (cross_symm xs ys) ∙ sym (any_cons (λ x. any (r x) xs) y ys)

      -- a symmetric relation: one row more behind is one row more in front
      pub pairs_snoc : (xs : List A) (x : A) → pairs r (xs ++ (x ∷ [])) ≡ pairs r (x ∷ xs)
      pairs_snoc xs x =
          pairs_append xs (x ∷ []) ∙ rw (pairs_one x, cross_cons xs x [], cross_nil xs, pairs_cons x xs) (four (any (r x) xs) (pairs r xs))
        where
          four : (a b : Bool) → (b || ((a || false) || false)) ≡ (a || b)
          four true true = refl
          four true false = refl
          four false true = refl
          four false false = refl

  -- a relation that holds wherever another does, on members that pass a test
  pub pairs_imply : (r q : A → A → Bool) (p : A → Bool) → ((x y : A) → p x ≡ true → p y ≡ true → r x y ≡ false → q x y ≡ false)
      → (xs : List A) → all p xs ≡ true → pairs r xs ≡ false → pairs q xs ≡ false
  pairs_imply r q p f [] k h = pairs_nil q
  pairs_imply r q p f (x ∷ xs) k h = pairs_neither q x xs (each xs (all_parts p x xs k).1 (pairs_parts r x xs h).0) (pairs_imply r q p f xs (all_parts p x xs k).1 (pairs_parts r x xs h).1)
    where
      each : (ys : List A) → all p ys ≡ true → any (r x) ys ≡ false → any (q x) ys ≡ false
      each [] k' h' = any_nil (q x)
      each (y ∷ ys) k' h' =
          any_neither (q x) y ys (f x y (all_parts p x xs k).0 (all_parts p y ys k').0 (any_parts (r x) y ys h').0) (each ys (all_parts p y ys k').1 (any_parts (r x) y ys h').1)

  pub pairs_within : (r q : A → A → Bool) → ((x y : A) → r x y ≡ false → q x y ≡ false) → (xs : List A) → pairs r xs ≡ false → pairs q xs ≡ false
  pairs_within r q f [] h = pairs_nil q
  pairs_within r q f (x ∷ xs) h = pairs_neither q x xs (any_imply (r x) (q x) (f x) xs (pairs_parts r x xs h).0) (pairs_within r q f xs (pairs_parts r x xs h).1)

  pub pairs_same : (r q : A → A → Bool) → ((x y : A) → r x y ≡ q x y) → (xs : List A) → pairs r xs ≡ pairs q xs
  unfolding pairs
  pairs_same r q f [] = refl
  pairs_same r q f (x ∷ xs) = rw (any_same (r x) (q x) (f x) xs, pairs_same r q f xs)

  pub pairs_or : (r q : A → A → Bool) (xs : List A) → pairs (λ x y. r x y || q x y) xs ≡ (pairs r xs || pairs q xs)
  unfolding pairs
  pairs_or r q [] = refl
  pairs_or r q (x ∷ xs) = rw (any_or (r x) (q x) xs, pairs_or r q xs) (or_shuffle (any (r x) xs) (any (q x) xs) (pairs r xs) (pairs q xs))

  -- a relation that never holds
  pub pairs_never : (r : A → A → Bool) → ((x y : A) → r x y ≡ false) → (xs : List A) → pairs r xs ≡ false
  pairs_never r f [] = pairs_nil r
  pairs_never r f (x ∷ xs) = pairs_neither r x xs (None xs) (pairs_never r f xs)
    where
      None : (ys : List A) → any (r x) ys ≡ false
      None [] = any_nil (r x)
      None (y ∷ ys) = any_neither (r x) y ys (f x y) (None ys)

  -- TWO LISTS
  module _ (eq : A → A → Bool) where
    pub same_nil : same_by eq [] [] ≡ true
    unfolding same_by
    same_nil = refl

    pub same_short : (y : A) (ys : List A) → same_by eq [] (y ∷ ys) ≡ false
    unfolding same_by
    same_short y ys = refl

    pub same_long : (x : A) (xs : List A) → same_by eq (x ∷ xs) [] ≡ false
    unfolding same_by
    same_long x xs = refl

    pub same_cons : (x y : A) (xs ys : List A) → same_by eq (x ∷ xs) (y ∷ ys) ≡ (eq x y && same_by eq xs ys)
    unfolding same_by
    same_cons x y xs ys = refl

    pub same_in : (x y : A) (xs ys : List A) → eq x y ≡ true → same_by eq (x ∷ xs) (y ∷ ys) ≡ same_by eq xs ys
    same_in x y xs ys e = same_cons x y xs ys ∙ ap (λ (t : Bool). t && same_by eq xs ys) e

    pub same_out : (x y : A) (xs ys : List A) → eq x y ≡ false → same_by eq (x ∷ xs) (y ∷ ys) ≡ false
    same_out x y xs ys e = same_cons x y xs ys ∙ ap (λ (t : Bool). t && same_by eq xs ys) e

    pub same_parts : (x y : A) (xs ys : List A) → same_by eq (x ∷ xs) (y ∷ ys) ≡ true → (eq x y ≡ true) × (same_by eq xs ys ≡ true)
    same_parts x y xs ys h = and_parts (eq x y) (same_by eq xs ys) (sym (same_cons x y xs ys) ∙ h)

    pub same_length : (xs ys : List A) → same_by eq xs ys ≡ true → length xs ≡ length ys
    same_length [] [] h = refl
    same_length [] (y ∷ ys) h = torn (same_by eq [] (y ∷ ys)) h (same_short y ys)
    same_length (x ∷ xs) [] h = torn (same_by eq (x ∷ xs) []) h (same_long x xs)
    same_length (x ∷ xs) (y ∷ ys) h = ap suc (same_length xs ys (same_parts x y xs ys h).1)

    pub same_differ : (xs ys : List A) → (length xs ≡ length ys → ⊥) → same_by eq xs ys ≡ false
    same_differ xs ys h = never (same_by eq xs ys) (λ e. h (same_length xs ys e))

    pub same_by_refl : ((x : A) → eq x x ≡ true) → (xs : List A) → same_by eq xs xs ≡ true
    same_by_refl f [] = same_nil
    same_by_refl f (x ∷ xs) = same_in x x xs xs (f x) ∙ same_by_refl f xs

    pub same_by_symm : ((x y : A) → eq x y ≡ eq y x) → (xs ys : List A) → same_by eq xs ys ≡ same_by eq ys xs
    unfolding same_by
    same_by_symm f [] [] = refl
    same_by_symm f [] (y ∷ ys) = refl
    same_by_symm f (x ∷ xs) [] = refl
    same_by_symm f (x ∷ xs) (y ∷ ys) = rw (f x y, same_by_symm f xs ys)

    pub same_by_eq : ((x y : A) → eq x y ≡ true → x ≡ y) → (xs ys : List A) → same_by eq xs ys ≡ true → xs ≡ ys
    same_by_eq f [] [] h = refl
    same_by_eq f [] (y ∷ ys) h = torn (same_by eq [] (y ∷ ys)) h (same_short y ys)
    same_by_eq f (x ∷ xs) [] h = torn (same_by eq (x ∷ xs) []) h (same_long x xs)
    same_by_eq f (x ∷ xs) (y ∷ ys) h = rw (f x y (same_parts x y xs ys h).0, same_by_eq f xs ys (same_parts x y xs ys h).1)

    -- at an index, for loops
    module _ (d : A) (v w : List A) (i : ℕ) where
      pub same_step : i < length v → i < length w → eq (get_or v i d) (get_or w i d) ≡ true → same_by eq (drop i v) (drop i w) ≡ same_by eq (drop (i + 1) v) (drop (i + 1) w)
      same_step h k e = rw (drop-cons v i d h, drop-cons w i d k, same_in _ _ _ _ e, add-one)

      pub same_miss : i < length v → i < length w → eq (get_or v i d) (get_or w i d) ≡ false → same_by eq (drop i v) (drop i w) ≡ false
      same_miss h k e = rw (drop-cons v i d h, drop-cons w i d k) (same_out _ _ _ _ e)

      pub same_end : length v ≤ i → length w ≤ i → same_by eq (drop i v) (drop i w) ≡ true
      same_end h k = rw (drop_of_length-le v h, drop_of_length-le w k) same_nil

pub pairs_map : {A B : Type 0} (r : B → B → Bool) (f : A → B) (xs : List A) → pairs r (map f xs) ≡ pairs (λ x y. r (f x) (f y)) xs
unfolding pairs any
pairs_map r f [] = refl
pairs_map r f (x ∷ xs) = rw (each xs, pairs_map r f xs)
  where
    each : (ys : List _) → any (r (f x)) (map f ys) ≡ any (λ y. r (f x) (f y)) ys
    each [] = refl
    each (y ∷ ys) = ap (λ (t : Bool). r (f x) (f y) || t) (each ys)

-- LISTS OF NUMBERS: bytes are the same if and only if they are equal
module _ (v w : List ℕ) where
  pub bytes_equal : same_by eqb v w ≡ true → v ≡ w
  bytes_equal h = same_by_eq eqb eqb-true v w h

  pub bytes_differ : (v ≡ w → ⊥) → same_by eqb v w ≡ false
  bytes_differ h = never (same_by eqb v w) (λ e. h (bytes_equal e))

  pub bytes_symm : same_by eqb v w ≡ same_by eqb w v
  bytes_symm = same_by_symm eqb eqb_symm v w

  pub bytes_same : v ≡ w → same_by eqb v w ≡ true
  bytes_same e = ap (same_by eqb v) (sym e) ∙ same_by_refl eqb eqb_same v
