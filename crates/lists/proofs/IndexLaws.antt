-- Tests, order and maps told member by member, at an index: one that passes, none that passes, where a run ends, an earlier member before a later one, maps that
-- agree on the members; and a test that is computed once for all numbers below a bound. Over any element. Assumes nothing.
use Prim.Native.Nat.{ℕ, zero, suc, ◌+◌, ◌≤◌, ◌<◌}
use mathlib.Core.Path.{◌≡◌, refl, ap, ap₂, ◌∙◌}
use mathlib.Core.Bool.{Bool, true, false, ◌&&◌}
use mathlib.Core.List.{List, [], ◌∷◌, map}
use native.Mathlib.Omega.{arith}
use lib.Dec.{eqb}
use lib.ListN.{length, get_or, replicate}
use borrow.Author.Tests.{eqb-true, eqb-false}
use Rattle.lists.specs.Lists.{all, any, span, count_up}
use Rattle.lists.specs.Order.{ascends, Strict}
use Rattle.lists.proofs.Bools.{and_parts}
use Rattle.lists.proofs.ListLaws.{all_nil, all_both, all_at, any_nil, any_hit, any_later, any_neither, span_nil, in_cons, out_cons}
use Rattle.lists.proofs.SortLaws.{ascends_parts, ascends_first}

module _ {A : Type 0} (p : A → Bool) (d : A) where
  -- one that passes
  pub any_index : (xs : List A) (i : ℕ) → i < length xs → p (get_or xs i d) ≡ true → any p xs ≡ true
  any_index [] i h e = absurd (omega arith)
  any_index (x ∷ xs) zero h e = any_hit p x xs e
  any_index (x ∷ xs) (suc i) h e = any_later p x xs (any_index xs i (omega arith) e)

  -- none does
  pub any_nowhere : (xs : List A) → ((i : ℕ) → i < length xs → p (get_or xs i d) ≡ false) → any p xs ≡ false
  any_nowhere [] f = any_nil p
  any_nowhere (x ∷ xs) f = any_neither p x xs (f 0 (omega arith)) (any_nowhere xs (λ i h. f (suc i) (omega arith)))

  -- all do
  pub all_index : (xs : List A) → ((i : ℕ) → i < length xs → p (get_or xs i d) ≡ true) → all p xs ≡ true
  all_index [] f = all_nil p
  all_index (x ∷ xs) f = all_both p x xs (f 0 (omega arith)) (all_index xs (λ i h. f (suc i) (omega arith)))

  -- where a run ends
  pub span_index : (xs : List A) (n : ℕ) → n ≤ length xs → ((i : ℕ) → i < n → p (get_or xs i d) ≡ true) → (n < length xs → p (get_or xs n d) ≡ false) → span p xs ≡ n
  span_index [] n h f g = span_nil p ∙ omega arith
  span_index (x ∷ xs) zero h f g = out_cons p x xs (g (omega arith))
  span_index (x ∷ xs) (suc n) h f g = in_cons p x xs (f 0 (omega arith)) ∙ ap suc (span_index xs n (omega arith) (λ i k. f (suc i) (omega arith)) (λ k. g (omega arith)))

-- in order, an earlier member stands before a later one
pub ascends_at : {A : Type 0} (before : A → A → Bool) → Strict before → (d : A) (xs : List A) (i j : ℕ) → ascends before xs ≡ true → i < j → j < length xs → before (get_or xs i d) (get_or xs j d) ≡ true
ascends_at before S d [] i j a h k = absurd (omega arith)
ascends_at before S d (x ∷ xs) i zero a h k = absurd (omega arith)
ascends_at before S d (x ∷ xs) zero (suc j) a h k = all_at (before x) d xs j (ascends_first before S x xs a) (omega arith)
ascends_at before S d (x ∷ xs) (suc i) (suc j) a h k = ascends_at before S d xs i j (ascends_parts before x xs a).1 (omega arith) (omega arith)

-- a test that all pass
pub all_every : {A : Type 0} (xs : List A) → all (λ x. true) xs ≡ true
all_every [] = all_nil (λ x. true)
all_every (x ∷ xs) = all_both (λ y. true) x xs refl (all_every xs)

-- MAPS
module _ {A B : Type 0} where
  pub map_length : (f : A → B) (xs : List A) → length (map f xs) ≡ length xs
  map_length f [] = refl
  map_length f (x ∷ xs) = ap suc (map_length f xs)

  pub map_at : (f : A → B) (z : B) (d : A) (xs : List A) (i : ℕ) → i < length xs → get_or (map f xs) i z ≡ f (get_or xs i d)
  map_at f z d [] i h = absurd (omega arith)
  map_at f z d (x ∷ xs) zero h = refl
  map_at f z d (x ∷ xs) (suc i) h = map_at f z d xs i (omega arith)

  -- maps that agree on the members
  pub map_on : (f g : A → B) (d : A) (xs : List A) → ((i : ℕ) → i < length xs → f (get_or xs i d) ≡ g (get_or xs i d)) → map f xs ≡ map g xs
  map_on f g d [] h = refl
  map_on f g d (x ∷ xs) h = ap₂ (λ (y : B) (ys : List B). y ∷ ys) (h 0 (omega arith)) (map_on f g d xs (λ i k. h (suc i) (omega arith)))

-- whether a test passes at each number below n
unfoldable pub below : (ℕ → Bool) → ℕ → Bool
below f zero = true
below f (suc n) = f n && below f n

pub at_below : (f : ℕ → Bool) (n : ℕ) → below f n ≡ true → (k : ℕ) → k < n → f k ≡ true
unfolding below
at_below f zero h k l = absurd (omega arith)
at_below f (suc n) h k l = go (eqb k n) refl (and_parts (f n) (below f n) h).0 (at_below f n (and_parts (f n) (below f n) h).1 k)
  where
    go : (t : Bool) → eqb k n ≡ t → f n ≡ true → (k < n → f k ≡ true) → f k ≡ true
    go true e p ih = ap f (eqb-true k n e) ∙ p
    go false e p ih = ih (omega (arith, eqb-false k n e))

-- NOUGHTS
pub noughts_at : (n i : ℕ) → ◌≡◌ {A = ℕ} (get_or {A = ℕ} (replicate n 0) i 0) 0
noughts_at zero i = refl
noughts_at (suc n) zero = refl
noughts_at (suc n) (suc i) = noughts_at n i

-- NUMBERS IN TURN
pub count_long : (a n : ℕ) → length (count_up a n) ≡ n
unfolding count_up
count_long a zero = refl
count_long a (suc n) = ap suc (count_long (suc a) n)

pub count_at_lem : (a n i : ℕ) → i < n → get_or (count_up a n) i 0 ≡ a + i
unfolding count_up
count_at_lem a zero i h = absurd (omega arith)
count_at_lem a (suc n) zero h = omega arith
count_at_lem a (suc n) (suc i) h = count_at_lem (suc a) n i (omega arith) ∙ omega arith
