-- Permutations, and insertion sort by a strict order: of a list in order it is that list, of two permutations of rows with distinct keys it is the same list,
-- it ascends, and one row more is inserted where it belongs. Over any element and any strict order. Assumes nothing.
use Prim.Native.Nat.{suc}
use mathlib.Core.Path.{◌≡◌, refl, sym, ap, ◌∙◌}
use mathlib.Core.Bool.{Bool, true, false, not, ◌&&◌, ◌||◌, or_comm}
use mathlib.Core.List.{List, [], ◌∷◌, ◌++◌, map}
use lib.ListN.{length, take, drop}
use Rattle.lists.specs.Lists.{all, any, pairs, span}
use Rattle.lists.specs.Order.{Perm, empty, keeping, swapped, chained, insert, sort, leads, ascends, level, Strict}
use Rattle.lists.proofs.Bools.{torn, and_parts, and_both, and_exchange, or_exchange, or_shuffle, or_left}
use Rattle.lists.proofs.ListLaws.{all_nil, all_both, all_parts, any_nil, any_parts, any_neither, span_nil, in_cons, out_cons}
use Rattle.lists.proofs.PairLaws.{pairs_nil, pairs_parts, pairs_neither}

-- PERMUTATIONS
module _ {A : Type 0} where
  pub perm_refl : (xs : List A) → Perm xs xs
  perm_refl [] = empty
  perm_refl (x ∷ xs) = keeping x (perm_refl xs)

  pub perm_sym : {xs ys : List A} → Perm xs ys → Perm ys xs
  perm_sym empty = empty
  perm_sym (keeping x h) = keeping x (perm_sym h)
  perm_sym (swapped x y xs) = swapped y x xs
  perm_sym (chained h k) = chained (perm_sym k) (perm_sym h)

  pub perm_length : {xs ys : List A} → Perm xs ys → length xs ≡ length ys
  perm_length empty = refl
  perm_length (keeping x h) = ap suc (perm_length h)
  perm_length (swapped x y xs) = refl
  perm_length (chained h k) = perm_length h ∙ perm_length k

  pub perm_snoc : (x : A) (xs : List A) → Perm (x ∷ xs) (xs ++ (x ∷ []))
  perm_snoc x [] = keeping x empty
  perm_snoc x (y ∷ xs) = chained (swapped x y xs) (keeping y (perm_snoc x xs))

  -- a row taken out of the middle to the front
  pub perm_middle : (x : A) (xs ys : List A) → Perm (x ∷ (xs ++ ys)) (xs ++ (x ∷ ys))
  perm_middle x [] ys = perm_refl (x ∷ ys)
  perm_middle x (y ∷ xs) ys = chained (swapped x y (xs ++ ys)) (keeping y (perm_middle x xs ys))

  pub perm_behind : (xs : List A) {ys zs : List A} → Perm ys zs → Perm (xs ++ ys) (xs ++ zs)
  perm_behind [] h = h
  perm_behind (x ∷ xs) h = keeping x (perm_behind xs h)

  pub any_perm : (p : A → Bool) {xs ys : List A} → Perm xs ys → any p xs ≡ any p ys
  unfolding any
  any_perm p empty = refl
  any_perm p (keeping x h) = ap (λ (t : Bool). p x || t) (any_perm p h)
  any_perm p (swapped x y xs) = or_exchange (p x) (p y) (any p xs)
  any_perm p (chained h k) = any_perm p h ∙ any_perm p k

  pub all_perm : (p : A → Bool) {xs ys : List A} → Perm xs ys → all p xs ≡ all p ys
  unfolding all
  all_perm p empty = refl
  all_perm p (keeping x h) = ap (λ (t : Bool). p x && t) (all_perm p h)
  all_perm p (swapped x y xs) = and_exchange (p x) (p y) (all p xs)
  all_perm p (chained h k) = all_perm p h ∙ all_perm p k

  -- whether two stand in a symmetric relation does not hang on their order
  pub pairs_perm : (r : A → A → Bool) → ((x y : A) → r x y ≡ r y x) → {xs ys : List A} → Perm xs ys → pairs r xs ≡ pairs r ys
  unfolding pairs any
  pairs_perm r s empty = refl
  pairs_perm r s (keeping x h) = rw (any_perm (r x) h, pairs_perm r s h)
  pairs_perm r s (swapped x y xs) = rw (s x y) (or_shuffle (r y x) (any (r x) xs) (any (r y) xs) (pairs r xs))
  pairs_perm r s (chained h k) = pairs_perm r s h ∙ pairs_perm r s k

pub map_perm : {A B : Type 0} (f : A → B) {xs ys : List A} → Perm xs ys → Perm (map f xs) (map f ys)
map_perm f empty = empty
map_perm f (keeping x h) = keeping (f x) (map_perm f h)
map_perm f (swapped x y xs) = swapped (f x) (f y) (map f xs)
map_perm f (chained h k) = chained (map_perm f h) (map_perm f k)

module _ {A : Type 0} (before : A → A → Bool) where
  -- INSERTION, clause by clause
  pub insert_nil : (x : A) → insert before x [] ≡ x ∷ []
  unfolding insert
  insert_nil x = refl

  pub insert_here : (x y : A) (ys : List A) → before x y ≡ true → insert before x (y ∷ ys) ≡ x ∷ y ∷ ys
  unfolding insert
  insert_here x y ys e = rw (e, insert)

  pub insert_past : (x y : A) (ys : List A) → before x y ≡ false → insert before x (y ∷ ys) ≡ y ∷ insert before x ys
  unfolding insert
  insert_past x y ys e = rw (e, insert)

  pub insert_leads : (x : A) (xs : List A) → leads before x xs ≡ true → insert before x xs ≡ x ∷ xs
  insert_leads x [] e = insert_nil x
  insert_leads x (y ∷ xs) e = insert_here x y xs e

  -- where a row is inserted: behind the run in front that it does not stand before
  pub insert_place : (x : A) (xs : List A) → insert before x xs ≡ take (span (λ y. not (before x y)) xs) xs ++ (x ∷ drop (span (λ y. not (before x y)) xs) xs)
  insert_place x [] = rw (insert_nil x, span_nil (λ y. not (before x y)))
  insert_place x (y ∷ ys) = go (before x y) refl (insert_place x ys)
    where
      past : A → Bool
      past z = not (before x z)

      go : (t : Bool) → before x y ≡ t → insert before x ys ≡ take (span past ys) ys ++ (x ∷ drop (span past ys) ys)
          → insert before x (y ∷ ys) ≡ take (span past (y ∷ ys)) (y ∷ ys) ++ (x ∷ drop (span past (y ∷ ys)) (y ∷ ys))
      go true e ih = rw (insert_here x y ys e, out_cons past y ys (ap not e))
      go false e ih = rw (insert_past x y ys e, in_cons past y ys (ap not e)) (ap (λ (r : List A). y ∷ r) ih)

  pub sort_nil : sort before [] ≡ []
  unfolding sort
  sort_nil = refl

  -- rows are kept latest first: one row more is inserted
  pub sort_step : (x : A) (xs : List A) → sort before (x ∷ xs) ≡ insert before x (sort before xs)
  unfolding sort
  sort_step x xs = refl

  pub ascends_nil : ascends before [] ≡ true
  unfolding ascends
  ascends_nil = refl

  pub ascends_cons : (x : A) (xs : List A) → ascends before (x ∷ xs) ≡ (leads before x xs && ascends before xs)
  unfolding ascends
  ascends_cons x xs = refl

  pub ascends_one : (x : A) → ascends before (x ∷ []) ≡ true
  unfolding ascends
  ascends_one x = refl

  pub ascends_parts : (x : A) (xs : List A) → ascends before (x ∷ xs) ≡ true → (leads before x xs ≡ true) × (ascends before xs ≡ true)
  ascends_parts x xs h = and_parts (leads before x xs) (ascends before xs) (sym (ascends_cons x xs) ∙ h)

  pub ascends_both : (x : A) (xs : List A) → leads before x xs ≡ true → ascends before xs ≡ true → ascends before (x ∷ xs) ≡ true
  ascends_both x xs h k = ascends_cons x xs ∙ and_both (leads before x xs) (ascends before xs) h k

  -- a list in order
  pub sort_alone : (xs : List A) → ascends before xs ≡ true → sort before xs ≡ xs
  sort_alone [] h = sort_nil
  sort_alone (x ∷ xs) h = sort_step x xs ∙ ap (insert before x) (sort_alone xs (ascends_parts x xs h).1) ∙ insert_leads x xs (ascends_parts x xs h).0

  -- what is sorted is a permutation
  pub insert_perm : (x : A) (ys : List A) → Perm (insert before x ys) (x ∷ ys)
  insert_perm x [] = rw (insert_nil x) (keeping x empty)
  insert_perm x (y ∷ ys) = go (before x y) refl (insert_perm x ys)
    where
      go : (t : Bool) → before x y ≡ t → Perm (insert before x ys) (x ∷ ys) → Perm (insert before x (y ∷ ys)) (x ∷ y ∷ ys)
      go true e h = rw (insert_here x y ys e) (perm_refl (x ∷ y ∷ ys))
      go false e h = rw (insert_past x y ys e) (chained (keeping y h) (swapped y x ys))

  pub sort_perm : (xs : List A) → Perm (sort before xs) xs
  sort_perm [] = rw sort_nil empty
  sort_perm (x ∷ xs) = rw (sort_step x xs) (chained (insert_perm x (sort before xs)) (keeping x (sort_perm xs)))

  pub insert_length : (x : A) (xs : List A) → length (insert before x xs) ≡ suc (length xs)
  insert_length x xs = perm_length (insert_perm x xs)

  pub sort_length : (xs : List A) → length (sort before xs) ≡ length xs
  sort_length xs = perm_length (sort_perm xs)

  pub sort_any : (p : A → Bool) (xs : List A) → any p (sort before xs) ≡ any p xs
  sort_any p xs = any_perm p (sort_perm xs)

  pub sort_all : (p : A → Bool) (xs : List A) → all p (sort before xs) ≡ all p xs
  sort_all p xs = all_perm p (sort_perm xs)

  pub sort_pairs : (r : A → A → Bool) → ((x y : A) → r x y ≡ r y x) → (xs : List A) → pairs r (sort before xs) ≡ pairs r xs
  sort_pairs r s xs = pairs_perm r s (sort_perm xs)

  pub level_symm : (x y : A) → level before x y ≡ level before y x
  level_symm x y = ap not (or_comm (before x y) (before y x))

  -- of two rows with distinct keys one stands before the other
  pub no_level : (x y : A) → level before x y ≡ false → before x y ≡ false → before y x ≡ true
  no_level x y h e = go (before y x) refl
    where
      go : (t : Bool) → before y x ≡ t → before y x ≡ true
      go true f = f
      go false f = let q : level before x y ≡ true = rw (e, f) in torn (level before x y) q h

  pub before_apart : (x y : A) → before x y ≡ true → level before x y ≡ false
  before_apart x y e = ap not (or_left (before x y) (before y x) e)

  module _ (S : Strict before) where
    insert_both : (x y : A) → before x y ≡ true → (l : List A) → insert before x (insert before y l) ≡ insert before y (insert before x l)
    unfolding insert
    insert_both x y h [] = rw (h, S.asym x y h, insert)
    insert_both x y h (z ∷ l) = go (before x z) (before y z) refl refl (insert_both x y h l)
      where
        go : (t u : Bool) → before x z ≡ t → before y z ≡ u → insert before x (insert before y l) ≡ insert before y (insert before x l)
            → insert before x (insert before y (z ∷ l)) ≡ insert before y (insert before x (z ∷ l))
        go true true e f ih =
            ap (insert before x) (insert_here y z l f) ∙ insert_here x y (z ∷ l) h
            ∙ sym (ap (insert before y) (insert_here x z l e) ∙ insert_past y x (z ∷ l) (S.asym x y h) ∙ ap (λ (r : List A). x ∷ r) (insert_here y z l f))
        go true false e f ih =
            ap (insert before x) (insert_past y z l f) ∙ insert_here x z (insert before y l) e
            ∙ sym (ap (insert before y) (insert_here x z l e) ∙ insert_past y x (z ∷ l) (S.asym x y h) ∙ ap (λ (r : List A). x ∷ r) (insert_past y z l f))
        go false true e f ih = torn (before x z) (S.trans x y z h f) e
        go false false e f ih =
            ap (insert before x) (insert_past y z l f) ∙ insert_past x z (insert before y l) e ∙ ap (λ (r : List A). z ∷ r) ih
            ∙ sym (ap (insert before y) (insert_past x z l e) ∙ insert_past y z (insert before x l) f)

    pub insert_swap : (x y : A) → level before x y ≡ false → (l : List A) → insert before x (insert before y l) ≡ insert before y (insert before x l)
    insert_swap x y h l = go (before x y) refl
      where
        go : (t : Bool) → before x y ≡ t → insert before x (insert before y l) ≡ insert before y (insert before x l)
        go true e = insert_both x y e l
        go false e = sym (insert_both y x (no_level x y h e) l)

    -- TWO PERMUTATIONS of rows with distinct keys
    pub sort_same : {xs ys : List A} → Perm xs ys → pairs (level before) xs ≡ false → sort before xs ≡ sort before ys
    unfolding sort
    sort_same empty d = refl
    sort_same (keeping {xs = xs} x h) d = ap (insert before x) (sort_same h (pairs_parts (level before) x xs d).1)
    sort_same (swapped x y xs) d = insert_swap x y (any_parts (level before x) y xs (pairs_parts (level before) x (y ∷ xs) d).0).0 (sort before xs)
    sort_same (chained h k) d = sort_same h d ∙ sort_same k (sym (pairs_perm (level before) level_symm h) ∙ d)

    -- one row more behind is put where it belongs
    pub sort_snoc : (xs : List A) (x : A) → pairs (level before) (x ∷ xs) ≡ false → sort before (xs ++ (x ∷ [])) ≡ insert before x (sort before xs)
    sort_snoc xs x d = sym (sort_same (perm_snoc x xs) d) ∙ sort_step x xs

    -- THE SORTED LIST ASCENDS
    leads_insert : (w x : A) (xs : List A) → before w x ≡ true → leads before w xs ≡ true → leads before w (insert before x xs) ≡ true
    unfolding insert
    leads_insert w x [] h k = h
    leads_insert w x (y ∷ xs) h k = go (before x y) refl
      where
        go : (t : Bool) → before x y ≡ t → leads before w (insert before x (y ∷ xs)) ≡ true
        go true e = rw (insert_here x y xs e) h
        go false e = rw (insert_past x y xs e) k

    pub insert_ascends : (x : A) (xs : List A) → any (level before x) xs ≡ false → ascends before xs ≡ true → ascends before (insert before x xs) ≡ true
    insert_ascends x [] d h = rw (insert_nil x) (ascends_one x)
    insert_ascends x (y ∷ xs) d h = go (before x y) refl (insert_ascends x xs)
      where
        go : (t : Bool) → before x y ≡ t → (any (level before x) xs ≡ false → ascends before xs ≡ true → ascends before (insert before x xs) ≡ true)
            → ascends before (insert before x (y ∷ xs)) ≡ true
        go true e ih = ap (ascends before) (insert_here x y xs e) ∙ ascends_both x (y ∷ xs) e h
        go false e ih =
            let p : (leads before y xs ≡ true) × (ascends before xs ≡ true) = ascends_parts y xs h in
            let q : (level before x y ≡ false) × (any (level before x) xs ≡ false) = any_parts (level before x) y xs d in
            ap (ascends before) (insert_past x y xs e)
            ∙ ascends_both y (insert before x xs) (leads_insert y x xs (no_level x y q.0 e) p.0) (ih q.1 p.1)

    pub sort_ascends : (xs : List A) → pairs (level before) xs ≡ false → ascends before (sort before xs) ≡ true
    sort_ascends [] d = ap (ascends before) sort_nil ∙ ascends_nil
    sort_ascends (x ∷ xs) d =
        let q : (any (level before x) xs ≡ false) × (pairs (level before) xs ≡ false) = pairs_parts (level before) x xs d in
        ap (ascends before) (sort_step x xs) ∙ insert_ascends x (sort before xs) (sort_any (level before x) xs ∙ q.0) (sort_ascends xs q.1)

    -- IN ORDER, each stands before all that follow: keys are distinct
    pub ascends_first : (x : A) (xs : List A) → ascends before (x ∷ xs) ≡ true → all (before x) xs ≡ true
    ascends_first x [] h = all_nil (before x)
    ascends_first x (y ∷ ys) h = all_both (before x) y ys (ascends_parts x (y ∷ ys) h).0 (ascends_first x ys (onward ys (ascends_parts x (y ∷ ys) h).0 (ascends_parts x (y ∷ ys) h).1))
      where
        onward : (zs : List A) → before x y ≡ true → ascends before (y ∷ zs) ≡ true → ascends before (x ∷ zs) ≡ true
        onward [] e k = ascends_one x
        onward (z ∷ zs) e k = ascends_both x (z ∷ zs) (S.trans x y z e (ascends_parts y (z ∷ zs) k).0) (ascends_parts y (z ∷ zs) k).1

    pub ascends_apart : (xs : List A) → ascends before xs ≡ true → pairs (level before) xs ≡ false
    ascends_apart [] h = pairs_nil (level before)
    ascends_apart (x ∷ xs) h = pairs_neither (level before) x xs (each xs (ascends_first x xs h)) (ascends_apart xs (ascends_parts x xs h).1)
      where
        each : (ys : List A) → all (before x) ys ≡ true → any (level before x) ys ≡ false
        each [] k = any_nil (level before x)
        each (y ∷ ys) k = any_neither (level before x) y ys (before_apart x y (all_parts (before x) y ys k).0) (each ys (all_parts (before x) y ys k).1)

    -- a list in order, permuted, is sorted back to that list
    pub sort_back : {xs ys : List A} → Perm xs ys → ascends before ys ≡ true → sort before xs ≡ ys
    sort_back {ys = ys} h a = sym (sort_same (perm_sym h) (ascends_apart ys a)) ∙ sort_alone ys a
