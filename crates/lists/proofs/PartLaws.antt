-- Lists made of parts: one after another (concat, flat), filled up (filled), mapped, and the slices of lists put together: a slice that lies in one part is the
-- slice of that part. Serves the laws on lines, tables and written forms. Assumes nothing.
use Prim.Native.Nat.{ℕ, zero, suc, ◌+◌, ◌-◌, ◌≤◌}
use mathlib.Core.Path.{◌≡◌, refl, sym, ap, ◌∙◌}
use mathlib.Core.Bool.{Bool, ◌&&◌, ◌||◌}
use mathlib.Core.List.{List, [], ◌∷◌, ◌++◌, map, append_assoc, append-nil, head-eq_of_cons-eq, tail-eq_of_cons-eq}
use native.Mathlib.Omega.{arith}
use lib.ListN.{length, get_or, take, drop, replicate, length-append, length-replicate, length-drop}
use lib.Seq.{take-append-add, drop-append-add, get_or-append-add, take-append-le, drop-append-le, take-append_seam}
use Rattle.lists.specs.Lists.{all, any, concat, filled, flat}
use Rattle.lists.proofs.ListLaws.{all_append, any_append}

module _ {A : Type 0} where
  -- CONCAT
  pub concat_nil : concat {A = A} [] ≡ []
  unfolding concat
  concat_nil = refl

  pub concat_cons : (l : List A) (ls : List (List A)) → concat (l ∷ ls) ≡ l ++ concat ls
  unfolding concat
  concat_cons l ls = refl

  pub concat_one : (l : List A) → concat (l ∷ []) ≡ l
  unfolding concat
  concat_one l = append-nil l

  pub concat_append : (ls ms : List (List A)) → concat (ls ++ ms) ≡ concat ls ++ concat ms
  unfolding concat
  concat_append [] ms = refl
  concat_append (l ∷ ls) ms = ap (λ (r : List A). l ++ r) (concat_append ls ms) ∙ sym (append_assoc l (concat ls) (concat ms))

  pub concat_snoc : (ls : List (List A)) (l : List A) → concat (ls ++ (l ∷ [])) ≡ concat ls ++ l
  concat_snoc ls l = concat_append ls (l ∷ []) ∙ ap (λ (r : List A). concat ls ++ r) (concat_one l)

  pub concat_length : (l : List A) (ls : List (List A)) → length (concat (l ∷ ls)) ≡ length l + length (concat ls)
  unfolding concat
  concat_length l ls = length-append l (concat ls)

  pub all_concat : (p : A → Bool) (ls : List (List A)) → all p (concat ls) ≡ all (all p) ls
  unfolding concat all
  all_concat p [] = refl
  all_concat p (l ∷ ls) = all_append p l (concat ls) ∙ ap (λ (t : Bool). all p l && t) (all_concat p ls)

  pub any_concat : (p : A → Bool) (ls : List (List A)) → any p (concat ls) ≡ any (any p) ls
  unfolding concat any
  any_concat p [] = refl
  any_concat p (l ∷ ls) = any_append p l (concat ls) ∙ ap (λ (t : Bool). any p l || t) (any_concat p ls)

  -- FILLED UP
  module _ (z : A) (n : ℕ) (l : List A) where
    pub filled_is : filled z n l ≡ l ++ replicate (n - length l) z
    unfolding filled
    filled_is = refl

    pub filled_length : length l ≤ n → length (filled z n l) ≡ n
    filled_length h = ap length filled_is ∙ omega (arith, length-append l (replicate (n - length l) z), length-replicate (n - length l) z)

    pub filled_take : take (length l) (filled z n l) ≡ l
    filled_take = ap (take (length l)) filled_is ∙ take-append_seam l (replicate (n - length l) z)

    pub filled_full : length l ≡ n → filled z n l ≡ l
    filled_full h =
        let q : n - length l ≡ 0 = omega arith in
        filled_is ∙ ap (λ (k : ℕ). l ++ replicate k z) q ∙ append-nil l

  pub filled_nil : (z : A) (n : ℕ) → filled z n [] ≡ replicate n z
  filled_nil z n = let q : n - 0 ≡ n = omega arith in filled_is z n [] ∙ ap (λ (k : ℕ). replicate k z) q

  -- SLICES of two lists put together: in the first, in the second
  pub take_past : (n : ℕ) (xs ys : List A) → length xs ≤ n → take n (xs ++ ys) ≡ xs ++ take (n - length xs) ys
  take_past n xs ys h =
      let q : n ≡ length xs + (n - length xs) = omega arith in
      ap (λ (k : ℕ). take k (xs ++ ys)) q ∙ take-append-add xs ys (n - length xs)

  pub drop_past : (n : ℕ) (xs ys : List A) → length xs ≤ n → drop n (xs ++ ys) ≡ drop (n - length xs) ys
  drop_past n xs ys h =
      let q : n ≡ length xs + (n - length xs) = omega arith in
      ap (λ (k : ℕ). drop k (xs ++ ys)) q ∙ drop-append-add xs ys (n - length xs)

  pub get_d_past : (d : A) (n : ℕ) (xs ys : List A) → length xs ≤ n → get_or (xs ++ ys) n d ≡ get_or ys (n - length xs) d
  get_d_past d n xs ys h =
      let q : n ≡ length xs + (n - length xs) = omega arith in
      ap (λ (k : ℕ). get_or (xs ++ ys) k d) q ∙ get_or-append-add xs ys (n - length xs) d

  pub slice_before : (n m : ℕ) (xs ys : List A) → m + n ≤ length xs → take n (drop m (xs ++ ys)) ≡ take n (drop m xs)
  slice_before n m xs ys h =
      ap (take n) (drop-append-le m xs ys (omega arith)) ∙ take-append-le n (drop m xs) ys (omega (arith, length-drop m xs))

  pub slice_behind : (n m : ℕ) (xs ys : List A) → take n (drop (length xs + m) (xs ++ ys)) ≡ take n (drop m ys)
  slice_behind n m xs ys = ap (take n) (drop-append-add xs ys m)

  -- two lists put together in one way only, where the fronts are as long
  pub append_parts : (a b c d : List A) → length a ≡ length b → a ++ c ≡ b ++ d → (a ≡ b) × (c ≡ d)
  append_parts [] [] c d h e = (refl, e)
  append_parts [] (y ∷ b) c d h e = absurd (omega arith)
  append_parts (x ∷ a) [] c d h e = absurd (omega arith)
  append_parts (x ∷ a) (y ∷ b) c d h e =
      let q : (a ≡ b) × (c ≡ d) = append_parts a b c d (omega arith) (tail-eq_of_cons-eq e) in
      (rw (head-eq_of_cons-eq e, q.0), q.1)

  pub append_front : (a c d : List A) → a ++ c ≡ a ++ d → c ≡ d
  append_front a c d e = (append_parts a a c d refl e).1

module _ {A B : Type 0} where
  -- MAP
  pub map_same : (f g : A → B) → ((x : A) → f x ≡ g x) → (xs : List A) → map f xs ≡ map g xs
  map_same f g h [] = refl
  map_same f g h (x ∷ xs) = rw (h x, map_same f g h xs)

  pub map_take : (f : A → B) (n : ℕ) (xs : List A) → map f (take n xs) ≡ take n (map f xs)
  map_take f zero xs = refl
  map_take f (suc n) [] = refl
  map_take f (suc n) (x ∷ xs) = ap (λ (r : List B). f x ∷ r) (map_take f n xs)

  pub map_drop : (f : A → B) (n : ℕ) (xs : List A) → map f (drop n xs) ≡ drop n (map f xs)
  map_drop f zero xs = refl
  map_drop f (suc n) [] = refl
  map_drop f (suc n) (x ∷ xs) = map_drop f n xs

  pub map_replicate : (f : A → B) (n : ℕ) (x : A) → map f (replicate n x) ≡ replicate n (f x)
  map_replicate f zero x = refl
  map_replicate f (suc n) x = ap (λ (r : List B). f x ∷ r) (map_replicate f n x)

  pub all_map : (p : B → Bool) (f : A → B) (xs : List A) → all p (map f xs) ≡ all (λ x. p (f x)) xs
  unfolding all
  all_map p f [] = refl
  all_map p f (x ∷ xs) = ap (λ (t : Bool). p (f x) && t) (all_map p f xs)

  pub any_map : (p : B → Bool) (f : A → B) (xs : List A) → any p (map f xs) ≡ any (λ x. p (f x)) xs
  unfolding any
  any_map p f [] = refl
  any_map p f (x ∷ xs) = ap (λ (t : Bool). p (f x) || t) (any_map p f xs)

  -- FLAT
  module _ (f : A → List B) where
    pub flat_nil : flat f [] ≡ []
    unfolding flat
    flat_nil = refl

    pub flat_cons : (x : A) (xs : List A) → flat f (x ∷ xs) ≡ f x ++ flat f xs
    unfolding flat
    flat_cons x xs = refl

    pub flat_behind : (x : A) (xs : List A) (z : List B) → flat f (x ∷ xs) ++ z ≡ f x ++ (flat f xs ++ z)
    unfolding flat
    flat_behind x xs z = append_assoc (f x) (flat f xs) z

    pub flat_one : (x : A) → flat f (x ∷ []) ≡ f x
    unfolding flat
    flat_one x = append-nil (f x)

    pub flat_append : (xs ys : List A) → flat f (xs ++ ys) ≡ flat f xs ++ flat f ys
    unfolding flat
    flat_append [] ys = refl
    flat_append (x ∷ xs) ys = ap (λ (r : List B). f x ++ r) (flat_append xs ys) ∙ sym (append_assoc (f x) (flat f xs) (flat f ys))

    pub flat_snoc : (xs : List A) (x : A) → flat f (xs ++ (x ∷ [])) ≡ flat f xs ++ f x
    flat_snoc xs x = flat_append xs (x ∷ []) ∙ ap (λ (r : List B). flat f xs ++ r) (flat_one x)

    pub flat_concat : (xs : List A) → flat f xs ≡ concat (map f xs)
    unfolding flat concat
    flat_concat [] = refl
    flat_concat (x ∷ xs) = ap (λ (r : List B). f x ++ r) (flat_concat xs)

    pub all_flat : (p : B → Bool) (xs : List A) → all p (flat f xs) ≡ all (λ x. all p (f x)) xs
    unfolding flat all
    all_flat p [] = refl
    all_flat p (x ∷ xs) = all_append p (f x) (flat f xs) ∙ ap (λ (t : Bool). all p (f x) && t) (all_flat p xs)

  pub flat_same : (f g : A → List B) → ((x : A) → f x ≡ g x) → (xs : List A) → flat f xs ≡ flat g xs
  unfolding flat
  flat_same f g h [] = refl
  flat_same f g h (x ∷ xs) = rw (h x, flat_same f g h xs)

pub flat_map : {A B C : Type 0} (f : B → List C) (g : A → B) (xs : List A) → flat f (map g xs) ≡ flat (λ x. f (g x)) xs
unfolding flat
flat_map f g [] = refl
flat_map f g (x ∷ xs) = ap (λ r. f (g x) ++ r) (flat_map f g xs)
