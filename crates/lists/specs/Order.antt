-- Insertion sort by a strict order that is given as a Bool test, and permutations. Knows nothing of the format. Assumes nothing.
use Rattle.std.specs.Prelude.{◌≡◌, Bool, true, false, not, ◌&&◌, ◌||◌, List, [], ◌∷◌, ℕ, eqb, ltb}

pub data Perm {A : Type 0} : List A → List A → Type 0 where
  empty : Perm [] []
  keeping : {xs ys : List A} (x : A) → Perm xs ys → Perm (x ∷ xs) (x ∷ ys)
  swapped : (x y : A) (xs : List A) → Perm (x ∷ y ∷ xs) (y ∷ x ∷ xs)
  chained : {xs ys zs : List A} → Perm xs ys → Perm ys zs → Perm xs zs

-- numbers compared one by one, a list before its extension
unfoldable pub lex_before : List ℕ → List ℕ → Bool
lex_before [] [] = false
lex_before [] (y ∷ ys) = true
lex_before (x ∷ xs) [] = false
lex_before (x ∷ xs) (y ∷ ys) = ltb x y || (eqb x y && lex_before xs ys)

module _ {A : Type 0} (before : A → A → Bool) where
  -- x in front of the first that it stands before
  unfoldable pub insert : A → List A → List A
  insert x [] = x ∷ []
  insert x (y ∷ ys) = elim (before x y) [ true ↦ x ∷ y ∷ ys | false ↦ y ∷ insert x ys ]

  unfoldable pub sort : List A → List A
  sort [] = []
  sort (x ∷ xs) = insert x (sort xs)

  abbrev pub leads : A → List A → Bool
  leads x [] = true
  leads x (y ∷ ys) = before x y

  -- each before the next
  unfoldable pub ascends : List A → Bool
  ascends [] = true
  ascends (x ∷ xs) = leads x xs && ascends xs

  -- neither stands before the other: the same key
  abbrev pub level : A → A → Bool
  level x y = not (before x y || before y x)

  -- a strict order
  pub record Strict : Type 0 where
    pub asym : (x y : A) → before x y ≡ true → before y x ≡ false
    pub trans : (x y z : A) → before x y ≡ true → before y z ≡ true → before x z ≡ true
