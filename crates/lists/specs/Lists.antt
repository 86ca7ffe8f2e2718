-- Lists over any element: tests on all or on one, the run in front that passes a test, lists one after another, filling up, rows of one width.
-- Knows nothing of the format. Assumes nothing.
use Rattle.std.specs.Prelude.{ℕ, zero, suc, ◌-◌, Bool, true, false, ◌&&◌, ◌||◌, List, [], ◌∷◌, ◌++◌, length, drop, replicate}

-- a number where a test passes, else 0
abbrev pub share : Bool → ℕ → ℕ
share true n = n
share false n = 0

-- n numbers from one on: a, a + 1, a + 2 ..
unfoldable pub count_up : (a n : ℕ) → List ℕ
count_up a zero = []
count_up a (suc n) = a ∷ count_up (suc a) n

module _ {A : Type 0} where
  abbrev pub is_nil : List A → Bool
  is_nil [] = true
  is_nil (x ∷ xs) = false

  -- whether each passes the test; whether one does
  unfoldable pub all : (A → Bool) → List A → Bool
  all p [] = true
  all p (x ∷ xs) = p x && all p xs

  unfoldable pub any : (A → Bool) → List A → Bool
  any p [] = false
  any p (x ∷ xs) = p x || any p xs

  -- whether two lists are as long and each pair of members is the same by the test
  unfoldable pub same_by : (A → A → Bool) → List A → List A → Bool
  same_by eq [] [] = true
  same_by eq [] (y ∷ ys) = false
  same_by eq (x ∷ xs) [] = false
  same_by eq (x ∷ xs) (y ∷ ys) = eq x y && same_by eq xs ys

  -- whether two of the list stand in the relation, the earlier one first
  unfoldable pub pairs : (A → A → Bool) → List A → Bool
  pairs r [] = false
  pairs r (x ∷ xs) = any (r x) xs || pairs r xs

  -- how many in front pass the test
  unfoldable pub span : (A → Bool) → List A → ℕ
  span p [] = 0
  span p (x ∷ xs) = elim (p x) [ true ↦ suc (span p xs) | false ↦ 0 ]

  -- the lists one after another
  unfoldable pub concat : List (List A) → List A
  concat [] = []
  concat (l ∷ ls) = l ++ concat ls

  -- a list filled up to n with z: shut, so that no goal writes it out
  unfoldable pub filled : A → ℕ → List A → List A
  filled z n l = l ++ replicate (n - length l) z

module _ {A B : Type 0} where
  -- what each gives, one after another
  unfoldable pub flat : (A → List B) → List A → List B
  flat f [] = []
  flat f (x ∷ xs) = f x ++ flat f xs

  -- n rows of a table, w cells a row; `row` looks at the cells from its row's first one on
  unfoldable pub rows_from : (w : ℕ) → (List B → A) → ℕ → List B → List A
  rows_from w row zero t = []
  rows_from w row (suc n) t = row t ∷ rows_from w row n (drop w t)
