-- Lists of numbers compared one by one (lex_before): the order is strict, and of two lists neither stands before the other if and only if they are equal. Also
-- the numbers' own order, and any order by a key. Serves the orders of rows and of the formula. Assumes nothing.
use Prim.Native.Nat.{ℕ, ◌≤◌, ◌<◌}
use mathlib.Core.Path.{◌≡◌, refl, sym, ◌∙◌}
use mathlib.Core.Bool.{Bool, true, false, ◌&&◌, ◌||◌}
use mathlib.Core.List.{List, [], ◌∷◌}
use native.Mathlib.Omega.{arith}
use lib.Dec.{eqb, ltb}
use borrow.Author.Tests.{lt-ltb, le-ltb, eq-eqb, ne_eqb, ltb-true, ltb-false}
use Rattle.lists.specs.Lists.{same_by}
use Rattle.lists.specs.Order.{lex_before, level, Strict}
use Rattle.lists.proofs.Bools.{torn}
use Rattle.lists.proofs.PairLaws.{same_nil, same_short, same_long, same_in, same_out, bytes_equal}

-- how two numbers stand
pub data Sides (x y : ℕ) : Type 0 where
  less : x < y → Sides x y
  equal : x ≡ y → Sides x y
  greater : y < x → Sides x y

pub sides : (x y : ℕ) → Sides x y
sides x y = go (ltb x y) (ltb y x) refl refl
  where
    go : (t u : Bool) → ltb x y ≡ t → ltb y x ≡ u → Sides x y
    go true u p q = less (ltb-true x y p)
    go false true p q = greater (ltb-true y x q)
    go false false p q = let a : y ≤ x = ltb-false x y p in let b : x ≤ y = ltb-false y x q in equal (omega arith)

pub ltb_strict : Strict ltb
ltb_strict =
    record {
      asym = λ x y h. let k : x < y = ltb-true x y h in le-ltb y x (omega arith);
      trans = λ x y z h k. let a : x < y = ltb-true x y h in let b : y < z = ltb-true y z k in lt-ltb x z (omega arith);
    }

-- a strict order of keys orders what has the keys
pub strict_by : {A B : Type 0} (before : B → B → Bool) → Strict before → (key : A → B) → Strict (λ (x y : A). before (key x) (key y))
strict_by before S key = record { asym = λ x y h. S.asym (key x) (key y) h; trans = λ x y z h k. S.trans (key x) (key y) (key z) h k }

-- CLAUSES
pub lex_nil : (xs : List ℕ) → lex_before xs [] ≡ false
unfolding lex_before
lex_nil [] = refl
lex_nil (x ∷ xs) = refl

pub lex_short : (y : ℕ) (ys : List ℕ) → lex_before [] (y ∷ ys) ≡ true
unfolding lex_before
lex_short y ys = refl

pub lex_cons : (x y : ℕ) (xs ys : List ℕ) → lex_before (x ∷ xs) (y ∷ ys) ≡ (ltb x y || (eqb x y && lex_before xs ys))
unfolding lex_before
lex_cons x y xs ys = refl

module _ (x y : ℕ) (xs ys : List ℕ) where
  pub lex_less : x < y → lex_before (x ∷ xs) (y ∷ ys) ≡ true
  lex_less h = rw (lex_cons x y xs ys, lt-ltb x y h)

  pub lex_more : y < x → lex_before (x ∷ xs) (y ∷ ys) ≡ false
  lex_more h = rw (lex_cons x y xs ys, le-ltb x y (omega arith), ne_eqb x y (omega arith))

  pub lex_equal : x ≡ y → lex_before (x ∷ xs) (y ∷ ys) ≡ lex_before xs ys
  lex_equal e = rw (lex_cons x y xs ys, le-ltb x y (omega arith), eq-eqb x y e)

-- STRICT
lex_asym : (xs ys : List ℕ) → lex_before xs ys ≡ true → lex_before ys xs ≡ false
lex_asym xs [] h = torn (lex_before xs []) h (lex_nil xs)
lex_asym [] (y ∷ ys) h = lex_nil (y ∷ ys)
lex_asym (x ∷ xs) (y ∷ ys) h = go (sides x y) (lex_asym xs ys)
  where
    go : Sides x y → (lex_before xs ys ≡ true → lex_before ys xs ≡ false) → lex_before (y ∷ ys) (x ∷ xs) ≡ false
    go (less k) ih = lex_more y x ys xs k
    go (equal k) ih = lex_equal y x ys xs (sym k) ∙ ih (sym (lex_equal x y xs ys k) ∙ h)
    go (greater k) ih = torn (lex_before (x ∷ xs) (y ∷ ys)) h (lex_more x y xs ys k)

lex_trans : (xs ys zs : List ℕ) → lex_before xs ys ≡ true → lex_before ys zs ≡ true → lex_before xs zs ≡ true
lex_trans xs ys [] h k = torn (lex_before ys []) k (lex_nil ys)
lex_trans [] ys (z ∷ zs) h k = lex_short z zs
lex_trans (x ∷ xs) [] (z ∷ zs) h k = torn (lex_before (x ∷ xs) []) h (lex_nil (x ∷ xs))
lex_trans (x ∷ xs) (y ∷ ys) (z ∷ zs) h k = go (sides x y) (sides y z) (lex_trans xs ys zs)
  where
    go : Sides x y → Sides y z → (lex_before xs ys ≡ true → lex_before ys zs ≡ true → lex_before xs zs ≡ true) → lex_before (x ∷ xs) (z ∷ zs) ≡ true
    go (greater a) b ih = torn (lex_before (x ∷ xs) (y ∷ ys)) h (lex_more x y xs ys a)
    go (less a) (greater b) ih = torn (lex_before (y ∷ ys) (z ∷ zs)) k (lex_more y z ys zs b)
    go (equal a) (greater b) ih = torn (lex_before (y ∷ ys) (z ∷ zs)) k (lex_more y z ys zs b)
    go (less a) (less b) ih = lex_less x z xs zs (omega arith)
    go (less a) (equal b) ih = lex_less x z xs zs (omega arith)
    go (equal a) (less b) ih = lex_less x z xs zs (omega arith)
    go (equal a) (equal b) ih = lex_equal x z xs zs (a ∙ b) ∙ ih (sym (lex_equal x y xs ys a) ∙ h) (sym (lex_equal y z ys zs b) ∙ k)

pub lex_strict : Strict lex_before
lex_strict = record { asym = lex_asym; trans = lex_trans }

-- NEITHER BEFORE THE OTHER: equal
pub lex_level : (xs ys : List ℕ) → level lex_before xs ys ≡ same_by eqb xs ys
lex_level [] [] = rw (lex_nil []) (sym (same_nil eqb))
lex_level [] (y ∷ ys) = rw (lex_short y ys) (sym (same_short eqb y ys))
lex_level (x ∷ xs) [] = rw (lex_nil (x ∷ xs), lex_short x xs) (sym (same_long eqb x xs))
lex_level (x ∷ xs) (y ∷ ys) = go (sides x y) (lex_level xs ys)
  where
    go : Sides x y → level lex_before xs ys ≡ same_by eqb xs ys → level lex_before (x ∷ xs) (y ∷ ys) ≡ same_by eqb (x ∷ xs) (y ∷ ys)
    go (less a) ih = rw (lex_less x y xs ys a) (sym (same_out eqb x y xs ys (ne_eqb x y (omega arith))))
    go (equal a) ih = rw (lex_equal x y xs ys a, lex_equal y x ys xs (sym a)) (ih ∙ sym (same_in eqb x y xs ys (eq-eqb x y a)))
    go (greater a) ih = rw (lex_more x y xs ys a, lex_less y x ys xs a) (sym (same_out eqb x y xs ys (ne_eqb x y (omega arith))))

pub lex_same : (xs ys : List ℕ) → level lex_before xs ys ≡ true → xs ≡ ys
lex_same xs ys h = bytes_equal xs ys (sym (lex_level xs ys) ∙ h)
