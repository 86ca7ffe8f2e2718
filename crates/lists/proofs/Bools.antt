-- Bools and tests on numbers, as the other laws cite them: a conjunction that is true and a disjunction that is false come apart, a test has one value, equality
-- of numbers is symmetric. What mathlib.Core.Bool, lib.Dec and borrow.Author.Tests have is cited from there. Serves every law file. Assumes nothing.
use Prim.Native.Nat.{ℕ}
use mathlib.Core.Path.{◌≡◌, refl, sym, ap, ◌∙◌}
use mathlib.Core.Bool.{Bool, true, false, not, ◌&&◌, ◌||◌, true≢false}
use native.Mathlib.Omega.{arith}
use lib.Dec.{eqb, ltb, leb}
use borrow.Author.Tests.{eqb-true, eq-eqb, lt-ltb, le-ltb, leb-true, leb-false}

-- TWO VALUES
pub apart : true ≡ false → ⊥
apart e = true≢false e

-- a test that is true and false: anything follows
pub torn : {A : Type 0} (b : Bool) → b ≡ true → b ≡ false → A
torn b p q = absurd (apart (sym p ∙ q))

pub not_of_true : (b : Bool) → b ≡ true → not b ≡ false
not_of_true b e = ap not e

pub not_of_false : (b : Bool) → b ≡ false → not b ≡ true
not_of_false b e = ap not e

-- two tests that imply one another are equal
pub both_ways : (a b : Bool) → (a ≡ true → b ≡ true) → (b ≡ true → a ≡ true) → a ≡ b
both_ways true b f g = sym (f refl)
both_ways false true f g = g refl
both_ways false false f g = refl

-- a test that is never true is false
pub never : (b : Bool) → (b ≡ true → ⊥) → b ≡ false
never true h = absurd (h refl)
never false h = refl

-- a test that is never false is true
pub always : (b : Bool) → (b ≡ false → ⊥) → b ≡ true
always true h = refl
always false h = absurd (h refl)

-- AND, OR
pub and_parts : (a b : Bool) → (a && b) ≡ true → (a ≡ true) × (b ≡ true)
and_parts true b e = (refl, e)
and_parts false b e = torn false e refl

pub and_both : (a b : Bool) → a ≡ true → b ≡ true → (a && b) ≡ true
and_both true b p q = q
and_both false b p q = p

pub and_left_false : (a b : Bool) → a ≡ false → (a && b) ≡ false
and_left_false true b e = torn true refl e
and_left_false false b e = refl

pub and_right_false : (a b : Bool) → b ≡ false → (a && b) ≡ false
and_right_false true b e = e
and_right_false false b e = refl

pub or_parts : (a b : Bool) → (a || b) ≡ false → (a ≡ false) × (b ≡ false)
or_parts true b e = torn true refl e
or_parts false b e = (refl, e)

pub or_neither : (a b : Bool) → a ≡ false → b ≡ false → (a || b) ≡ false
or_neither true b p q = p
or_neither false b p q = q

pub or_left : (a b : Bool) → a ≡ true → (a || b) ≡ true
or_left true b e = refl
or_left false b e = torn false e refl

pub or_right : (a b : Bool) → b ≡ true → (a || b) ≡ true
or_right true b e = refl
or_right false b e = e

-- of two of which one is true, the other where the first is not
pub or_other : (a b : Bool) → (a || b) ≡ true → a ≡ false → b ≡ true
or_other true b h e = torn true refl e
or_other false b h e = h

pub not_or : (a b : Bool) → not (a || b) ≡ (not a && not b)
not_or true b = refl
not_or false b = refl

pub not_and : (a b : Bool) → not (a && b) ≡ (not a || not b)
not_and true b = refl
not_and false b = refl

-- three and four of them in another order
pub or_exchange : (a b c : Bool) → (a || (b || c)) ≡ (b || (a || c))
or_exchange true true c = refl
or_exchange true false c = refl
or_exchange false b c = refl

pub and_exchange : (a b c : Bool) → (a && (b && c)) ≡ (b && (a && c))
and_exchange true b c = refl
and_exchange false true c = refl
and_exchange false false c = refl

pub or_shuffle : (a b c d : Bool) → ((a || b) || (c || d)) ≡ ((a || c) || (b || d))
or_shuffle true b c d = refl
or_shuffle false true true d = refl
or_shuffle false true false d = refl
or_shuffle false false c d = refl

pub and_shuffle : (a b c d : Bool) → ((a && b) && (c && d)) ≡ ((a && c) && (b && d))
and_shuffle true true c d = refl
and_shuffle true false true d = refl
and_shuffle true false false d = refl
and_shuffle false b c d = refl

-- NUMBERS
pub eqb_same : (a : ℕ) → eqb a a ≡ true
eqb_same a = eq-eqb a a refl

pub eqb_symm : (a b : ℕ) → eqb a b ≡ eqb b a
eqb_symm a b = both_ways (eqb a b) (eqb b a) (λ e. eq-eqb b a (sym (eqb-true a b e))) (λ e. eq-eqb a b (sym (eqb-true b a e)))

-- a ≤ b is no b < a
pub leb_ltb : (a b : ℕ) → leb a b ≡ not (ltb b a)
leb_ltb a b = go (leb a b) refl
  where
    go : (t : Bool) → leb a b ≡ t → leb a b ≡ not (ltb b a)
    go true e = e ∙ sym (ap not (le-ltb b a (leb-true a b e)))
    go false e = e ∙ sym (ap not (lt-ltb b a (leb-false a b e)))

-- nothing stands before itself
pub ltb_same : (a : ℕ) → ltb a a ≡ false
ltb_same a = le-ltb a a (omega arith)
