-- The ranks of the elements, computed once: a rank is the place among the elements in the formula's order, of which each symbol stands before the next. So ranks
-- order the elements as their symbols do. Document 01, "The one written form": "C, H, then by symbol, a shorter symbol before its extension". Assumes nothing.
use Prim.Native.Nat.{ℕ, zero, suc, ◌≤◌, ◌<◌}
use mathlib.Core.Path.{◌≡◌, refl, sym, ap, ap₂, ◌∙◌}
use mathlib.Core.Bool.{Bool, true, false, ◌&&◌}
use mathlib.Core.List.{List, [], ◌∷◌}
use native.Mathlib.Omega.{arith}
use lib.ListN.{length, get_or, get_or-eq_default}
use lib.Dec.{eqb, ltb, leb}
use borrow.Author.Tests.{eqb-true, leb-true, lt-ltb, le-ltb, eq-eqb}
use Rattle.std.proofs.Common.{Bor, Option, Some, None, ltb-false}
use Rattle.std.specs.Option.{MatchOption}
use Rattle.std.specs.Slice.{IsItemAt}
use Rattle.lists.specs.Lists.{all}
use Rattle.lists.specs.Order.{lex_before, insert, sort, ascends, Strict}
use Rattle.lists.proofs.Bools.{and_parts, both_ways}
use Rattle.lists.proofs.ListLaws.{all_parts}
use Rattle.lists.proofs.LexLaws.{Sides, less, equal, greater, sides, lex_strict, strict_by}
use Rattle.format.specs.Bytes.{bytes, blank, gap, cons_to, fields}
use Rattle.format.specs.Structure.{symbols}
use Rattle.format.specs.Writing.{rank}
use Rattle.tally.specs.Ranks.{element_before, down, in_order, place_from, rank_of, element_of}
use Rattle.lists.proofs.IndexLaws.{ascends_at}

-- THE TABLES of src/ranks.rt
unfoldable pub ranks : List ℕ
ranks = 0 ∷ 2 ∷ 38 ∷ 48 ∷ 13 ∷ 11 ∷ 1 ∷ 55 ∷ 63 ∷ 31 ∷ 59 ∷ 56 ∷ 52 ∷ 5 ∷ 84 ∷ 65 ∷ 80 ∷ 21 ∷ 7 ∷ 45 ∷ 17 ∷ 82 ∷ 93 ∷ 97 ∷ 24 ∷ 53 ∷ 32 ∷ 23 ∷ 60 ∷ 26 ∷ 102 ∷ 35 ∷ 37 ∷ 8 ∷ 83 ∷ 16 ∷ 46 ∷ 75 ∷ 87 ∷ 100 ∷ 103 ∷ 57 ∷ 54 ∷ 90 ∷ 79 ∷ 77 ∷ 68 ∷ 4 ∷ 18 ∷ 43 ∷ 86 ∷ 81 ∷ 91 ∷ 42 ∷ 99 ∷ 25 ∷ 12 ∷ 47 ∷ 19 ∷ 71 ∷ 58 ∷ 69 ∷ 85 ∷ 30 ∷ 36 ∷ 89 ∷ 27 ∷ 41 ∷ 28 ∷ 95 ∷ 101 ∷ 50 ∷ 39 ∷ 88 ∷ 98 ∷ 76 ∷ 64 ∷ 44 ∷ 72 ∷ 10 ∷ 40 ∷ 94 ∷ 67 ∷ 14 ∷ 70 ∷ 9 ∷ 78 ∷ 34 ∷ 74 ∷ 3 ∷ 92 ∷ 66 ∷ 96 ∷ 62 ∷ 73 ∷ 6 ∷ 22 ∷ 15 ∷ 20 ∷ 29 ∷ 33 ∷ 51 ∷ 61 ∷ 49 ∷ []

abbrev listed : List ℕ
listed = 6 ∷ 1 ∷ 89 ∷ 47 ∷ 13 ∷ 95 ∷ 18 ∷ 33 ∷ 85 ∷ 79 ∷ 5 ∷ 56 ∷ 4 ∷ 83 ∷ 97 ∷ 35 ∷ 20 ∷ 48 ∷ 58 ∷ 98 ∷ 17 ∷ 96 ∷ 27 ∷ 24 ∷ 55 ∷ 29 ∷ 66 ∷ 68 ∷ 99 ∷ 63 ∷ 9 ∷ 26 ∷ 100 ∷ 87 ∷ 31 ∷ 64 ∷ 32 ∷ 2 ∷ 72 ∷ 80 ∷ 67 ∷ 53 ∷ 49 ∷ 77 ∷ 19 ∷ 36 ∷ 57 ∷ 3 ∷ 103 ∷ 71 ∷ 101 ∷ 12 ∷ 25 ∷ 42 ∷ 7 ∷ 11 ∷ 41 ∷ 60 ∷ 10 ∷ 28 ∷ 102 ∷ 93 ∷ 8 ∷ 76 ∷ 15 ∷ 91 ∷ 82 ∷ 46 ∷ 61 ∷ 84 ∷ 59 ∷ 78 ∷ 94 ∷ 88 ∷ 37 ∷ 75 ∷ 45 ∷ 86 ∷ 44 ∷ 16 ∷ 51 ∷ 21 ∷ 34 ∷ 14 ∷ 62 ∷ 50 ∷ 38 ∷ 73 ∷ 65 ∷ 43 ∷ 52 ∷ 90 ∷ 22 ∷ 81 ∷ 69 ∷ 92 ∷ 23 ∷ 74 ∷ 54 ∷ 39 ∷ 70 ∷ 30 ∷ 40 ∷ []

unfoldable pub elements : List ℕ
elements = 0 ∷ listed

-- the order, and each symbol before the next
ordered : in_order ≡ listed
unfolding in_order down sort insert lex_before rank symbols bytes blank gap cons_to fields
ordered = refl

ascending : ascends element_before listed ≡ true
unfolding ascends lex_before rank symbols bytes blank gap cons_to fields
ascending = refl

-- the two tables undo one another
unfoldable right : ℕ → Bool
right e = eqb (get_or ranks e 0) (place_from 1 e listed) && (eqb (get_or elements (get_or ranks e 0) 0) e && (leb 1 (get_or ranks e 0) && leb (get_or ranks e 0) 103))

all_right : all right (down 103) ≡ true
unfolding all right down ranks elements place_from
all_right = refl

down_each : (p : ℕ → Bool) (n : ℕ) → all p (down n) ≡ true → (e : ℕ) → 1 ≤ e → e ≤ n → p e ≡ true
unfolding down
down_each p zero a e l h = absurd (omega arith)
down_each p (suc n) a e l h = go (sides e (suc n)) (down_each p n (all_parts p (suc n) (down n) a).1 e l)
  where
    go : Sides e (suc n) → (e ≤ n → p e ≡ true) → p e ≡ true
    go (less b) ih = ih (omega arith)
    go (equal b) ih = ap p b ∙ (all_parts p (suc n) (down n) a).0
    go (greater b) ih = absurd (omega arith)

pub element_is : (r : ℕ) → get_or elements r 0 ≡ element_of r
unfolding elements element_of
element_is r = ap (λ (l : List ℕ). get_or (0 ∷ l) r 0) (sym ordered)

pub element_told : (r n : ℕ) → r ≡ n → get_or elements n 0 ≡ element_of r
element_told r n q = element_is n ∙ ap element_of (sym q)

elements_long : length elements ≡ 104
unfolding elements
elements_long = refl

pub element_none : (r : ℕ) → 104 ≤ r → 0 ≡ element_of r
element_none r h = sym (get_or-eq_default elements 0 (omega (arith, elements_long))) ∙ element_is r

-- AN ELEMENT has its rank in the table, 1 to 103, and is found again by it
module _ (e : ℕ) (l : 1 ≤ e) (h : e ≤ 103) where
  is_right : right e ≡ true
  is_right = down_each right 103 all_right e l h

  pub rank_entry : get_or ranks e 0 ≡ rank_of e
  unfolding right rank_of
  rank_entry =
      eqb-true (get_or ranks e 0) (place_from 1 e listed) (and_parts (eqb (get_or ranks e 0) (place_from 1 e listed)) _ is_right).0
      ∙ ap (place_from 1 e) (sym ordered)

  behind : (eqb (get_or elements (get_or ranks e 0) 0) e ≡ true) × ((leb 1 (get_or ranks e 0) && leb (get_or ranks e 0) 103) ≡ true)
  unfolding right
  behind = and_parts (eqb (get_or elements (get_or ranks e 0) 0) e) (leb 1 (get_or ranks e 0) && leb (get_or ranks e 0) 103) (and_parts (eqb (get_or ranks e 0) (place_from 1 e listed)) _ is_right).1

  pub rank_back : element_of (rank_of e) ≡ e
  rank_back = ap element_of (sym rank_entry) ∙ sym (element_is (get_or ranks e 0)) ∙ eqb-true (get_or elements (get_or ranks e 0) 0) e behind.0

  pub rank_low : 1 ≤ rank_of e
  rank_low = omega (arith, rank_entry, leb-true 1 (get_or ranks e 0) (and_parts (leb 1 (get_or ranks e 0)) (leb (get_or ranks e 0) 103) behind.1).0)

  pub rank_high : rank_of e ≤ 103
  rank_high = omega (arith, rank_entry, leb-true (get_or ranks e 0) 103 (and_parts (leb 1 (get_or ranks e 0)) (leb (get_or ranks e 0) 103) behind.1).1)

-- looked up in the table
pub looked_up : (r n : ℕ) (o : Option (Bor ℕ)) → IsItemAt elements r o → MatchOption o (n ≡ 0) (λ x. n ≡ x.now) → n ≡ element_of r
unfolding elements
looked_up r n None i m = m ∙ element_none r (ltb-false r 104 (sym i.0))
looked_up r n (Some x) i m = m ∙ i.3.1 0 ∙ element_is r

-- told by a number of the table
pub rank_told : (e n : ℕ) → 1 ≤ n → n ≤ 103 → e ≡ n → (get_or ranks n 0 ≤ 103) × (get_or ranks n 0 ≡ rank_of e)
rank_told e n l h q = (omega (arith, rank_entry n l h, rank_high n l h), rank_entry n l h ∙ ap rank_of (sym q))

-- hydrogen stands behind carbon
pub hydrogen_rank : rank_of 1 ≡ 2
unfolding ranks
hydrogen_rank = sym (rank_entry 1 (omega arith) (omega arith))

-- THE ORDER of the ranks is that of the symbols
words_strict : Strict element_before
words_strict = strict_by lex_before lex_strict rank

listed_long : length listed ≡ 103
listed_long = refl

by_rank : (r s : ℕ) → 1 ≤ r → r < s → s ≤ 103 → element_before (get_or elements r 0) (get_or elements s 0) ≡ true
unfolding elements
by_rank zero s l h k = absurd (omega arith)
by_rank (suc r) zero l h k = absurd (omega arith)
by_rank (suc r) (suc s) l h k = ascends_at element_before words_strict 0 listed r s ascending (omega arith) (omega (arith, listed_long))

module _ (e f : ℕ) (l : 1 ≤ e) (h : e ≤ 103) (m : 1 ≤ f) (k : f ≤ 103) where
  pub rank_same : rank_of e ≡ rank_of f → e ≡ f
  rank_same q = sym (rank_back e l h) ∙ ap element_of q ∙ rank_back f m k

  pub rank_before : lex_before (rank e) (rank f) ≡ ltb (rank_of e) (rank_of f)
  rank_before = go (sides (rank_of e) (rank_of f))
    where
      before : (e f : ℕ) → 1 ≤ e → e ≤ 103 → 1 ≤ f → f ≤ 103 → rank_of e < rank_of f → element_before e f ≡ true
      before e f l h m k a =
          sym (ap₂ element_before (element_is (rank_of e) ∙ rank_back e l h) (element_is (rank_of f) ∙ rank_back f m k))
          ∙ by_rank (rank_of e) (rank_of f) (rank_low e l h) a (rank_high f m k)

      itself : (e : ℕ) → element_before e e ≡ false
      itself e = irreflexive (element_before e e) (words_strict.asym e e)
        where
          irreflexive : (b : Bool) → (b ≡ true → b ≡ false) → b ≡ false
          irreflexive true f = f refl
          irreflexive false f = refl

      go : Sides (rank_of e) (rank_of f) → element_before e f ≡ ltb (rank_of e) (rank_of f)
      go (less a) = before e f l h m k a ∙ sym (lt-ltb (rank_of e) (rank_of f) a)
      go (equal a) = ap (element_before e) (sym (rank_same a)) ∙ itself e ∙ sym (le-ltb (rank_of e) (rank_of f) (omega arith))
      go (greater a) = words_strict.asym f e (before f e m k l h a) ∙ sym (le-ltb (rank_of e) (rank_of f) (omega arith))

  pub rank_equal : eqb e f ≡ eqb (rank_of e) (rank_of f)
  rank_equal = both_ways (eqb e f) (eqb (rank_of e) (rank_of f)) (λ q. eq-eqb (rank_of e) (rank_of f) (ap rank_of (eqb-true e f q))) (λ q. eq-eqb e f (rank_same (eqb-true (rank_of e) (rank_of f) q)))
