-- The labels seen by code, and the top of their intervals, tell which labels are out of order, which are missing, and whether some of the three of a shape stand without the
-- rest: document 01, "Lines and labels"; document 02, L2. Assumes nothing.
use Prim.Native.Nat.{ℕ, zero, suc, ◌+◌, ◌-◌, ◌*◌, ◌/◌, ◌%◌, ◌^◌, ◌≤◌, ◌<◌, max}
use mathlib.Core.Path.{◌≡◌, refl, sym, ap, ap₂, ◌∙◌}
use mathlib.Core.Bool.{Bool, true, false, ◌&&◌, ◌||◌, not}
use mathlib.Core.List.{List, [], ◌∷◌}
use native.Mathlib.Omega.{arith}
use lib.ListN.{get_or, set}
use lib.Dec.{eqb, ltb}
use borrow.Author.Tests.{eq-eqb, ne_eqb, eqb-true, lt-ltb, le-ltb, ltb-true, ltb-false}
use Rattle.lists.specs.Lists.{any, all}
use Rattle.lists.proofs.Bools.{and_parts, or_left, or_right, both_ways}
use Rattle.lists.proofs.IndexLaws.{below, at_below}
use Rattle.lists.proofs.ListLaws.{any_or}
use Rattle.format.specs.Labels.{Label, label, known, lookup, misplaced}
use Rattle.format.specs.Reading.{noted, lacks, partly}
use Rattle.labels.specs.ShownLines.{by_code}
use Rattle.sorted.specs.Regions.{mark, saw_code, seen_from, top_of}

-- WHERE THE INTERVALS BEGIN AND END, by code
abbrev pub low_at : ℕ → ℕ
low_at c = 11070861189106119184 / 2 ^ (4 * (c - 2 * (c / 16))) % 16

abbrev pub high_at : ℕ → ℕ
high_at c = 11072550038966383130 / 2 ^ (4 * (c - 2 * (c / 16))) % 16

abbrev pub Told : ℕ → Type 0
Told c = ((by_code c known).code ≡ c) × (low_at c ≡ (by_code c known).low) × (high_at c ≡ (by_code c known).high)

abbrev right : ℕ → Bool
right c = eqb (by_code c known).code c && (eqb (low_at c) (by_code c known).low && eqb (high_at c) (by_code c known).high)

all_right : below right 18 ≡ true
unfolding below by_code known label lookup
all_right = refl

pub known_told : (c : ℕ) → c < 18 → Told c
known_told c h =
    let p = and_parts (eqb (by_code c known).code c) _ (at_below right 18 all_right c h) in
    let q = and_parts (eqb (low_at c) (by_code c known).low) _ p.1 in
    (eqb-true _ _ p.0, eqb-true _ _ q.0, eqb-true _ _ q.1)

-- THE LABELS SEEN, BY CODE
seen_from_lem : (k c i : ℕ) (seen : List Label) → i < k → get_or (seen_from k c seen) i 0 ≡ mark (saw_code (c + i) seen)
unfolding seen_from
seen_from_lem zero c i seen h = absurd (omega arith)
seen_from_lem (suc k) c zero seen h = let q : c ≡ c + 0 = omega arith in ap (λ (n : ℕ). mark (saw_code n seen)) q
seen_from_lem (suc k) c (suc i) seen h =
    let q : suc c + i ≡ c + suc i = omega arith in
    seen_from_lem k (suc c) i seen (omega arith) ∙ ap (λ (n : ℕ). mark (saw_code n seen)) q

pub seen_at : (cells : List ℕ) (seen : List Label) (i : ℕ) → cells ≡ seen_from 18 0 seen → i < 18 → get_or cells i 0 ≡ mark (saw_code i seen)
seen_at cells seen i e h =
    let q : 0 + i ≡ i = omega arith in
    ap (λ (l : List ℕ). get_or l i 0) e ∙ seen_from_lem 18 0 i seen h ∙ ap (λ (n : ℕ). mark (saw_code n seen)) q

mark_one : (b : Bool) → (mark b ≡ 0 → ⊥) → b ≡ true
mark_one true h = refl
mark_one false h = absurd (h refl)

mark_zero : (b : Bool) → mark b ≡ 0 → b ≡ false
mark_zero true h = absurd (omega arith)
mark_zero false h = refl

mark_not : (b : Bool) → not b ≡ eqb (mark b) 0
mark_not true = refl
mark_not false = refl

-- OUT OF ORDER
ltb_max : (h a b : ℕ) → (ltb h a || ltb h b) ≡ ltb h (max a b)
ltb_max h a b = both_ways (ltb h a || ltb h b) (ltb h (max a b)) fore back
  where
    split : (t : Bool) → ltb h a ≡ t → (ltb h a || ltb h b) ≡ true → h < max a b
    split true p e = let q : h < a = ltb-true h a p in omega arith
    split false p e = let q : h < b = ltb-true h b (ap (λ (t : Bool). t || ltb h b) (sym p) ∙ e) in omega arith

    fore : (ltb h a || ltb h b) ≡ true → ltb h (max a b) ≡ true
    fore e = lt-ltb h (max a b) (split (ltb h a) refl e)

    join : (t : Bool) → ltb h a ≡ t → h < max a b → (ltb h a || ltb h b) ≡ true
    join true p q = or_left (ltb h a) (ltb h b) p
    join false p q = or_right (ltb h a) (ltb h b) (lt-ltb h b (omega (arith, ltb-false h a p)))

    back : ltb h (max a b) ≡ true → (ltb h a || ltb h b) ≡ true
    back e = join (ltb h a) refl (ltb-true h (max a b) e)

top_any : (h : ℕ) (seen : List Label) → any (λ y. ltb h y.low) seen ≡ ltb h (top_of seen)
unfolding any top_of
top_any h [] = sym (le-ltb h 0 (omega arith))
top_any h (y ∷ ys) = ap (λ (t : Bool). ltb h y.low || t) (top_any h ys) ∙ ltb_max h y.low (top_of ys)

misplaced_is : (seen : List Label) (x : Label) → misplaced seen x ≡ (saw_code x.code seen || ltb x.high (top_of seen))
unfolding misplaced
misplaced_is seen x =
    any_or (λ y. eqb y.code x.code) (λ y. ltb x.high y.low) seen ∙ ap (λ (t : Bool). saw_code x.code seen || t) (top_any x.high seen)

pub misplaced_code : (seen : List Label) (c : ℕ) → c < 18 → misplaced seen (by_code c known) ≡ (saw_code c seen || ltb (by_code c known).high (top_of seen))
misplaced_code seen c h = misplaced_is seen (by_code c known) ∙ ap (λ (n : ℕ). saw_code n seen || ltb (by_code c known).high (top_of seen)) (known_told c h).0

pub seen_again : (cells : List ℕ) (seen : List Label) (c : ℕ) → c < 18 → cells ≡ seen_from 18 0 seen → (get_or cells c 0 ≡ 0 → ⊥) → true ≡ misplaced seen (by_code c known)
seen_again cells seen c h e n =
    let s : saw_code c seen ≡ true = mark_one (saw_code c seen) (λ z. n (seen_at cells seen c e h ∙ z)) in
    sym (misplaced_code seen c h ∙ or_left (saw_code c seen) (ltb (by_code c known).high (top_of seen)) s)

pub order_told : (cells : List ℕ) (seen : List Label) (c top high : ℕ) → c < 18 → cells ≡ seen_from 18 0 seen → top ≡ top_of seen → get_or cells c 0 ≡ 0 → high ≡ (by_code c known).high →
    ltb high top ≡ misplaced seen (by_code c known)
order_told cells seen c top high h e t z k =
    let s : saw_code c seen ≡ false = mark_zero (saw_code c seen) (sym (seen_at cells seen c e h) ∙ z) in
    ap₂ ltb k t ∙ sym (misplaced_code seen c h ∙ ap (λ (b : Bool). b || ltb (by_code c known).high (top_of seen)) s)

-- A LABEL NOTED
other_code : (k c : ℕ) (x : Label) (seen : List Label) → x.code < c → seen_from k c (x ∷ seen) ≡ seen_from k c seen
unfolding seen_from any
other_code zero c x seen h = refl
other_code (suc k) c x seen h =
    ap (λ (t : Bool). mark (t || saw_code c seen) ∷ seen_from k (suc c) (x ∷ seen)) (ne_eqb x.code c (λ q. omega arith)) ∙ ap (λ (l : List ℕ). mark (saw_code c seen) ∷ l) (other_code k (suc c) x seen (omega arith))

noted_from : (k c i : ℕ) (x : Label) (seen : List Label) → x.code ≡ c + i → i < k → set (seen_from k c seen) i 1 ≡ seen_from k c (x ∷ seen)
unfolding seen_from any
noted_from zero c i x seen e h = absurd (omega arith)
noted_from (suc k) c zero x seen e h =
    ap (λ (l : List ℕ). 1 ∷ l) (sym (other_code k (suc c) x seen (omega arith))) ∙ ap (λ (t : Bool). mark (t || saw_code c seen) ∷ seen_from k (suc c) (x ∷ seen)) (sym (eq-eqb x.code c (omega arith)))
noted_from (suc k) c (suc i) x seen e h =
    ap (λ (l : List ℕ). mark (saw_code c seen) ∷ l) (noted_from k (suc c) i x seen (omega arith) (omega arith))
    ∙ ap (λ (t : Bool). mark (t || saw_code c seen) ∷ seen_from k (suc c) (x ∷ seen)) (sym (ne_eqb x.code c (λ q. omega arith)))

pub noted_zero : (c : ℕ) (x : Label) (seen : List Label) → c ≡ 0 → noted c x seen ≡ seen
noted_zero c x seen e = rw (eq-eqb c 0 e, noted)

pub noted_more : (c : ℕ) (x : Label) (seen : List Label) → (c ≡ 0 → ⊥) → noted c x seen ≡ x ∷ seen
noted_more c x seen e = rw (ne_eqb c 0 e, noted)

-- what the cells and the top show after a label of the code c
abbrev pub Noted : (cells : List ℕ) (top c : ℕ) → List Label → Type 0
Noted cells top c seen = (cells ≡ seen_from 18 0 (noted c (by_code c known) seen)) × (top ≡ top_of (noted c (by_code c known) seen))

module _ (cells : List ℕ) (seen : List Label) (c top : ℕ) (e : cells ≡ seen_from 18 0 seen) (t : top ≡ top_of seen) where
  pub note_none : c ≡ 0 → Noted cells top c seen
  note_none z = let q = sym (noted_zero c (by_code c known) seen z) in (e ∙ ap (seen_from 18 0) q, t ∙ ap top_of q)

  module _ (h : c < 18) (n : c ≡ 0 → ⊥) where
    note_cells : set cells c 1 ≡ seen_from 18 0 (noted c (by_code c known) seen)
    note_cells =
        let q : (by_code c known).code ≡ 0 + c = (known_told c h).0 ∙ omega arith in
        ap (λ (l : List ℕ). set l c 1) e ∙ noted_from 18 0 c (by_code c known) seen q h ∙ ap (seen_from 18 0) (sym (noted_more c (by_code c known) seen n))

    module _ (low : ℕ) (k : low ≡ (by_code c known).low) where
      note_top : (m : ℕ) → m ≡ max low (top_of seen) → m ≡ top_of (noted c (by_code c known) seen)
      unfolding top_of
      note_top m q = q ∙ ap (λ (l : ℕ). max l (top_of seen)) k ∙ ap top_of (sym (noted_more c (by_code c known) seen n))

      pub note_higher : top < low → Noted (set cells c 1) low c seen
      note_higher l = (note_cells, note_top low (omega arith))

      pub note_lower : low ≤ top → Noted (set cells c 1) top c seen
      note_lower l = (note_cells, note_top top (omega arith))

-- A RECORD MISSING
pub lacking_is : (cells : List ℕ) (seen : List Label) → cells ≡ seen_from 18 0 seen →
    any (lacks seen) (2 ∷ 3 ∷ 4 ∷ 5 ∷ []) ≡ (eqb (get_or cells 2 0) 0 || (eqb (get_or cells 3 0) 0 || (eqb (get_or cells 4 0) 0 || eqb (get_or cells 5 0) 0)))
unfolding any lacks
lacking_is cells seen e = rw (cell 2 (omega arith), cell 3 (omega arith), cell 4 (omega arith), cell 5 (omega arith)) (last (saw_code 2 seen) (saw_code 3 seen) (saw_code 4 seen) (saw_code 5 seen))
  where
    cell : (i : ℕ) → i < 18 → get_or cells i 0 ≡ mark (saw_code i seen)
    cell i h = seen_at cells seen i e h

    last : (a b c d : Bool) → (not a || (not b || (not c || (not d || false)))) ≡ (eqb (mark a) 0 || (eqb (mark b) 0 || (eqb (mark c) 0 || eqb (mark d) 0)))
    last true true true true = refl
    last true true true false = refl
    last true true false d = refl
    last true false c d = refl
    last false b c d = refl

pub or_fourth : (a b c d : Bool) → a ≡ false → b ≡ false → c ≡ false → (a || (b || (c || d))) ≡ d
or_fourth a b c d p q r = rw (p, q, r)

-- SOME OF THE THREE LABELS
module _ (cells : List ℕ) (seen : List Label) (e : cells ≡ seen_from 18 0 seen) where
  partly_is : partly seen (14 ∷ 15 ∷ 16 ∷ []) ≡ (not (eqb (get_or cells 15 0) (get_or cells 14 0)) || not (eqb (get_or cells 16 0) (get_or cells 14 0)))
  unfolding partly any all lacks
  partly_is = rw (seen_at cells seen 14 e (omega arith), seen_at cells seen 15 e (omega arith), seen_at cells seen 16 e (omega arith)) (cases (saw_code 14 seen) (saw_code 15 seen) (saw_code 16 seen))
    where
      cases : (a b c : Bool) → ((not a || (not b || (not c || false))) && not (not a && (not b && (not c && true)))) ≡ (not (eqb (mark b) (mark a)) || not (eqb (mark c) (mark a)))
      cases true true true = refl
      cases true true false = refl
      cases true false c = refl
      cases false true c = refl
      cases false false true = refl
      cases false false false = refl

  pub partly_second : (get_or cells 15 0 ≡ get_or cells 14 0 → ⊥) → true ≡ partly seen (14 ∷ 15 ∷ 16 ∷ [])
  partly_second n = sym (partly_is ∙ ap (λ (t : Bool). not t || not (eqb (get_or cells 16 0) (get_or cells 14 0))) (ne_eqb (get_or cells 15 0) (get_or cells 14 0) n))

  pub partly_third : get_or cells 15 0 ≡ get_or cells 14 0 → not (eqb (get_or cells 16 0) (get_or cells 14 0)) ≡ partly seen (14 ∷ 15 ∷ 16 ∷ [])
  partly_third q = sym (partly_is ∙ ap (λ (t : Bool). not t || not (eqb (get_or cells 16 0) (get_or cells 14 0))) (eq-eqb (get_or cells 15 0) (get_or cells 14 0) q))

-- STEREOMOLECULE WITHOUT ITS YES
pub answered : (seen : List Label) (handed : Bool) → handed ≡ true → false ≡ not (lacks seen 17 || handed)
answered seen handed e = sym (ap not (or_right (lacks seen 17) handed e))

pub unanswered_told : (cells : List ℕ) (seen : List Label) (handed : Bool) → cells ≡ seen_from 18 0 seen → handed ≡ false → not (eqb (get_or cells 17 0) 0) ≡ not (lacks seen 17 || handed)
unfolding lacks
unanswered_told cells seen handed e f = rw (seen_at cells seen 17 e (omega arith), f) (by (saw_code 17 seen))
  where
    by : (a : Bool) → not (eqb (mark a) 0) ≡ not (not a || false)
    by true = refl
    by false = refl
