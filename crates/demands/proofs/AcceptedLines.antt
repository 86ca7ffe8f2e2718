-- What every line passes says of all lines: the first is a TITLE line, the labels stand in order, END is there with only blanks behind it, each line keeps its
-- own rules. The second stage of "accepted exactly when"; document 01, "Lines and labels". Assumes nothing.
use Prim.Native.Nat.{ℕ}
use mathlib.Core.Path.{◌≡◌, refl, sym, ap, ◌∙◌}
use mathlib.Core.Bool.{Bool, true, false, not, ◌&&◌, ◌||◌}
use mathlib.Core.List.{List, [], ◌∷◌, ◌++◌}
use native.Mathlib.Omega.{arith}
use lib.ListN.{drop}
use lib.Dec.{eqb, leb}
use borrow.Author.Tests.{eqb-true, le-ltb, leb-true, not-true}
use Rattle.lists.specs.Lists.{is_nil, all, any, pairs, flat}
use Rattle.lists.proofs.Bools.{torn, and_parts, and_both, or_neither}
use Rattle.lists.proofs.ListLaws.{all_nil, all_one, all_parts, all_both, all_append, any_nil, any_cons, any_or}
use Rattle.format.specs.Bytes.{Bytes, gap, is_label}
use Rattle.format.specs.Labels.{Holds, Skipped, Label, label, known, normal, misplaced, Parts, NoEquals, Parted, parts, parts_line, Line, Plain, Unparted, Labelled, line_of, has_code, title_line, end_line}
use Rattle.format.specs.Reading.{State, noted, over, start}
use Rattle.format.proofs.AcceptedLaws.{lookup_passes}
use Rattle.demands.specs.Accepted.{Told, Value, Further, told_as, runs_on, told, behind_end, label_on, labels, out_of_order, further_rule}
use Rattle.demands.proofs.AcceptedAfter.{after}
use Rattle.demands.proofs.AcceptedSteps.{along, value_test, on_line, titled_at, placed_at, closed_at, blank_plain}
use Rattle.demands.proofs.AcceptedState.{after_running, after_seen}

-- THE LABEL ON A LINE is one of the known or that of the skipped: what they all pass it passes
module _ (p : Label → Bool) (every : all p known ≡ true) (None : p (label "" Skipped 0 0 10) ≡ true) where
  abbrev Passed : Line → Type 0
  Passed Plain = Unit {0}
  Passed Unparted = Unit {0}
  Passed (Labelled x v) = p x ≡ true

  parts_passed : (q : Parts) → Passed (parts_line q)
  parts_passed NoEquals = tt
  parts_passed (Parted n v) = lookup_passes p (normal n) None known every

  line_passed : (l : Bytes) → Passed (line_of l)
  unfolding line_of
  line_passed l = by (is_label l)
    where
      by : (b : Bool) → Passed (elim b [ true ↦ parts_line (parts (drop 2 l)) | false ↦ Plain ])
      by true = parts_passed (parts (drop 2 l))
      by false = tt

  pub label_passed : (l : Bytes) (x : Label) (v : Bytes) → line_of l ≡ Labelled x v → p x ≡ true
  label_passed l x v e = rw e at (line_passed l)

-- A TEST OF EACH AGAINST THOSE BEFORE IT is the test of all pairs, over any relation
module _ {A : Type 0} (r : A → A → Bool) where
  unfoldable pub each_apart : (before : List A) → List A → Bool
  each_apart before [] = true
  each_apart before (x ∷ xs) = not (any (λ y. r y x) before) && each_apart (x ∷ before) xs

  apart_shuffle : (m a b c : Bool) → (not m && not ((a || b) || c)) ≡ not ((m || b) || (a || c))
  apart_shuffle true a b c = refl
  apart_shuffle false true true c = refl
  apart_shuffle false true false c = refl
  apart_shuffle false false b c = refl

  apart_from : (before xs : List A) → each_apart before xs ≡ not (any (λ x. any (λ y. r y x) before) xs || pairs r xs)
  unfolding each_apart any pairs
  apart_from before [] = refl
  apart_from before (x ∷ xs) =
      ap (λ (t : Bool). not (any (λ y. r y x) before) && t) (apart_from (x ∷ before) xs ∙ ap (λ (t : Bool). not (t || pairs r xs)) (any_or (r x) (λ z. any (λ y. r y z) before) xs))
      ∙ apart_shuffle (any (λ y. r y x) before) (any (r x) xs) (any (λ z. any (λ y. r y z) before) xs) (pairs r xs)

  pub apart_pairs : (xs : List A) → each_apart [] xs ≡ not (pairs r xs)
  apart_pairs xs = apart_from [] xs ∙ ap (λ (t : Bool). not (t || pairs r xs)) (nothing xs)
    where
      nothing : (ys : List A) → any (λ x. any (λ y. r y x) []) ys ≡ false
      nothing [] = any_nil _
      nothing (y ∷ ys) = any_cons (λ x. any (λ z. r z x) []) y ys ∙ or_neither _ _ (any_nil _) (nothing ys)

pub nil_append : {A : Type 0} (xs ys : List A) → is_nil ys ≡ false → is_nil (xs ++ ys) ≡ false
nil_append [] ys h = h
nil_append (x ∷ xs) ys h = refl

pub append_some : {A : Type 0} (xs ys : List A) → is_nil xs ≡ false → is_nil (xs ++ ys) ≡ false
append_some [] ys h = torn true refl h
append_some (x ∷ xs) ys h = refl

module _ (k : ℕ) where
  -- THE FIRST LINE
  titled_later : (st : State) (ls : List Bytes) → is_nil st.seen ≡ false → along k titled_at st ls ≡ true
  unfolding along
  titled_later st [] h = refl
  titled_later st (l ∷ ls) h = and_both (titled_at st l) _ (ap (λ (t : Bool). not (t && not (title_line l))) h) (titled_later (after k st l) ls (ap is_nil (after_seen k st l) ∙ nil_append (label_on (line_of l)) st.seen h))

  title_labelled : (line : Line) → has_code 1 line ≡ true → is_nil (label_on line) ≡ false
  title_labelled Plain h = torn false h refl
  title_labelled Unparted h = torn false h refl
  title_labelled (Labelled x v) h = let q : 1 ≡ x.code = eqb-true 1 x.code h in rw (sym q)

  pub titled_first : (l : Bytes) (ls : List Bytes) → along k titled_at start (l ∷ ls) ≡ title_line l
  unfolding along start title_line
  titled_first l ls = by (has_code 1 (line_of l)) refl
    where
      by : (b : Bool) → has_code 1 (line_of l) ≡ b → (not (not (has_code 1 (line_of l))) && along k titled_at (after k start l) ls) ≡ has_code 1 (line_of l)
      by true e = rw e (titled_later (after k start l) ls (ap is_nil (after_seen k start l) ∙ append_some (label_on (line_of l)) [] (title_labelled (line_of l) e)))
      by false e = rw e

  -- THE ORDER OF THE LABELS
  abbrev sane : Label → Bool
  sane y = not (eqb y.code 0) && leb y.low 10

  abbrev low : Label → Bool
  low y = leb y.low 10 && (not (eqb y.code 0) || eqb y.high 10)

  label_low : (l : Bytes) (x : Label) (v : Bytes) → line_of l ≡ Labelled x v → low x ≡ true
  unfolding known all label
  label_low = label_passed low refl refl

  skipped_placed : (x : Label) → eqb x.code 0 ≡ true → eqb x.high 10 ≡ true → (seen : List Label) → all sane seen ≡ true → misplaced seen x ≡ false
  unfolding misplaced any
  skipped_placed x e f [] h = refl
  skipped_placed x e f (y ∷ seen) h =
      let p : (sane y ≡ true) × (all sane seen ≡ true) = all_parts sane y seen h in
      let q : (not (eqb y.code 0) ≡ true) × (leb y.low 10 ≡ true) = and_parts _ _ p.0 in
      or_neither _ _
      (or_neither _ _ (ap (eqb y.code) (eqb-true x.code 0 e) ∙ not-true _ q.0) (le-ltb x.high y.low (omega (arith, leb-true y.low 10 q.1, eqb-true x.high 10 f))))
      (skipped_placed x e f seen p.1)

  noted_sane : (x : Label) → leb x.low 10 ≡ true → (seen : List Label) → all sane seen ≡ true → all sane (noted x.code x [] ++ seen) ≡ true
  noted_sane x e seen h = by (eqb x.code 0) refl
    where
      by : (b : Bool) → eqb x.code 0 ≡ b → all sane (elim b as (λ (t : Bool). List Label) [ true ↦ [] | false ↦ x ∷ [] ] ++ seen) ≡ true
      by true f = h
      by false f = all_both sane x seen (and_both _ _ (ap not f) e) h

  abbrev pub placed : State → Bytes → Bool
  placed st l = placed_at st (line_of l)

  placed_cons : (seen : List Label) (y : Label) (ys : List Label) → (not (misplaced seen y) && each_apart out_of_order (y ∷ seen) ys) ≡ each_apart out_of_order seen (y ∷ ys)
  unfolding misplaced each_apart
  placed_cons seen y ys = refl

  placed_line : (st : State) (l : Bytes) (ls : List Bytes) → all sane st.seen ≡ true → (line : Line) → line_of l ≡ line
      → (all sane (label_on line ++ st.seen) ≡ true) × ((placed_at st line && each_apart out_of_order (label_on line ++ st.seen) (labels ls)) ≡ each_apart out_of_order st.seen (label_on line ++ labels ls))
  placed_line st l ls h Plain e = (h, refl)
  placed_line st l ls h Unparted e = (h, refl)
  placed_line st l ls h (Labelled x v) e =
      let p : (leb x.low 10 ≡ true) × ((not (eqb x.code 0) || eqb x.high 10) ≡ true) = and_parts (leb x.low 10) (not (eqb x.code 0) || eqb x.high 10) (label_low l x v e) in
      (noted_sane x p.0 st.seen h, by (eqb x.code 0) refl p.1)
    where
      by : (b : Bool) → eqb x.code 0 ≡ b → (not b || eqb x.high 10) ≡ true
          → (not (misplaced st.seen x) && each_apart out_of_order (elim b as (λ (t : Bool). List Label) [ true ↦ [] | false ↦ x ∷ [] ] ++ st.seen) (labels ls))
          ≡ each_apart out_of_order st.seen (elim b as (λ (t : Bool). List Label) [ true ↦ [] | false ↦ x ∷ [] ] ++ labels ls)
      by true f g = ap (λ (t : Bool). not t && each_apart out_of_order st.seen (labels ls)) (skipped_placed x f g st.seen h)
      by false f g = placed_cons st.seen x (labels ls)

  pub placed_is : (st : State) (ls : List Bytes) → all sane st.seen ≡ true → along k placed st ls ≡ each_apart out_of_order st.seen (labels ls)
  unfolding along each_apart flat
  placed_is st [] h = refl
  placed_is st (l ∷ ls) h =
      let p : (all sane (label_on (line_of l) ++ st.seen) ≡ true)
      × ((placed st l && each_apart out_of_order (label_on (line_of l) ++ st.seen) (labels ls)) ≡ each_apart out_of_order st.seen (label_on (line_of l) ++ labels ls)) = placed_line st l ls h (line_of l) refl in
      let q : (after k st l).seen ≡ label_on (line_of l) ++ st.seen = after_seen k st l in
      ap (λ (t : Bool). placed st l && t) (placed_is (after k st l) ls (ap (all sane) q ∙ p.0) ∙ ap (λ (seen : List Label). each_apart out_of_order seen (labels ls)) q) ∙ p.1

  pub placed_ordered : (ls : List Bytes) → along k placed start ls ≡ not (pairs out_of_order (labels ls))
  unfolding start
  placed_ordered ls = placed_is start ls (all_nil sane) ∙ apart_pairs out_of_order (labels ls)

  -- END, and behind it only blanks
  abbrev ends : Label → Bool
  ends x = (over x.holds && eqb 13 x.code) || (not (over x.holds) && not (eqb 13 x.code))

  ends_same : (a b : Bool) → ((a && b) || (not a && not b)) ≡ true → a ≡ b
  ends_same true true h = refl
  ends_same true false h = torn false h refl
  ends_same false true h = torn false h refl
  ends_same false false h = refl

  label_ends : (l : Bytes) (x : Label) (v : Bytes) → line_of l ≡ Labelled x v → ends x ≡ true
  unfolding known all label
  label_ends = label_passed ends refl refl

  pub over_label : (l : Bytes) (x : Label) (v : Bytes) → line_of l ≡ Labelled x v → over x.holds ≡ eqb 13 x.code
  over_label l x v e = ends_same (over x.holds) (eqb 13 x.code) (label_ends l x v e)

  over_line : (h : Holds) (l : Bytes) → over h ≡ false → (line : Line) → line_of l ≡ line → over (runs_on h line) ≡ has_code 13 line
  over_line h l o Plain e = o
  over_line h l o Unparted e = o
  over_line h l o (Labelled x v) e = over_label l x v e

  pub over_after : (st : State) (l : Bytes) → over st.running ≡ false → over (after k st l).running ≡ end_line l
  unfolding end_line
  over_after st l o = ap over (after_running k st l) ∙ over_line st.running l o (line_of l) refl

  -- a blank line leaves the record that runs
  pub blank_running : (st : State) (l : Bytes) → all gap l ≡ true → (after k st l).running ≡ st.running
  blank_running st l h = after_running k st l ∙ ap (runs_on st.running) (blank_plain l h)

  pub closed_behind : (st : State) (ls : List Bytes) → over st.running ≡ true → along k closed_at st ls ≡ all (all gap) ls
  unfolding along all
  closed_behind st [] o = refl
  closed_behind st (l ∷ ls) o = by (all gap l) refl (closed_behind (after k st l) ls)
    where
      by : (b : Bool) → all gap l ≡ b → (over (after k st l).running ≡ true → along k closed_at (after k st l) ls ≡ all (all gap) ls) → ((not (over st.running) || all gap l) && along k closed_at (after k st l) ls) ≡ (all gap l && all (all gap) ls)
      by true e ih = rw (o, e) (ih (ap over (blank_running st l e) ∙ o))
      by false e ih = rw (o, e)

  pub closed_is : (st : State) (ls : List Bytes) → over st.running ≡ false → along k closed_at st ls ≡ all (all gap) (behind_end ls)
  unfolding along behind_end
  closed_is st [] o = sym (all_nil (all gap))
  closed_is st (l ∷ ls) o = rw o (by (end_line l) refl (closed_is (after k st l) ls))
    where
      by : (b : Bool) → end_line l ≡ b → (over (after k st l).running ≡ false → along k closed_at (after k st l) ls ≡ all (all gap) (behind_end ls)) → along k closed_at (after k st l) ls ≡ all (all gap) (elim b as (λ (t : Bool). List Bytes) [ true ↦ ls | false ↦ behind_end ls ])
      by true e ih = closed_behind (after k st l) ls (over_after st l o ∙ e)
      by false e ih = ih (over_after st l o ∙ e)

  -- each line's own rules
  line_told : (p : Told → Bool) (h : Holds) (l : Bytes) (line : Line) → on_line (λ g v. p (Value g v)) (λ g b. p (Further g b)) h l line ≡ all p (told_as h l line)
  line_told p h l Plain = sym (all_one p (Further h l))
  line_told p h l Unparted = sym (all_nil p)
  line_told p h l (Labelled x v) = sym (all_one p (Value x.holds v))

  abbrev pub own_test : Told → Bool
  own_test (Value h v) = value_test k h v
  own_test (Further h l) = further_rule k h l

  pub own_is : (st : State) (ls : List Bytes) → along k (λ s l. on_line (value_test k) (further_rule k) s.running l (line_of l)) st ls ≡ all own_test (told st.running ls)
  unfolding along told
  own_is st [] = sym (all_nil own_test)
  own_is st (l ∷ ls) =
      ap (λ (t : Bool). on_line (value_test k) (further_rule k) st.running l (line_of l) && t) (own_is (after k st l) ls ∙ ap (λ (h : Holds). all own_test (told h ls)) (after_running k st l))
      ∙ ap (λ (t : Bool). t && all own_test (told (runs_on st.running (line_of l)) ls)) (line_told own_test st.running l (line_of l))
      ∙ sym (all_append own_test (told_as st.running l (line_of l)) (told (runs_on st.running (line_of l)) ls))
