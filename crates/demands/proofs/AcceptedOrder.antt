-- What the order of the labels gives: the lists stand behind the atoms, so that the atoms listed by then are all atoms, and END is the last record, so
-- that the state at END is the state at the end. Serves "accepted exactly when"; document 01, "Lines and labels". Assumes nothing.
use Prim.Native.Nat.{ℕ, ◌+◌}
use mathlib.Core.Path.{◌≡◌, refl, sym, ap, ◌∙◌}
use mathlib.Core.Bool.{Bool, true, false, not, ◌&&◌, ◌||◌, and-true}
use mathlib.Core.List.{List, [], ◌∷◌, ◌++◌}
use native.Mathlib.Nat.{add-zero}
use native.Mathlib.Omega.{arith}
use lib.ListN.{length}
use lib.Dec.{eqb, ltb, leb}
use borrow.Author.Tests.{eqb-true, ltb-false, lt-leb, not-true}
use Rattle.lists.specs.Lists.{all, any, flat}
use Rattle.lists.proofs.Bools.{torn, never, always, and_parts, and_both, or_parts, or_left, or_right, or_other}
use Rattle.lists.proofs.ListLaws.{all_nil, all_append, all_parts, any_nil, any_one, any_append, any_imply}
use Rattle.lists.proofs.PartLaws.{flat_nil, flat_one, flat_cons}
use Rattle.format.specs.Bytes.{Bytes, within, gap}
use Rattle.format.specs.Labels.{ListOf, Holds, Text, Version, Formula, BlockId, Atoms, Rows, Xyz, Handedness, End, Skipped, Label, label, known, misplaced, Line, Plain, Unparted, Labelled, line_of, has_code, end_line}
use Rattle.format.specs.Rows.{Row, AtomRow}
use Rattle.format.specs.Reading.{State, past, opened, over, atom_count}
use Rattle.demands.specs.Accepted.{Told, Value, Further, told_as, runs_on, told, label_on, labels}
use Rattle.demands.proofs.AcceptedContents.{atoms_held, behind_atoms, atom_in, atom_on, row_in, row_of}
use Rattle.demands.proofs.AcceptedAfter.{after_value, after_further, after_as, after, afters}
use Rattle.demands.proofs.AcceptedSteps.{along, placed_at, closed_at, complete, end_at, blank_plain}
use Rattle.demands.proofs.AcceptedState.{after_running, after_seen}
use Rattle.demands.proofs.AcceptedLines.{label_passed, placed, over_after, closed_behind, over_label}
use Rattle.demands.proofs.AcceptedRows.{told_nil, told_after, count_after, row_test}

-- WHICH RECORDS HAVE ATOMS, WHICH HAVE ROWS
atoms_none : (h : Holds) (b : Bytes) → atoms_held h ≡ false → atom_in h b ≡ []
atoms_none (Text i) b e = refl
atoms_none Version b e = refl
atoms_none Formula b e = refl
atoms_none BlockId b e = refl
atoms_none Atoms b e = torn true refl e
atoms_none (Rows l) b e = refl
atoms_none (Xyz x) b e = refl
atoms_none Handedness b e = refl
atoms_none End b e = refl
atoms_none Skipped b e = refl

rows_none : (l : ListOf) (h : Holds) (b : Bytes) → behind_atoms h ≡ false → row_in l h b ≡ []
rows_none l (Text i) b e = refl
rows_none l Version b e = refl
rows_none l Formula b e = refl
rows_none l BlockId b e = refl
rows_none l Atoms b e = refl
rows_none l (Rows m) b e = torn true refl e
rows_none l (Xyz x) b e = refl
rows_none l Handedness b e = refl
rows_none l End b e = refl
rows_none l Skipped b e = refl

rows_no_atoms : (h : Holds) → behind_atoms h ≡ true → atoms_held h ≡ false
rows_no_atoms (Text i) e = refl
rows_no_atoms Version e = refl
rows_no_atoms Formula e = refl
rows_no_atoms BlockId e = refl
rows_no_atoms Atoms e = torn false e refl
rows_no_atoms (Rows l) e = refl
rows_no_atoms (Xyz x) e = refl
rows_no_atoms Handedness e = refl
rows_no_atoms End e = refl
rows_no_atoms Skipped e = refl

line_atoms : (h : Holds) (b : Bytes) (line : Line) → atoms_held (runs_on h line) ≡ false → flat atom_on (told_as h b line) ≡ []
line_atoms h b Plain e = flat_one atom_on (Further h b) ∙ atoms_none h b e
line_atoms h b Unparted e = flat_nil atom_on
line_atoms h b (Labelled x v) e = flat_one atom_on (Value x.holds v) ∙ atoms_none x.holds v e

line_given : {A : Type 0} (f : Told → List A) → ((h : Holds) (b : Bytes) → behind_atoms h ≡ false → (f (Value h b) ≡ []) × (f (Further h b) ≡ []))
    → (h : Holds) (b : Bytes) (line : Line) → behind_atoms (runs_on h line) ≡ false → flat f (told_as h b line) ≡ []
line_given f None h b Plain e = flat_one f (Further h b) ∙ (None h b e).1
line_given f None h b Unparted e = flat_nil f
line_given f None h b (Labelled x v) e = flat_one f (Value x.holds v) ∙ (None x.holds v e).0

-- WHAT THE KNOWN LABELS SAY of the records they start
atoms_high : (l : Bytes) (x : Label) (v : Bytes) → line_of l ≡ Labelled x v → (not (atoms_held x.holds) || eqb x.high 6) ≡ true
unfolding known all label
atoms_high = label_passed (λ x. not (atoms_held x.holds) || eqb x.high 6) refl refl

rows_low : (l : Bytes) (x : Label) (v : Bytes) → line_of l ≡ Labelled x v → (not (behind_atoms x.holds) || (leb 7 x.low && not (eqb x.code 0))) ≡ true
unfolding known all label
rows_low = label_passed (λ x. not (behind_atoms x.holds) || (leb 7 x.low && not (eqb x.code 0))) refl refl

-- a label that is not unknown is among the seen
pub noted_some : (p : Label → Bool) (x : Label) (v : Bytes) → eqb x.code 0 ≡ false → p x ≡ true → any p (label_on (Labelled x v)) ≡ true
noted_some p x v e f = ap (λ (b : Bool). any p (elim b as (λ (t : Bool). List Label) [ true ↦ [] | false ↦ x ∷ [] ])) e ∙ any_one p x ∙ f

abbrev late : List Label → Bool
late seen = any (λ y. leb 7 y.low) seen

abbrev pub code_seen : ℕ → List Label → Bool
code_seen c seen = any (λ y. eqb y.code c) seen

late_misplaced : (seen : List Label) (x : Label) → late seen ≡ true → eqb x.high 6 ≡ true → misplaced seen x ≡ true
unfolding misplaced
late_misplaced seen x h e = always (misplaced seen x) (λ f. torn (late seen) h (any_imply (λ y. eqb y.code x.code || ltb x.high y.low) (λ y. leb 7 y.low) below seen f))
  where
    below : (y : Label) → (eqb y.code x.code || ltb x.high y.low) ≡ false → leb 7 y.low ≡ false
    below y f = lt-leb 7 y.low (omega (arith, ltb-false x.high y.low (or_parts (eqb y.code x.code) (ltb x.high y.low) f).1, eqb-true x.high 6 e))

-- a label whose code has been seen is out of order
pub code_misplaced : (c : ℕ) (seen : List Label) (x : Label) → code_seen c seen ≡ true → eqb x.code c ≡ true → misplaced seen x ≡ true
unfolding misplaced
code_misplaced c seen x h e = always (misplaced seen x) (λ f. torn (code_seen c seen) h (any_imply (λ y. eqb y.code x.code || ltb x.high y.low) (λ y. eqb y.code c) other seen f))
  where
    other : (y : Label) → (eqb y.code x.code || ltb x.high y.low) ≡ false → eqb y.code c ≡ false
    other y f = ap (eqb y.code) (sym (eqb-true x.code c e)) ∙ (or_parts (eqb y.code x.code) (ltb x.high y.low) f).0

module _ (k : ℕ) where
  pub seen_later : (p : Label → Bool) (st : State) (l : Bytes) → any p st.seen ≡ true → any p (after k st l).seen ≡ true
  seen_later p st l h = ap (any p) (after_seen k st l) ∙ any_append p (label_on (line_of l)) st.seen ∙ or_right (any p (label_on (line_of l))) (any p st.seen) h

  pub seen_now : (p : Label → Bool) (st : State) (l : Bytes) → any p (label_on (line_of l)) ≡ true → any p (after k st l).seen ≡ true
  seen_now p st l h = ap (any p) (after_seen k st l) ∙ any_append p (label_on (line_of l)) st.seen ∙ or_left (any p (label_on (line_of l))) (any p st.seen) h

  -- NO ATOM BEHIND A LIST
  runs_late : (st : State) (l : Bytes) (line : Line) → line_of l ≡ line → late st.seen ≡ true → atoms_held st.running ≡ false → placed_at st line ≡ true → atoms_held (runs_on st.running line) ≡ false
  runs_late st l Plain e h a p = a
  runs_late st l Unparted e h a p = a
  runs_late st l (Labelled x v) e h a p = never (atoms_held x.holds) (λ f. torn (misplaced st.seen x) (late_misplaced st.seen x h (high f)) (not-true (misplaced st.seen x) p))
    where
      high : atoms_held x.holds ≡ true → eqb x.high 6 ≡ true
      high f = or_other (not (atoms_held x.holds)) (eqb x.high 6) (atoms_high l x v e) (ap not f)

  atoms_late : (st : State) (ls : List Bytes) → late st.seen ≡ true → atoms_held st.running ≡ false → along k (placed k) st ls ≡ true → flat atom_on (told st.running ls) ≡ []
  unfolding along
  atoms_late st [] h a p = told_nil atom_on st.running
  atoms_late st (l ∷ ls) h a p =
      let q : (placed k st l ≡ true) × (along k (placed k) (after k st l) ls ≡ true) = and_parts (placed k st l) (along k (placed k) (after k st l) ls) p in
      let r : atoms_held (runs_on st.running (line_of l)) ≡ false = runs_late st l (line_of l) refl h a q.0 in
      told_after k atom_on st l ls
      ∙ ap (λ (rs : List AtomRow). rs ++ flat atom_on (told (after k st l).running ls)) (line_atoms st.running l (line_of l) r)
      ∙ atoms_late (after k st l) ls (seen_later (λ y. leb 7 y.low) st l h) (ap atoms_held (after_running k st l) ∙ r) q.1

  -- while a list's record runs a label of a list has been seen
  abbrev pub Follows : State → Type 0
  Follows st = behind_atoms st.running ≡ true → late st.seen ≡ true

  follows_line : (st : State) (l : Bytes) (line : Line) → line_of l ≡ line → Follows st → behind_atoms (runs_on st.running line) ≡ true → (late (label_on line) || late st.seen) ≡ true
  follows_line st l Plain e f h = or_right (late (label_on Plain)) (late st.seen) (f h)
  follows_line st l Unparted e f h = or_right (late (label_on Unparted)) (late st.seen) (f h)
  follows_line st l (Labelled x v) e f h =
      let q : (leb 7 x.low ≡ true) × (not (eqb x.code 0) ≡ true) = and_parts (leb 7 x.low) (not (eqb x.code 0)) (or_other (not (behind_atoms x.holds)) (leb 7 x.low && not (eqb x.code 0)) (rows_low l x v e) (ap not h)) in
      or_left (late (label_on (Labelled x v))) (late st.seen) (noted_some (λ y. leb 7 y.low) x v (not-true (eqb x.code 0) q.1) q.0)

  follows_after : (st : State) (l : Bytes) → Follows st → Follows (after k st l)
  follows_after st l f h =
      ap late (after_seen k st l) ∙ any_append (λ y. leb 7 y.low) (label_on (line_of l)) st.seen
      ∙ follows_line st l (line_of l) refl f (ap behind_atoms (sym (after_running k st l)) ∙ h)

  abbrev pub listed_row : State → Row → Bool
  listed_row st r = all (within 1 (atom_count st)) r.atoms

  -- the atoms listed by then are all atoms
  count_late : (st : State) (ls : List Bytes) → flat atom_on (told st.running ls) ≡ [] → atom_count (afters k st ls) ≡ atom_count st
  unfolding afters
  count_late st [] h = refl
  count_late st (l ∷ ls) h =
      let q : flat atom_on (told_as st.running l (line_of l)) ++ flat atom_on (told (after k st l).running ls) ≡ [] = sym (told_after k atom_on st l ls) ∙ h in
      let r : (flat atom_on (told_as st.running l (line_of l)) ≡ []) × (flat atom_on (told (after k st l).running ls) ≡ []) = neither (flat atom_on (told_as st.running l (line_of l))) (flat atom_on (told (after k st l).running ls)) q in
      count_late (after k st l) ls r.1 ∙ count_after k st l ∙ ap (λ (rs : List AtomRow). atom_count st + length rs) r.0 ∙ add-zero (atom_count st)
    where
      neither : (xs ys : List AtomRow) → xs ++ ys ≡ [] → (xs ≡ []) × (ys ≡ [])
      neither [] ys e = (refl, e)
      neither (x ∷ xs) ys e = let z : ◌≡◌ {A = ℕ} 0 1 = cc in absurd (omega arith)

  -- rows of any kind that stand behind the atoms, each tested against the number of atoms
  module _ {A : Type 0} (f : Told → List A) (None : (h : Holds) (b : Bytes) → behind_atoms h ≡ false → (f (Value h b) ≡ []) × (f (Further h b) ≡ [])) (among : ℕ → A → Bool) where
    abbrev given_at : State → Bytes → List A
    given_at st b = flat f (told_as st.running b (line_of b))

    pub given_listed : (st : State) (ls : List Bytes) → Follows st → along k (placed k) st ls ≡ true
        → along k (λ s b. all (among (atom_count s)) (flat f (told_as s.running b (line_of b)))) st ls ≡ all (among (atom_count (afters k st ls))) (flat f (told st.running ls))
    unfolding along afters
    given_listed st [] g p = sym (ap (all (among (atom_count st))) (told_nil f st.running) ∙ all_nil (among (atom_count st)))
    given_listed st (b ∷ ls) g p =
        let q : (placed k st b ≡ true) × (along k (placed k) (after k st b) ls ≡ true) = and_parts (placed k st b) (along k (placed k) (after k st b) ls) p in
        let n : ℕ = atom_count (afters k (after k st b) ls) in
        ap (λ (t : Bool). all (among (atom_count st)) (given_at st b) && t) (given_listed (after k st b) ls (follows_after st b g) q.1)
        ∙ ap (λ (t : Bool). t && all (among n) (flat f (told (after k st b).running ls))) (here (behind_atoms (runs_on st.running (line_of b))) refl q.1)
        ∙ sym (all_append (among n) (given_at st b) (flat f (told (after k st b).running ls)))
        ∙ ap (all (among n)) (sym (told_after k f st b ls))
      where
        here : (t : Bool) → behind_atoms (runs_on st.running (line_of b)) ≡ t → along k (placed k) (after k st b) ls ≡ true → all (among (atom_count st)) (given_at st b) ≡ all (among (atom_count (afters k (after k st b) ls))) (given_at st b)
        here false e q =
            let r : given_at st b ≡ [] = line_given f None st.running b (line_of b) e in
            ap (all (among (atom_count st))) r ∙ all_nil (among (atom_count st)) ∙ sym (ap (all (among (atom_count (afters k (after k st b) ls)))) r ∙ all_nil (among (atom_count (afters k (after k st b) ls))))
        here true e q =
            let h : behind_atoms (after k st b).running ≡ true = ap behind_atoms (after_running k st b) ∙ e in
            let a : atoms_held (after k st b).running ≡ false = rows_no_atoms (after k st b).running h in
            let n : flat atom_on (told (after k st b).running ls) ≡ [] = atoms_late (after k st b) ls (follows_after st b g h) a q in
            let m : flat atom_on (told_as st.running b (line_of b)) ≡ [] = line_atoms st.running b (line_of b) (rows_no_atoms (runs_on st.running (line_of b)) e) in
            let c : atom_count (afters k (after k st b) ls) ≡ atom_count st =
            count_late (after k st b) ls n ∙ count_after k st b ∙ ap (λ (rs : List AtomRow). atom_count st + length rs) m ∙ add-zero (atom_count st) in
            ap (λ (i : ℕ). all (among i) (given_at st b)) (sym c)

  pub rows_listed : (l : ListOf) (st : State) (ls : List Bytes) → Follows st → along k (placed k) st ls ≡ true
      → along k (row_test k l listed_row) st ls ≡ all (λ r. all (within 1 (atom_count (afters k st ls))) r.atoms) (flat (row_of l) (told st.running ls))
  rows_listed l = given_listed (row_of l) (λ h b e. (rows_none l h b e, rows_none l h b e)) (λ n r. all (within 1 n) r.atoms)

  -- THE LABELS SEEN
  seen_shuffle : (a b c : Bool) → (a || (b || c)) ≡ ((b || a) || c)
  seen_shuffle true true c = refl
  seen_shuffle true false c = refl
  seen_shuffle false true c = refl
  seen_shuffle false false c = refl

  pub seen_any : (p : Label → Bool) (st : State) (ls : List Bytes) → any p (afters k st ls).seen ≡ (any p (labels ls) || any p st.seen)
  unfolding afters
  seen_any p st [] = sym (ap (λ (xs : List Label). any p xs || any p st.seen) (flat_nil (λ l. label_on (line_of l))) ∙ ap (λ (t : Bool). t || any p st.seen) (any_nil p))
  seen_any p st (l ∷ ls) =
      seen_any p (after k st l) ls ∙ ap (λ (xs : List Label). any p (labels ls) || any p xs) (after_seen k st l)
      ∙ ap (λ (t : Bool). any p (labels ls) || t) (any_append p (label_on (line_of l)) st.seen)
      ∙ seen_shuffle (any p (labels ls)) (any p (label_on (line_of l))) (any p st.seen)
      ∙ ap (λ (t : Bool). t || any p st.seen) (sym (any_append p (label_on (line_of l)) (labels ls)))
      ∙ ap (λ (xs : List Label). any p xs || any p st.seen) (sym (flat_cons (λ b. label_on (line_of b)) l ls))

  -- END: behind it nothing changes but the place
  over_further : (h : Holds) (st : State) (l : Bytes) → over h ≡ true → after_further k h st l ≡ st
  over_further (Text i) st l o = torn false o refl
  over_further Version st l o = torn false o refl
  over_further Formula st l o = torn false o refl
  over_further BlockId st l o = torn false o refl
  over_further Atoms st l o = torn false o refl
  over_further (Rows m) st l o = torn false o refl
  over_further (Xyz x) st l o = torn false o refl
  over_further Handedness st l o = torn false o refl
  over_further End st l o = refl
  over_further Skipped st l o = torn false o refl

  over_value : (h : Holds) (st : State) (from : ℕ) (v : Bytes) → over h ≡ true → after_value k h st from v ≡ st
  over_value (Text i) st from v o = torn false o refl
  over_value Version st from v o = torn false o refl
  over_value Formula st from v o = torn false o refl
  over_value BlockId st from v o = torn false o refl
  over_value Atoms st from v o = torn false o refl
  over_value (Rows m) st from v o = torn false o refl
  over_value (Xyz x) st from v o = torn false o refl
  over_value Handedness st from v o = torn false o refl
  over_value End st from v o = refl
  over_value Skipped st from v o = torn false o refl

  blank_after : (st : State) (l : Bytes) → over st.running ≡ true → all gap l ≡ true → after k st l ≡ past l st
  unfolding after
  blank_after st l o h = ap (λ (line : Line). past l (after_as k st l line)) (blank_plain l h) ∙ ap (past l) (over_further st.running st l o)

  abbrev pub ready : State → Bytes → Bool
  ready st l = end_at st (line_of l)

  behind_end_lem : (st : State) (ls : List Bytes) → over st.running ≡ true → all (all gap) ls ≡ true
      → (along k ready st ls ≡ true) × (complete (afters k st ls) ≡ complete st) × (over (afters k st ls).running ≡ true)
  unfolding along afters
  behind_end_lem st [] o h = (refl, refl, o)
  behind_end_lem st (l ∷ ls) o h =
      let q : (all gap l ≡ true) × (all (all gap) ls ≡ true) = all_parts (all gap) l ls h in
      let a : after k st l ≡ past l st = blank_after st l o q.0 in
      let x : (along k ready (after k st l) ls ≡ true) × (complete (afters k (after k st l) ls) ≡ complete (after k st l)) × (over (afters k (after k st l) ls).running ≡ true) =
      behind_end_lem (after k st l) ls (ap (λ (s : State). over s.running) a ∙ o) q.1 in
      (and_both (ready st l) (along k ready (after k st l) ls) (ap (end_at st) (blank_plain l q.0)) x.0, x.1 ∙ ap complete a, x.2)

  end_line_lem : (st : State) (l : Bytes) (line : Line) → line_of l ≡ line → has_code 13 line ≡ true → end_at st line ≡ complete (past l (after_as k st l line))
  end_line_lem st l Plain e h = torn false h refl
  end_line_lem st l Unparted e h = torn false h refl
  end_line_lem st l (Labelled x v) e h =
      let o : over x.holds ≡ true = over_label k l x v e ∙ h in
      ap (λ (t : Bool). not t || complete (opened st x)) o ∙ ap (λ (s : State). complete (past l s)) (sym (over_value x.holds (opened st x) _ v o))

  other_line : (st : State) (l : Bytes) (line : Line) → line_of l ≡ line → has_code 13 line ≡ false → end_at st line ≡ true
  other_line st l Plain e h = refl
  other_line st l Unparted e h = refl
  other_line st l (Labelled x v) e h = ap (λ (t : Bool). not t || complete (opened st x)) (over_label k l x v e ∙ h)

  at_end_line : (st : State) (l : Bytes) → end_line l ≡ true → ready st l ≡ complete (after k st l)
  unfolding end_line after
  at_end_line st l e = end_line_lem st l (line_of l) refl e

  no_end_line : (st : State) (l : Bytes) → end_line l ≡ false → ready st l ≡ true
  unfolding end_line
  no_end_line st l e = other_line st l (line_of l) refl e

  -- the tests of the END line are passed at the end or not at all
  pub end_is : (st : State) (ls : List Bytes) → over st.running ≡ false → along k closed_at st ls ≡ true → any end_line ls ≡ true
      → (along k ready st ls ≡ complete (afters k st ls)) × (over (afters k st ls).running ≡ true)
  unfolding along afters any
  end_is st [] o c h = torn false h refl
  end_is st (l ∷ ls) o c h = by (end_line l) refl h (and_parts (closed_at st l) (along k closed_at (after k st l) ls) c).1 (end_is (after k st l) ls)
    where
      by : (b : Bool) → end_line l ≡ b → (b || any end_line ls) ≡ true → along k closed_at (after k st l) ls ≡ true
          → (over (after k st l).running ≡ false → along k closed_at (after k st l) ls ≡ true → any end_line ls ≡ true → (along k ready (after k st l) ls ≡ complete (afters k (after k st l) ls)) × (over (afters k (after k st l) ls).running ≡ true))
          → ((ready st l && along k ready (after k st l) ls) ≡ complete (afters k (after k st l) ls)) × (over (afters k (after k st l) ls).running ≡ true)
      by true e h c ih =
          let o' : over (after k st l).running ≡ true = over_after k st l o ∙ e in
          let x : (along k ready (after k st l) ls ≡ true) × (complete (afters k (after k st l) ls) ≡ complete (after k st l)) × (over (afters k (after k st l) ls).running ≡ true) =
          behind_end_lem (after k st l) ls o' (sym (closed_behind k (after k st l) ls o') ∙ c) in
          (ap (λ (t : Bool). ready st l && t) x.0 ∙ and-true (ready st l) ∙ at_end_line st l e ∙ sym x.1, x.2)
      by false e h c ih =
          let x : (along k ready (after k st l) ls ≡ complete (afters k (after k st l) ls)) × (over (afters k (after k st l) ls).running ≡ true) = ih (over_after k st l o ∙ e) c h in
          (ap (λ (t : Bool). t && along k ready (after k st l) ls) (no_end_line st l e) ∙ x.0, x.1)

  -- without an END line END is not reached
  pub end_none : (st : State) (ls : List Bytes) → over st.running ≡ false → any end_line ls ≡ false → over (afters k st ls).running ≡ false
  unfolding afters any
  end_none st [] o h = o
  end_none st (l ∷ ls) o h = let q : (end_line l ≡ false) × (any end_line ls ≡ false) = or_parts (end_line l) (any end_line ls) h in end_none (after k st l) ls (over_after k st l o ∙ q.0) q.1
