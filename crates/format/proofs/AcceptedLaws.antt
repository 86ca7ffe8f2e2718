-- What is accepted: a refusal's number is never 0, which says "accepted"; and document 01, demand 3, "No block without an END line is accepted": a record that
-- END starts is started by an END line alone, and a reading is accepted only while that record runs. Assumes nothing.
use Prim.Native.Nat.{ℕ, ◌+◌, ◌-◌, ◌<◌}
use mathlib.Core.Path.{◌≡◌, refl, sym, ap, ◌∙◌}
use mathlib.Core.Bool.{Bool, true, false, not, ◌&&◌, ◌||◌}
use mathlib.Core.List.{List, [], ◌∷◌}
use native.Mathlib.Omega.{arith}
use lib.ListN.{length, drop}
use lib.Dec.{eqb, ltb}
use Rattle.lists.specs.Lists.{is_nil, all, any}
use Rattle.lists.proofs.Bools.{torn}
use Rattle.format.specs.Bytes.{Bytes, same, allowed, cut, is_label}
use Rattle.format.specs.Labels.{Skipped, Label, label, known, lookup, normal, misplaced, Parts, NoEquals, Parted, parts, parts_line, Line, Plain, Unparted, Labelled, line_of, title_line, end_line}
use Rattle.format.specs.Coordinates.{Geometry}
use Rattle.format.specs.Structure.{Structure}
use Rattle.format.specs.Reading.{Rules, State, Turn, Go, Stop, if◌stop◌else◌, over, opened, past, line_turn, line_step, Outcome, Accepted, Refused, ending, read_lines, start, Span, Read, Unread, reading_of, read_block}
use Rattle.format.proofs.ReadingLaws.{read_go, read_stop, read_end, stop_keeps, if_keeps, value_keeps, further_keeps, Went, further, started, step_went, Goes, AcceptedBy, accepted_by}

-- a test that each of some labels and the label of the skipped passes is passed by what is looked up among them
module _ (p : Label → Bool) (n : Bytes) (None : p (label "" Skipped 0 0 10) ≡ true) where
  pub lookup_passes : (xs : List Label) → all p xs ≡ true → p (lookup n xs) ≡ true
  unfolding lookup all
  lookup_passes [] h = None
  lookup_passes (x ∷ xs) h = by (p x) (same n x.name) refl refl h (lookup_passes xs)
    where
      by : (a b : Bool) → p x ≡ a → same n x.name ≡ b → (a && all p xs) ≡ true → (all p xs ≡ true → p (lookup n xs) ≡ true) → p (lookup n (x ∷ xs)) ≡ true
      by true true e f h ih = rw (f, lookup) e
      by true false e f h ih = rw (f, lookup) (ih h)
      by false b e f h ih = torn false h refl

-- only END's record is over
abbrev ends_over : Label → Bool
ends_over x = not (over x.holds) || eqb 13 x.code

known_ends : (n : Bytes) → ends_over (lookup n known) ≡ true
unfolding known all label
known_ends n = lookup_passes ends_over n refl known refl

-- what a label line names is looked up among the known: it passes each test that whatever is looked up there passes
module _ (p : Label → Bool) (passes : (n : Bytes) → p (lookup n known) ≡ true) where
  abbrev Looked : Line → Type 0
  Looked Plain = Unit {0}
  Looked Unparted = Unit {0}
  Looked (Labelled x v) = p x ≡ true

  parts_looked : (x : Parts) → Looked (parts_line x)
  parts_looked NoEquals = tt
  parts_looked (Parted n v) = passes (normal n)

  line_looked : (l : Bytes) → Looked (line_of l)
  unfolding line_of
  line_looked l = by (is_label l)
    where
      by : (b : Bool) → Looked (elim b [ true ↦ parts_line (parts (drop 2 l)) | false ↦ Plain ])
      by true = parts_looked (parts (drop 2 l))
      by false = tt

  pub label_passes : (l : Bytes) (x : Label) (v : Bytes) → line_of l ≡ Labelled x v → p x ≡ true
  label_passes l x v e = rw e at (line_looked l)

pub label_ends : (l : Bytes) (x : Label) (v : Bytes) → line_of l ≡ Labelled x v → over x.holds ≡ true → end_line l ≡ true
unfolding end_line
label_ends l x v e o =
    let q : ends_over x ≡ true = label_passes ends_over known_ends l x v e in
    let r : eqb 13 x.code ≡ true = rw o at q in
    rw e r

module _ (u : Rules) where
  -- lines without an END line do not come to END's record
  pub not_over : (ls : List Bytes) (st last : State) → Goes u st ls last → over st.running ≡ false → any end_line ls ≡ false → over last.running ≡ false
  unfolding any
  not_over [] st last g o h = ap (λ (s : State). over s.running) (sym g) ∙ o
  not_over (l ∷ ls) st last g o h = by (end_line l) refl h (step_went u st l g.0 g.1) (not_over ls (past l g.0) last g.2)
    where
      by : (b : Bool) → end_line l ≡ b → (b || any end_line ls) ≡ false → Went u st l g.0
          → (over g.0.running ≡ false → any end_line ls ≡ false → over last.running ≡ false) → over last.running ≡ false
      by true e h w ih = torn true refl h
      by false e h (further f k) ih = ih (ap over k.running ∙ o) h
      by false e h (started x v f p k) ih = at_label (over x.holds) refl
        where
          at_label : (b : Bool) → over x.holds ≡ b → over last.running ≡ false
          at_label true q = torn (end_line l) (label_ends l x v f q) e
          at_label false q = ih (ap over k.running ∙ q) h

  start_not_over : over start.running ≡ false
  unfolding start
  start_not_over = refl

  pub accepted_end : (ls : List Bytes) (last : State) → read_lines u start ls ≡ Accepted last → any end_line ls ≡ true
  accepted_end ls last h = by (any end_line ls) refl (accepted_by u ls start last h)
    where
      by : (b : Bool) → any end_line ls ≡ b → AcceptedBy u start ls last → any end_line ls ≡ true
      by true e x = e
      by false e x = torn (over last.running) x.over_is (not_over ls start last x.goes start_not_over e)

  pub read_has_end : (b : Bytes) (s : Structure) (spans : List Span) (p : Geometry) → read_block u b ≡ Read s spans p → any end_line (cut b) ≡ true
  unfolding read_block
  read_has_end b s spans p h = by (ltb 32768 (length b)) (read_lines u start (cut b)) refl h
    where
      by : (long : Bool) (o : Outcome) → read_lines u start (cut b) ≡ o → elim long [ true ↦ Unread 2 0 | false ↦ reading_of o ] ≡ Read s spans p → any end_line (cut b) ≡ true
      by true o e h = let z : ◌≡◌ {A = ℕ} 0 1 = cc in absurd (omega arith)
      by false (Accepted last) e h = accepted_end (cut b) last e
      by false (Refused n p) e h = let z : ◌≡◌ {A = ℕ} 0 1 = cc in absurd (omega arith)

  -- REFUSALS: "Accepted is 0"
  module _ (st : State) (l : Bytes) (n : ℕ) where
    line_refuses : (t : Line) → line_turn u st l t ≡ Stop n → 0 < n
    unfolding line_turn
    line_refuses Plain h = (further_keeps st u st.running l).refuses n h
    line_refuses Unparted h = (stop_keeps st 5 (omega arith)).refuses n h
    line_refuses (Labelled x v) h =
        let o : State = opened st x in
        let from : ℕ = st.at + (length l - length v) in
        (if_keeps o (misplaced st.seen x) 6 _ (omega arith) (if_keeps o (over st.running) 17 _ (omega arith) (value_keeps o u x.holds from v))).refuses n h

    pub step_refuses : line_step u st l ≡ Stop n → 0 < n
    unfolding line_step
    step_refuses h = by (not (all allowed l)) (is_nil st.seen && not (title_line l)) h
      where
        by : (m o : Bool) → (if m stop 3 else if o stop 4 else line_turn u st l (line_of l)) ≡ Stop n → 0 < n
        by true o h = (stop_keeps st 3 (omega arith)).refuses n h
        by false true h = (stop_keeps st 4 (omega arith)).refuses n h
        by false false h = line_refuses (line_of l) h

  ending_refuses : (o e : Bool) (st : State) (n p : ℕ) → ending o e st ≡ Refused n p → 0 < n
  ending_refuses true e st n p h = let z : ◌≡◌ {A = ℕ} 0 1 = cc in absurd (omega arith)
  ending_refuses false true st n p h = let q : 4 ≡ n = cc in omega arith
  ending_refuses false false st n p h = let q : 16 ≡ n = cc in omega arith

  pub read_refuses : (ls : List Bytes) (st : State) (n p : ℕ) → read_lines u st ls ≡ Refused n p → 0 < n
  read_refuses [] st n p h = ending_refuses (over st.running) (is_nil st.seen) st n p (sym (read_end u st) ∙ h)
  read_refuses (l ∷ ls) st n p h = by (line_step u st l) refl (λ (next : State). read_refuses ls next n p)
    where
      by : (t : Turn) → line_step u st l ≡ t → ((next : State) → read_lines u next ls ≡ Refused n p → 0 < n) → 0 < n
      by (Go next) e ih = ih (past l next) (sym (read_go u st next l ls e) ∙ h)
      by (Stop m) e ih =
          let q : Refused m st.at ≡ Refused n p = sym (read_stop u st m l ls e) ∙ h in
          let r : m ≡ n = cc in omega (arith, step_refuses st l m e)

  pub block_refuses : (b : Bytes) (n p : ℕ) → read_block u b ≡ Unread n p → 0 < n
  unfolding read_block
  block_refuses b n p h = by (ltb 32768 (length b)) (read_lines u start (cut b)) refl h
    where
      by : (long : Bool) (o : Outcome) → read_lines u start (cut b) ≡ o → elim long [ true ↦ Unread 2 0 | false ↦ reading_of o ] ≡ Unread n p → 0 < n
      by true o e h = let q : 2 ≡ n = cc in omega arith
      by false (Accepted last) e h = let z : ◌≡◌ {A = ℕ} 0 1 = cc in absurd (omega arith)
      by false (Refused m q) e h = let r : m ≡ n = cc in omega (arith, read_refuses (cut b) start m q e)
