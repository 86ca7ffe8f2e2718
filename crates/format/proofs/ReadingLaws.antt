-- The laws of reading line by line: document 01, "The earliest line that breaks a rule decides, and on it the lowest number". First the clauses of a line's
-- step and of the reading, then what a reading keeps, where it stops, and that what is accepted has an END line. Assumes nothing.
use Prim.Native.Nat.{ℕ, ◌+◌, ◌-◌, ◌<◌}
use mathlib.Core.Path.{◌≡◌, refl, sym, ap, ◌∙◌, subst}
use mathlib.Core.Bool.{Bool, true, false, not, ◌&&◌}
use mathlib.Core.Logic.{◌⊎◌, inl, inr}
use mathlib.Core.List.{List, [], ◌∷◌, ◌++◌}
use native.Mathlib.Nat.{add-zero, add_assoc}
use native.Mathlib.Omega.{arith}
use lib.ListN.{length, length-append}
use Rattle.lists.specs.Lists.{is_nil, all, concat}
use Rattle.lists.proofs.PartLaws.{concat_length}
use Rattle.format.specs.Bytes.{Bytes, allowed}
use Rattle.format.specs.Labels.{ListOf, XyzRows, Holds, Xyz, Label, misplaced, Line, Plain, Unparted, Labelled, line_of, title_line}
use Rattle.format.specs.Coordinates.{XyzRow}
use Rattle.format.specs.Structure.{Structure}
use Rattle.format.specs.Reading.{Rules, State, Turn, Go, Stop, if◌stop◌else◌, with_body, past, atom_line, row_line, xyz_line, value_turn, further_turn, over, opened, line_turn, line_step, Accepted, Refused, ending, read_lines}
use Rattle.format.proofs.LeadLaws.{Leads, stop_go, stop_leads, if_leads, atoms_lead, rows_lead, xyz_line_leads, value_leads, further_leads}

-- A LINE'S STEP
module _ (u : Rules) (st : State) (l : Bytes) where
  -- 3 "a byte not allowed"
  pub step_byte : all allowed l ≡ false → line_step u st l ≡ Stop 3
  unfolding line_step
  step_byte e = rw e refl

  -- 4 "first line is no TITLE line"
  pub step_first : all allowed l ≡ true → is_nil st.seen ≡ true → title_line l ≡ false → line_step u st l ≡ Stop 4
  unfolding line_step
  step_first e f g = rw (e, f, g) refl

  pub step_on : all allowed l ≡ true → (is_nil st.seen && not (title_line l)) ≡ false → line_step u st l ≡ line_turn u st l (line_of l)
  unfolding line_step
  step_on e f = rw (e, f) refl

  pub line_plain : line_of l ≡ Plain → line_turn u st l (line_of l) ≡ further_turn u st.running st l
  unfolding line_turn
  line_plain e = rw e refl

  -- 5 "a label line without `=`"
  pub line_unparted : line_of l ≡ Unparted → line_turn u st l (line_of l) ≡ Stop 5
  unfolding line_turn
  line_unparted e = rw e refl

  module _ (x : Label) (v : Bytes) (e : line_of l ≡ Labelled x v) where
    -- 6 "a known label twice or out of order"
    pub line_misplaced : misplaced st.seen x ≡ true → line_turn u st l (line_of l) ≡ Stop 6
    unfolding line_turn
    line_misplaced f = rw (e, f) refl

    -- 17 "a line with a non-blank byte after END"
    pub line_over : misplaced st.seen x ≡ false → over st.running ≡ true → line_turn u st l (line_of l) ≡ Stop 17
    unfolding line_turn
    line_over f g = rw (e, f, g) refl

    pub line_value : misplaced st.seen x ≡ false → over st.running ≡ false →
        line_turn u st l (line_of l) ≡ value_turn u x.holds (opened st x) (st.at + (length l - length v)) v
    unfolding line_turn
    line_value f g = rw (e, f, g) refl

-- THE READING
module _ (u : Rules) (st : State) where
  pub read_go : (next : State) (l : Bytes) (ls : List Bytes) → line_step u st l ≡ Go next → read_lines u st (l ∷ ls) ≡ read_lines u (past l next) ls
  unfolding read_lines
  read_go next l ls e = rw (e, read_lines)

  pub read_stop : (n : ℕ) (l : Bytes) (ls : List Bytes) → line_step u st l ≡ Stop n → read_lines u st (l ∷ ls) ≡ Refused n st.at
  unfolding read_lines
  read_stop n l ls e = rw (e, read_lines)

  pub read_end : read_lines u st [] ≡ ending (over st.running) (is_nil st.seen) st
  unfolding read_lines
  read_end = refl

-- WHAT EVERY TURN KEEPS: the place, the labels seen, the record that runs
pub record Same (st next : State) : Type 0 where
  pub at : next.at ≡ st.at
  pub seen : next.seen ≡ st.seen
  pub running : next.running ≡ st.running

abbrev pub Keeps : State → Turn → Type 0
Keeps st t = Leads (Same st) t

module _ (st : State) where
  alike : Same st st
  alike = record { at = refl; seen = refl; running = refl }

  with_body_lem : (s : Structure) → Same st (with_body st s)
  with_body_lem s = record { at = refl; seen = refl; running = refl }

  pub stop_keeps : (n : ℕ) → 0 < n → Keeps st (Stop n)
  stop_keeps = stop_leads (Same st)

  pub if_keeps : (b : Bool) (n : ℕ) (t : Turn) → 0 < n → Keeps st t → Keeps st (if b stop n else t)
  if_keeps = if_leads (Same st)

  pub atoms_keeps : (k : ℕ) (fs : List Bytes) → Keeps st (atom_line k st fs)
  atoms_keeps = atoms_lead (Same st) st alike with_body_lem

  pub rows_keeps : (l : ListOf) (fs : List Bytes) → Keeps st (row_line l st fs)
  rows_keeps = rows_lead (Same st) st alike with_body_lem

  pub xyz_line_keeps : (fs : List Bytes) → Keeps st (xyz_line st fs)
  xyz_line_keeps fs = xyz_line_leads (Same st) st alike with_body_lem (λ r. record { at = refl; seen = refl; running = refl }) fs

  pub value_keeps : (u : Rules) (h : Holds) (from : ℕ) (v : Bytes) → Keeps st (value_turn u h st from v)
  value_keeps u h from v =
      value_leads (Same st) st alike with_body_lem (λ i t. record { at = refl; seen = refl; running = refl }) (λ es. record { at = refl; seen = refl; running = refl }) (λ n. record { at = refl; seen = refl; running = refl })
      (λ f. record { at = refl; seen = refl; running = refl }) h (λ e. xyz_line_keeps) u from v

  pub further_keeps : (u : Rules) (h : Holds) (l : Bytes) → Keeps st (further_turn u h st l)
  further_keeps u h l =
      further_leads (Same st) st alike with_body_lem (λ i t. record { at = refl; seen = refl; running = refl }) (λ es. record { at = refl; seen = refl; running = refl }) (λ n. record { at = refl; seen = refl; running = refl })
      (λ f. record { at = refl; seen = refl; running = refl }) h (λ e. xyz_line_keeps) u l

-- A LINE THAT GOES ON: no label line, or a label line that starts a record; never one without `=`
pub data Went (u : Rules) (st : State) (l : Bytes) (next : State) : Type 0 where
  further : line_of l ≡ Plain → Same st next → Went u st l next
  started : (x : Label) (v : Bytes) → line_of l ≡ Labelled x v → over st.running ≡ false → Same (opened st x) next → Went u st l next

module _ (u : Rules) (st : State) (l : Bytes) (next : State) where
  line_went : (t : Line) → line_of l ≡ t → line_turn u st l t ≡ Go next → Went u st l next
  unfolding line_turn
  line_went Plain e h = further e ((further_keeps st u st.running l).gone next h)
  line_went Unparted e h = stop_go 5 next h
  line_went (Labelled x v) e h = by (misplaced st.seen x) (over st.running) refl h
    where
      by : (m o : Bool) → over st.running ≡ o
          → (if m stop 6 else if o stop 17 else value_turn u x.holds (opened st x) (st.at + (length l - length v)) v) ≡ Go next → Went u st l next
      by true o f h = stop_go 6 next h
      by false true f h = stop_go 17 next h
      by false false f h = started x v e f ((value_keeps (opened st x) u x.holds (st.at + (length l - length v)) v).gone next h)

  pub step_went : line_step u st l ≡ Go next → Went u st l next
  unfolding line_step
  step_went h = by (not (all allowed l)) (is_nil st.seen && not (title_line l)) h
    where
      by : (m o : Bool) → (if m stop 3 else if o stop 4 else line_turn u st l (line_of l)) ≡ Go next → Went u st l next
      by true o h = stop_go 3 next h
      by false true h = stop_go 4 next h
      by false false h = line_went (line_of l) refl h

  -- the place is moved by the reading, not by the line's step
  pub step_at : line_step u st l ≡ Go next → next.at ≡ st.at
  step_at h = by (step_went h)
    where
      by : Went u st l next → next.at ≡ st.at
      by (further e k) = k.at
      by (started x v e o k) = k.at

-- THE ROWS OF XYZ stay, or there is one more, and XYZ runs
abbrev pub Grown : (st next : State) → Type 0
Grown st next = (next.geometry.rows ≡ st.geometry.rows) ⊎ ((next.running ≡ Xyz XyzRows) × ((r : XyzRow) × (next.geometry.rows ≡ r ∷ st.geometry.rows)))

module _ (st : State) (h : Holds) (e : st.running ≡ h) where
  line_grown : h ≡ Xyz XyzRows → (fs : List Bytes) → Leads (Grown st) (xyz_line st fs)
  line_grown f fs = xyz_line_leads (Grown st) st (inl refl) (λ s. inl refl) (λ r. inr (e ∙ f, (r, refl))) fs

  value_grown : (u : Rules) (from : ℕ) (v : Bytes) → Leads (Grown st) (value_turn u h st from v)
  value_grown = value_leads (Grown st) st (inl refl) (λ s. inl refl) (λ i t. inl refl) (λ es. inl refl) (λ n. inl refl) (λ f. inl refl) h line_grown

  further_grown : (u : Rules) (l : Bytes) → Leads (Grown st) (further_turn u h st l)
  further_grown = further_leads (Grown st) st (inl refl) (λ s. inl refl) (λ i t. inl refl) (λ es. inl refl) (λ n. inl refl) (λ f. inl refl) h line_grown

-- a line's step leads where its turn does
module _ (R : State → Type 0) (u : Rules) (st : State) (l : Bytes) (plain : Leads R (further_turn u st.running st l))
    (labelled : (x : Label) (v : Bytes) → Leads R (value_turn u x.holds (opened st x) (st.at + (length l - length v)) v)) where
  turn_leads : (t : Line) → Leads R (line_turn u st l t)
  unfolding line_turn
  turn_leads Plain = plain
  turn_leads Unparted = stop_leads R 5 (omega arith)
  turn_leads (Labelled x v) = if_leads R (misplaced st.seen x) 6 _ (omega arith) (if_leads R (over st.running) 17 _ (omega arith) (labelled x v))

  pub step_leads : Leads R (line_step u st l)
  unfolding line_step
  step_leads = if_leads R (not (all allowed l)) 3 _ (omega arith) (if_leads R (is_nil st.seen && not (title_line l)) 4 _ (omega arith) (turn_leads (line_of l)))

pub step_grown : (u : Rules) (st : State) (l : Bytes) (next : State) → line_step u st l ≡ Go next → Grown st next
step_grown u st l next e =
    (step_leads (Grown st) u st l (further_grown st st.running refl u l) (λ x v. value_grown (opened st x) x.holds refl u (st.at + (length l - length v)) v)).gone next e

nil_at : (at : ℕ) → at ≡ at + length {A = ℕ} (concat [])
unfolding concat
nil_at at = sym (add-zero at)

-- LINES THAT ALL GO ON, from a state to a state
abbrev pub Goes : Rules → State → List Bytes → State → Type 0
Goes u st [] last = st ≡ last
Goes u st (l ∷ ls) last = (next : State) × (line_step u st l ≡ Go next) × Goes u (past l next) ls last

module _ (u : Rules) where
  pub goes_read : (ls ms : List Bytes) (st last : State) → Goes u st ls last → read_lines u st (ls ++ ms) ≡ read_lines u last ms
  goes_read [] ms st last g = ap (λ (s : State). read_lines u s ms) g
  goes_read (l ∷ ls) ms st last g = read_go u st g.0 l (ls ++ ms) g.1 ∙ goes_read ls ms (past l g.0) last g.2

  pub goes_at : (ls : List Bytes) (st last : State) → Goes u st ls last → last.at ≡ st.at + length (concat ls)
  unfolding concat
  goes_at [] st last g = ap (λ (s : State). s.at) (sym g) ∙ sym (add-zero st.at)
  goes_at (l ∷ ls) st last g =
      goes_at ls (past l g.0) last g.2
      ∙ ap (λ (n : ℕ). n + length l + length (concat ls)) (step_at u st l g.0 g.1)
      ∙ add_assoc st.at (length l) (length (concat ls)) ∙ ap (λ (n : ℕ). st.at + n) (sym (length-append l (concat ls)))

  -- WHAT IS ACCEPTED: all lines go, and the END line has been read
  pub record AcceptedBy (st : State) (ls : List Bytes) (last : State) : Type 0 where
    pub goes : Goes u st ls last
    pub over_is : over last.running ≡ true

  ending_over : (o e : Bool) (st last : State) → ending o e st ≡ Accepted last → (st ≡ last) × (o ≡ true)
  ending_over true e st last h = (cc, refl)
  ending_over false true st last h = absurd (let z : ◌≡◌ {A = ℕ} 0 1 = cc in omega arith)
  ending_over false false st last h = absurd (let z : ◌≡◌ {A = ℕ} 0 1 = cc in omega arith)

  pub accepted_by : (ls : List Bytes) (st last : State) → read_lines u st ls ≡ Accepted last → AcceptedBy st ls last
  accepted_by [] st last h =
      let q : (st ≡ last) × (over st.running ≡ true) = ending_over (over st.running) (is_nil st.seen) st last (sym (read_end u st) ∙ h) in
      record { goes = q.0; over_is = ap (λ (s : State). over s.running) (sym q.0) ∙ q.1 }
  accepted_by (l ∷ ls) st last h = by (line_step u st l) refl (λ (next : State). accepted_by ls next last)
    where
      by : (t : Turn) → line_step u st l ≡ t → ((next : State) → read_lines u next ls ≡ Accepted last → AcceptedBy next ls last) → AcceptedBy st (l ∷ ls) last
      by (Go next) e ih =
          let x : AcceptedBy (past l next) ls last = ih (past l next) (sym (read_go u st next l ls e) ∙ h) in
          record { goes = (next, e, x.goes); over_is = x.over_is }
      by (Stop n) e ih = let q : Refused n st.at ≡ Accepted last = sym (read_stop u st n l ls e) ∙ h in absurd (let z : ◌≡◌ {A = ℕ} 0 1 = cc in omega arith)

  pub accepted_over : (ls : List Bytes) (st last : State) → read_lines u st ls ≡ Accepted last → over last.running ≡ true
  accepted_over ls st last h = (accepted_by ls st last h).over_is

  -- WHAT READING KEEPS: a fact of the state that every line keeps holds at the end
  module _ (Fact : State → Type 0) (keeps : (st next : State) (l : Bytes) → Fact st → line_step u st l ≡ Go next → Fact (past l next)) where
    pub goes_kept : (ls : List Bytes) (st last : State) → Fact st → Goes u st ls last → Fact last
    goes_kept [] st last f g = subst Fact g f
    goes_kept (l ∷ ls) st last f g = goes_kept ls (past l g.0) last (keeps st g.0 l f g.1) g.2

    pub kept : (ls : List Bytes) (st last : State) → Fact st → read_lines u st ls ≡ Accepted last → Fact last
    kept ls st last f h = goes_kept ls st last f (accepted_by ls st last h).goes

  -- WHERE READING STOPS: the lines before all go on, the line stops with the number, and the place is where the line starts; or all lines go on, and no END
  -- line was read
  pub record StoppedAt (st : State) (ls : List Bytes) (n place : ℕ) : Type 0 where
    pub before : List Bytes
    pub line : Bytes
    pub behind : List Bytes
    pub met : State
    pub lines : ls ≡ before ++ (line ∷ behind)
    pub goes : Goes u st before met
    pub stops : line_step u met line ≡ Stop n
    pub place_is : place ≡ st.at + length (concat before)

  pub record Unended (st : State) (ls : List Bytes) (n place : ℕ) : Type 0 where
    pub met : State
    pub goes : Goes u st ls met
    pub not_over : over met.running ≡ false
    pub ends : ending false (is_nil met.seen) met ≡ Refused n place

  pub stopped : (ls : List Bytes) (st : State) (n place : ℕ) → read_lines u st ls ≡ Refused n place → StoppedAt st ls n place ⊎ Unended st ls n place
  stopped [] st n place h = inr (by (over st.running) refl (sym (read_end u st) ∙ h))
    where
      by : (o : Bool) → over st.running ≡ o → ending o (is_nil st.seen) st ≡ Refused n place → Unended st [] n place
      by true f q = absurd (let z : ◌≡◌ {A = ℕ} 0 1 = cc in omega arith)
      by false f q = record { met = st; goes = refl; not_over = f; ends = q }
  stopped (l ∷ ls) st n place h = by (line_step u st l) refl (λ (next : State). stopped ls next n place)
    where
      on : (next : State) → line_step u st l ≡ Go next → StoppedAt (past l next) ls n place ⊎ Unended (past l next) ls n place → StoppedAt st (l ∷ ls) n place ⊎ Unended st (l ∷ ls) n place
      on next e (inl x) =
          inl (record {
            before = l ∷ x.before;
            line = x.line;
            behind = x.behind;
            met = x.met;
            lines = ap (λ (r : List Bytes). l ∷ r) x.lines;
            goes = (next, e, x.goes);
            stops = x.stops;
            place_is = x.place_is ∙ omega (arith, step_at u st l next e, concat_length l x.before);
          })
      on next e (inr x) = inr (record { met = x.met; goes = (next, e, x.goes); not_over = x.not_over; ends = x.ends })

      by : (t : Turn) → line_step u st l ≡ t → ((next : State) → read_lines u next ls ≡ Refused n place → StoppedAt next ls n place ⊎ Unended next ls n place)
          → StoppedAt st (l ∷ ls) n place ⊎ Unended st (l ∷ ls) n place
      by (Go next) e ih = on next e (ih (past l next) (sym (read_go u st next l ls e) ∙ h))
      by (Stop m) e ih =
          let q : Refused m st.at ≡ Refused n place = sym (read_stop u st m l ls e) ∙ h in
          let a : m ≡ n = cc in
          let b : st.at ≡ place = cc in
          inl (record { before = []; line = l; behind = ls; met = st; lines = refl; goes = refl; stops = e ∙ ap Stop a; place_is = sym b ∙ nil_at st.at })
