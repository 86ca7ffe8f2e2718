-- The three texts after a block's lines: each is what its record holds, from behind the `=` of its label line to the next label line, and stands at that place.
-- Once for the three, over the text's number and its label's code; document 01, "TITLE, ORIGIN and OWNER are texts". Assumes nothing.
use Prim.Native.Nat.{ℕ, ◌+◌, ◌-◌, ◌<◌}
use mathlib.Core.Path.{◌≡◌, refl, sym, ap, ◌∙◌}
use mathlib.Core.Bool.{Bool, true, false, not, ◌||◌}
use Rattle.std.specs.declared.option.Option.{Option}
use Rattle.std.specs.declared.option.Option.TheVariants.{None, Some}
use mathlib.Core.List.{List, [], ◌∷◌, ◌++◌, map, append-nil, append_assoc}
use native.Mathlib.Omega.{arith}
use lib.ListN.{length, get_or, set, length-set, drop}
use lib.Seq.{get_or-set_same, get_or-set_other}
use lib.Dec.{eqb}
use borrow.Author.Tests.{eqb-true, eq-eqb, not-true}
use Rattle.lists.specs.Lists.{all}
use Rattle.lists.proofs.Bools.{torn, and_parts, or_other}
use Rattle.format.specs.Bytes.{Bytes, is_label, fields, strip}
use Rattle.format.specs.Labels.{ListOf, XyzOf, Holds, Text, Version, Formula, BlockId, Atoms, Rows, Xyz, Handedness, End, Skipped, Label, label, known, Parts, NoEquals, Parted, parts, parts_line, Line, Plain, Unparted, Labelled, line_of}
use Rattle.format.specs.Rows.{number, field, atom_shape, row_shape, Row, AtomRow}
use Rattle.format.specs.Formula.{formula_shape, Counted}
use Rattle.format.specs.Reading.{ordered, State, Prose, prose, extended, opened, start}
use Rattle.format.specs.Walking.{until_label, value_of}
use Rattle.demands.specs.Accepted.{runs_on, unparted, label_on, row_on, Yes, yes_shape}
use Rattle.demands.specs.ReadAs.{holds_text, starts_text, text_from}
use Rattle.demands.proofs.AcceptedAfter.{add_all, add_atom, add_row, add_formula, add_id, xyz_after, xyz_after_further, add_yes, after_value, after_further, after_as, after, afters}
use Rattle.demands.proofs.AcceptedSteps.{placed_at, along}
use Rattle.demands.proofs.AcceptedState.{all_same, row_same, xyz_same, xyz_further_same, value_same, further_same, after_running}
use Rattle.demands.proofs.AcceptedLines.{label_passed, placed}
use Rattle.demands.proofs.AcceptedOrder.{noted_some, code_seen, seen_later, seen_now}
use Rattle.demands.proofs.AcceptedOnce.{seen_barred}

-- WHAT IS NO TEXT leaves the texts
module _ (k : ℕ) where
  texts_formula : (st : State) (o : Option (List Counted)) → (add_formula k st o).texts ≡ st.texts
  texts_formula st None = refl
  texts_formula st (Some cs) = refl

  texts_id : (st : State) (o : Option ℕ) → (add_id st o).texts ≡ st.texts
  texts_id st None = refl
  texts_id st (Some n) = refl

  texts_atoms : (st : State) (rs : List AtomRow) → (add_all (add_atom k) st rs).texts ≡ st.texts
  texts_atoms st rs = all_same (λ (s : State). s.texts) (add_atom k) (λ s r. refl) st rs

  texts_list : (m : ListOf) (st : State) (rs : List Row) → (add_all (add_row m) st rs).texts ≡ st.texts
  texts_list m st rs = all_same (λ (s : State). s.texts) (add_row m) (row_same (λ (s : State). s.texts) m (λ s qs. refl)) st rs

  texts_xyz : (x : XyzOf) (st : State) (fs : List Bytes) → (xyz_after x st fs).texts ≡ st.texts
  texts_xyz x st fs = xyz_same (λ (s : State). s.texts) (λ s p. refl) x st fs

  texts_xyz_further : (x : XyzOf) (st : State) (fs : List Bytes) → (xyz_after_further x st fs).texts ≡ st.texts
  texts_xyz_further x st fs = xyz_further_same (λ (s : State). s.texts) (λ s p. refl) x st fs

  texts_yes : (st : State) (ys : List Yes) → (add_all add_yes st ys).texts ≡ st.texts
  texts_yes st ys = all_same (λ (s : State). s.texts) add_yes (λ s y. refl) st ys

-- A TEXT AMONG THE TEXTS
abbrev empty_text : Prose
empty_text = prose 0 []

abbrev text_of : ℕ → State → Prose
text_of i st = get_or st.texts i empty_text

-- a plain line is no label line, and the other way round
parts_label : (p : Parts) → parts_line p ≡ Plain → ⊥
parts_label NoEquals e = let z : ◌≡◌ {A = ℕ} 0 1 = cc in omega arith
parts_label (Parted n v) e = let z : ◌≡◌ {A = ℕ} 0 1 = cc in omega arith

plain_label : (l : Bytes) → line_of l ≡ Plain → is_label l ≡ false
unfolding line_of
plain_label l e = by (is_label l) refl e
  where
    by : (b : Bool) → is_label l ≡ b → elim b as (λ (t : Bool). Line) [ true ↦ parts_line (parts (drop 2 l)) | false ↦ Plain ] ≡ Plain → is_label l ≡ false
    by true f q = absurd (parts_label (parts (drop 2 l)) q)
    by false f q = f

labelled_label : (l : Bytes) (x : Label) (v : Bytes) → line_of l ≡ Labelled x v → is_label l ≡ true
unfolding line_of
labelled_label l x v e = by (is_label l) refl e
  where
    by : (b : Bool) → is_label l ≡ b → elim b as (λ (t : Bool). Line) [ true ↦ parts_line (parts (drop 2 l)) | false ↦ Plain ] ≡ Labelled x v → is_label l ≡ true
    by true f q = f
    by false f q = let z : ◌≡◌ {A = ℕ} 0 1 = cc in absurd (omega arith)

until_plain : (l : Bytes) (ls : List Bytes) → is_label l ≡ false → until_label (l ∷ ls) ≡ l ++ until_label ls
unfolding until_label
until_plain l ls e = rw (e, until_label)

until_label_lem : (l : Bytes) (ls : List Bytes) → is_label l ≡ true → until_label (l ∷ ls) ≡ []
unfolding until_label
until_label_lem l ls e = rw (e, until_label)

until_nil : until_label [] ≡ []
unfolding until_label
until_nil = refl

module _ (k : ℕ) where
  -- THE PLACE and the number of texts
  at_as : (st : State) (l : Bytes) (line : Line) → (after_as k st l line).at ≡ st.at
  at_as st l Plain = further_same (λ (s : State). s.at) (λ s i t. refl) (λ s es. refl) (λ s b. refl) (λ s p. refl) k st.running st l
  at_as st l Unparted = refl
  at_as st l (Labelled x v) = value_same (λ (s : State). s.at) (λ s i t. refl) (λ s es. refl) (λ s b. refl) (λ s p. refl) k x.holds (opened st x) _ v

  after_at : (st : State) (l : Bytes) → (after k st l).at ≡ st.at + length l
  unfolding after
  after_at st l = ap (λ (n : ℕ). n + length l) (at_as st l (line_of l))

  count_as : (st : State) (l : Bytes) (line : Line) → length (after_as k st l line).texts ≡ length st.texts
  count_as st l Plain = further_same (λ (s : State). length s.texts) (λ s i t. length-set s.texts i t) (λ s es. refl) (λ s b. refl) (λ s p. refl) k st.running st l
  count_as st l Unparted = refl
  count_as st l (Labelled x v) = value_same (λ (s : State). length s.texts) (λ s i t. length-set s.texts i t) (λ s es. refl) (λ s b. refl) (λ s p. refl) k x.holds (opened st x) _ v

  after_count : (st : State) (l : Bytes) → length (after k st l).texts ≡ length st.texts
  unfolding after
  after_count st l = count_as st l (line_of l)

  pub afters_count : (st : State) (ls : List Bytes) → length (afters k st ls).texts ≡ length st.texts
  unfolding afters
  afters_count st [] = refl
  afters_count st (l ∷ ls) = afters_count (after k st l) ls ∙ after_count st l

  module _ (i : ℕ) where
    -- ONE LINE: the value of the text's own label line, a further line of its record, any other line
    value_here : (h : Holds) (st : State) (from : ℕ) (v : Bytes) → i < length st.texts → holds_text i h ≡ true → text_of i (after_value k h st from v) ≡ prose from v
    value_here (Text j) st from v n e = let q : i ≡ j = eqb-true i j e in ap (λ (m : ℕ). get_or (set st.texts m (prose from v)) i empty_text) (sym q) ∙ get_or-set_same st.texts i (prose from v) empty_text n
    value_here Version st from v n e = torn false e refl
    value_here Formula st from v n e = torn false e refl
    value_here BlockId st from v n e = torn false e refl
    value_here Atoms st from v n e = torn false e refl
    value_here (Rows m) st from v n e = torn false e refl
    value_here (Xyz x) st from v n e = torn false e refl
    value_here Handedness st from v n e = torn false e refl
    value_here End st from v n e = torn false e refl
    value_here Skipped st from v n e = torn false e refl

    further_here : (h : Holds) (st : State) (l : Bytes) → i < length st.texts → holds_text i h ≡ true → text_of i (after_further k h st l) ≡ extended (text_of i st) l
    further_here (Text j) st l n e =
        let q : i ≡ j = eqb-true i j e in
        ap (λ (m : ℕ). get_or (set st.texts m (extended (get_or st.texts m empty_text) l)) i empty_text) (sym q) ∙ get_or-set_same st.texts i (extended (text_of i st) l) empty_text n
    further_here Version st l n e = torn false e refl
    further_here Formula st l n e = torn false e refl
    further_here BlockId st l n e = torn false e refl
    further_here Atoms st l n e = torn false e refl
    further_here (Rows m) st l n e = torn false e refl
    further_here (Xyz x) st l n e = torn false e refl
    further_here Handedness st l n e = torn false e refl
    further_here End st l n e = torn false e refl
    further_here Skipped st l n e = torn false e refl

    apart : (j : ℕ) → eqb i j ≡ false → i ≡ j → ⊥
    apart j e q = torn (eqb i j) (eq-eqb i j q) e

    value_other : (h : Holds) (st : State) (from : ℕ) (v : Bytes) → holds_text i h ≡ false → text_of i (after_value k h st from v) ≡ text_of i st
    value_other (Text j) st from v e = get_or-set_other st.texts j i (prose from v) empty_text (apart j e)
    value_other Version st from v e = refl
    value_other Formula st from v e = ap (λ (ts : List Prose). get_or ts i empty_text) (texts_formula k st (formula_shape (strip v)))
    value_other BlockId st from v e = ap (λ (ts : List Prose). get_or ts i empty_text) (texts_id k st (number (field 0 (fields (strip v)))))
    value_other Atoms st from v e = ap (λ (ts : List Prose). get_or ts i empty_text) (texts_atoms k st (row_on atom_shape (fields (strip v))))
    value_other (Rows m) st from v e = ap (λ (ts : List Prose). get_or ts i empty_text) (texts_list k m st (map ordered (row_on (row_shape m) (fields (strip v)))))
    value_other (Xyz x) st from v e = ap (λ (ts : List Prose). get_or ts i empty_text) (texts_xyz k x st (fields (strip v)))
    value_other Handedness st from v e = ap (λ (ts : List Prose). get_or ts i empty_text) (texts_yes k st (row_on yes_shape (fields (strip v))))
    value_other End st from v e = refl
    value_other Skipped st from v e = refl

    further_other : (h : Holds) (st : State) (l : Bytes) → holds_text i h ≡ false → text_of i (after_further k h st l) ≡ text_of i st
    further_other (Text j) st l e = get_or-set_other st.texts j i _ empty_text (apart j e)
    further_other Version st l e = refl
    further_other Formula st l e = refl
    further_other BlockId st l e = refl
    further_other Atoms st l e = ap (λ (ts : List Prose). get_or ts i empty_text) (texts_atoms k st (row_on atom_shape (fields (strip l))))
    further_other (Rows m) st l e = ap (λ (ts : List Prose). get_or ts i empty_text) (texts_list k m st (map ordered (row_on (row_shape m) (fields (strip l)))))
    further_other (Xyz x) st l e = ap (λ (ts : List Prose). get_or ts i empty_text) (texts_xyz_further k x st (fields (strip l)))
    further_other Handedness st l e = ap (λ (ts : List Prose). get_or ts i empty_text) (texts_yes k st (row_on yes_shape (fields (strip l))))
    further_other End st l e = refl
    further_other Skipped st l e = refl

    -- a line that belongs to another record
    line_other : (st : State) (l : Bytes) (line : Line) → holds_text i (runs_on st.running line) ≡ false → text_of i (after_as k st l line) ≡ text_of i st
    line_other st l Plain e = further_other st.running st l e
    line_other st l Unparted e = refl
    line_other st l (Labelled x v) e = value_other x.holds (opened st x) _ v e

    after_other : (st : State) (l : Bytes) → holds_text i (runs_on st.running (line_of l)) ≡ false → text_of i (after k st l) ≡ text_of i st
    unfolding after
    after_other st l e = line_other st l (line_of l) e

    after_holds : (st : State) (l : Bytes) → holds_text i (after k st l).running ≡ holds_text i (runs_on st.running (line_of l))
    after_holds st l = ap (holds_text i) (after_running k st l)

    line_further : (st : State) (l : Bytes) (line : Line) → line ≡ Plain → holds_text i st.running ≡ true → i < length st.texts → text_of i (after_as k st l line) ≡ extended (text_of i st) l
    line_further st l line e r n = ap (λ (m : Line). text_of i (after_as k st l m)) e ∙ further_here st.running st l n r

    plain_here : (st : State) (l : Bytes) → line_of l ≡ Plain → holds_text i st.running ≡ true → i < length st.texts → text_of i (after k st l) ≡ extended (text_of i st) l
    unfolding after
    plain_here st l e r n = line_further st l (line_of l) e r n

    module _ (c : ℕ) (code_is_lem : (l : Bytes) (x : Label) (v : Bytes) → line_of l ≡ Labelled x v → (not (holds_text i x.holds) || eqb x.code c) ≡ true) (not_zero : eqb c 0 ≡ false) where
      -- AFTER ITS RECORD nothing changes the text
      runs_other : (st : State) (l : Bytes) (line : Line) → line_of l ≡ line → code_seen c st.seen ≡ true → holds_text i st.running ≡ false → placed_at st line ≡ true → holds_text i (runs_on st.running line) ≡ false
      runs_other st l Plain e h r p = r
      runs_other st l Unparted e h r p = r
      runs_other st l (Labelled x v) e h r p = seen_barred (holds_text i) c st x (code_is_lem l x v e) h p

      text_done : (st : State) (ls : List Bytes) → code_seen c st.seen ≡ true → holds_text i st.running ≡ false → along k (placed k) st ls ≡ true → text_of i (afters k st ls) ≡ text_of i st
      unfolding along afters
      text_done st [] h r p = refl
      text_done st (l ∷ ls) h r p =
          let q : (placed k st l ≡ true) × (along k (placed k) (after k st l) ls ≡ true) = and_parts (placed k st l) (along k (placed k) (after k st l) ls) p in
          let e : holds_text i (runs_on st.running (line_of l)) ≡ false = runs_other st l (line_of l) refl h r q.0 in
          text_done (after k st l) ls (seen_later k (λ y. eqb y.code c) st l h) (after_holds st l ∙ e) q.1 ∙ after_other st l e

      -- IN ITS RECORD each further line is added to it
      abbrev parted : State → Bytes → Bool
      parted st l = not (unparted (line_of l))

      abbrev Runs : State → List Bytes → Type 0
      Runs st ls = text_of i (afters k st ls) ≡ prose (text_of i st).place ((text_of i st).body ++ until_label ls)

      text_runs : (st : State) (ls : List Bytes) → code_seen c st.seen ≡ true → holds_text i st.running ≡ true → i < length st.texts → along k (placed k) st ls ≡ true → along k parted st ls ≡ true → Runs st ls
      unfolding along afters
      text_runs st [] h r n p u = sym (ap (λ (b : Bytes). prose (text_of i st).place ((text_of i st).body ++ b)) until_nil ∙ ap (prose (text_of i st).place) (append-nil (text_of i st).body))
      text_runs st (l ∷ ls) h r n p u = by (line_of l) refl (and_parts (placed k st l) (along k (placed k) (after k st l) ls) p) (and_parts (parted st l) (along k parted (after k st l) ls) u) (text_runs (after k st l) ls)
        where
          by : (line : Line) → line_of l ≡ line → (placed_at st (line_of l) ≡ true) × (along k (placed k) (after k st l) ls ≡ true) → (not (unparted (line_of l)) ≡ true) × (along k parted (after k st l) ls ≡ true)
              → (code_seen c (after k st l).seen ≡ true → holds_text i (after k st l).running ≡ true → i < length (after k st l).texts → along k (placed k) (after k st l) ls ≡ true → along k parted (after k st l) ls ≡ true → Runs (after k st l) ls)
              → text_of i (afters k (after k st l) ls) ≡ prose (text_of i st).place ((text_of i st).body ++ until_label (l ∷ ls))
          by Plain e q w ih =
              let x : Runs (after k st l) ls = ih (seen_later k (λ y. eqb y.code c) st l h) (after_holds st l ∙ ap (λ (line : Line). holds_text i (runs_on st.running line)) e ∙ r) (omega (arith, after_count st l, n)) q.1 w.1 in
              let y : text_of i (after k st l) ≡ extended (text_of i st) l = plain_here st l e r n in
              x ∙ ap (λ (t : Prose). prose t.place (t.body ++ until_label ls)) y
              ∙ ap (prose (text_of i st).place) (append_assoc (text_of i st).body l (until_label ls) ∙ ap (λ (b : Bytes). (text_of i st).body ++ b) (sym (until_plain l ls (plain_label l e))))
          by Unparted e q w ih = torn (unparted (line_of l)) (ap unparted e) (not-true (unparted (line_of l)) w.0)
          by (Labelled x v) e q w ih =
              let a : holds_text i x.holds ≡ false = seen_barred (holds_text i) c st x (code_is_lem l x v e) h (ap (placed_at st) (sym e) ∙ q.0) in
              let b : holds_text i (runs_on st.running (line_of l)) ≡ false = ap (λ (line : Line). holds_text i (runs_on st.running line)) e ∙ a in
              text_done (after k st l) ls (seen_later k (λ y. eqb y.code c) st l h) (after_holds st l ∙ b) q.1 ∙ after_other st l b
              ∙ sym (ap (λ (s : Bytes). prose (text_of i st).place ((text_of i st).body ++ s)) (until_label_lem l ls (labelled_label l x v e)) ∙ ap (prose (text_of i st).place) (append-nil (text_of i st).body))

      -- BEFORE ITS RECORD there is none
      text_nil : (at : ℕ) → text_from i at [] ≡ empty_text
      unfolding text_from
      text_nil at = refl

      text_cons : (at : ℕ) (l : Bytes) (ls : List Bytes) (b : Bool) → starts_text i (line_of l) ≡ b
          → text_from i at (l ∷ ls) ≡ elim b as (λ (t : Bool). Prose) [ true ↦ prose (at + (length l - length (value_of (line_of l)))) (value_of (line_of l) ++ until_label ls) | false ↦ text_from i (at + length l) ls ]
      unfolding text_from
      text_cons at l ls b e = rw (e, text_from)

      starts_line : (st : State) (l : Bytes) (line : Line) → line_of l ≡ line → starts_text i line ≡ true → i < length st.texts
          → (text_of i (after_as k st l line) ≡ prose (st.at + (length l - length (value_of line))) (value_of line)) × (code_seen c (label_on line) ≡ true) × (holds_text i (runs_on st.running line) ≡ true)
      starts_line st l Plain e s n = torn false s refl
      starts_line st l Unparted e s n = torn false s refl
      starts_line st l (Labelled x v) e s n =
          let q : eqb x.code c ≡ true = or_other (not (holds_text i x.holds)) (eqb x.code c) (code_is_lem l x v e) (ap not s) in
          (value_here x.holds (opened st x) _ v n s, noted_some (λ y. eqb y.code c) x v (ap (λ (m : ℕ). eqb m 0) (eqb-true x.code c q) ∙ not_zero) q, s)

      other_starts : (h : Holds) (line : Line) → holds_text i h ≡ false → starts_text i line ≡ false → holds_text i (runs_on h line) ≡ false
      other_starts h Plain r e = r
      other_starts h Unparted r e = r
      other_starts h (Labelled x v) r e = e

      pub text_is : (st : State) (ls : List Bytes) → text_of i st ≡ empty_text → holds_text i st.running ≡ false → i < length st.texts → along k (placed k) st ls ≡ true → along k parted st ls ≡ true → text_of i (afters k st ls) ≡ text_from i st.at ls
      unfolding along afters after
      text_is st [] o r n p u = o ∙ sym (text_nil st.at)
      text_is st (l ∷ ls) o r n p u = by (starts_text i (line_of l)) refl (and_parts (placed k st l) (along k (placed k) (after k st l) ls) p).1 (and_parts (parted st l) (along k parted (after k st l) ls) u).1 (text_is (after k st l) ls)
        where
          by : (b : Bool) → starts_text i (line_of l) ≡ b → along k (placed k) (after k st l) ls ≡ true → along k parted (after k st l) ls ≡ true
              → (text_of i (after k st l) ≡ empty_text → holds_text i (after k st l).running ≡ false → i < length (after k st l).texts → along k (placed k) (after k st l) ls ≡ true → along k parted (after k st l) ls ≡ true → text_of i (afters k (after k st l) ls) ≡ text_from i (after k st l).at ls)
              → text_of i (afters k (after k st l) ls) ≡ text_from i st.at (l ∷ ls)
          by true e q w ih =
              let x : (text_of i (after k st l) ≡ prose (st.at + (length l - length (value_of (line_of l)))) (value_of (line_of l))) × (code_seen c (label_on (line_of l)) ≡ true) × (holds_text i (runs_on st.running (line_of l)) ≡ true) =
              starts_line st l (line_of l) refl e n in
              text_runs (after k st l) ls (seen_now k (λ y. eqb y.code c) st l x.1) (after_holds st l ∙ x.2) (omega (arith, after_count st l, n)) q w
              ∙ ap (λ (t : Prose). prose t.place (t.body ++ until_label ls)) x.0 ∙ sym (text_cons st.at l ls true e)
          by false e q w ih =
              let a : holds_text i (runs_on st.running (line_of l)) ≡ false = other_starts st.running (line_of l) r e in
              ih (after_other st l a ∙ o) (after_holds st l ∙ a) (omega (arith, after_count st l, n)) q w ∙ ap (λ (m : ℕ). text_from i m ls) (after_at st l) ∙ sym (text_cons st.at l ls false e)

  -- THE THREE
  three : (ts : List Prose) → length ts ≡ 3 → ts ≡ get_or ts 0 empty_text ∷ get_or ts 1 empty_text ∷ get_or ts 2 empty_text ∷ []
  three [] h = absurd (omega (arith, h))
  three (a ∷ []) h = absurd (omega (arith, h))
  three (a ∷ b ∷ []) h = absurd (omega (arith, h))
  three (a ∷ b ∷ d ∷ []) h = refl
  three (a ∷ b ∷ d ∷ e ∷ ts) h = absurd (omega (arith, h))

  title_code : (l : Bytes) (x : Label) (v : Bytes) → line_of l ≡ Labelled x v → (not (holds_text 0 x.holds) || eqb x.code 1) ≡ true
  unfolding known all label
  title_code = label_passed (λ x. not (holds_text 0 x.holds) || eqb x.code 1) refl refl

  origin_code : (l : Bytes) (x : Label) (v : Bytes) → line_of l ≡ Labelled x v → (not (holds_text 1 x.holds) || eqb x.code 3) ≡ true
  unfolding known all label
  origin_code = label_passed (λ x. not (holds_text 1 x.holds) || eqb x.code 3) refl refl

  owner_code : (l : Bytes) (x : Label) (v : Bytes) → line_of l ≡ Labelled x v → (not (holds_text 2 x.holds) || eqb x.code 4) ≡ true
  unfolding known all label
  owner_code = label_passed (λ x. not (holds_text 2 x.holds) || eqb x.code 4) refl refl

  pub texts_are : (ls : List Bytes) → along k (placed k) start ls ≡ true → along k (λ s l. not (unparted (line_of l))) start ls ≡ true
      → (afters k start ls).texts ≡ text_from 0 0 ls ∷ text_from 1 0 ls ∷ text_from 2 0 ls ∷ []
  unfolding start
  texts_are ls p u =
      three (afters k start ls).texts (afters_count start ls)
      ∙ ap (λ (t : Prose). t ∷ text_of 1 (afters k start ls) ∷ text_of 2 (afters k start ls) ∷ []) (text_is 0 1 title_code refl start ls refl refl (omega arith) p u)
      ∙ ap (λ (t : Prose). text_from 0 0 ls ∷ t ∷ text_of 2 (afters k start ls) ∷ []) (text_is 1 3 origin_code refl start ls refl refl (omega arith) p u)
      ∙ ap (λ (t : Prose). text_from 0 0 ls ∷ text_from 1 0 ls ∷ t ∷ []) (text_is 2 4 owner_code refl start ls refl refl (omega arith) p u)
