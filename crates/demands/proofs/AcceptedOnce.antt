-- What one record alone gives, the formula and the block id: its label stands once, so that after all lines the state has what that record gives. Serves
-- "accepted exactly when" and what the table then holds; document 01, "Each at most once". Assumes nothing.
use Prim.Native.Nat.{ℕ}
use mathlib.Core.Path.{◌≡◌, refl, sym, ap, ◌∙◌}
use mathlib.Core.Bool.{Bool, true, false, not, ◌||◌}
use mathlib.Core.Logic.{◌⊎◌, inl, inr}
use mathlib.Core.List.{List, [], ◌∷◌, ◌++◌, append-nil}
use lib.Dec.{eqb}
use borrow.Author.Tests.{eqb-true, not-true}
use Rattle.lists.specs.Lists.{all, flat}
use Rattle.lists.proofs.Bools.{torn, never, and_parts, or_other}
use Rattle.lists.proofs.PartLaws.{flat_nil, flat_one}
use Rattle.format.specs.Bytes.{Bytes}
use Rattle.format.specs.Labels.{Holds, Formula, Label, label, known, misplaced, Line, Plain, Unparted, Labelled, line_of}
use Rattle.format.specs.Reading.{State, past, opened}
use Rattle.demands.specs.Accepted.{Told, Value, Further, told_as, told, label_on, kind, only_if, value_in}
use Rattle.demands.specs.ReadAs.{id_as}
use Rattle.demands.proofs.AcceptedContents.{formula_held, formula_kind, id_held, entries_on, id_on}
use Rattle.demands.proofs.AcceptedAfter.{after_value, after_further, after_as, after, afters}
use Rattle.demands.proofs.AcceptedSteps.{along, placed_at}
use Rattle.demands.proofs.AcceptedState.{value_formula, value_entries, further_formula, value_quiet_id, value_id, further_id}
use Rattle.demands.proofs.AcceptedLines.{label_passed, placed}
use Rattle.demands.proofs.AcceptedOrder.{code_seen, code_misplaced, noted_some, seen_later, seen_now}
use Rattle.demands.proofs.AcceptedRows.{told_nil, told_after}

-- a label with a code that has been seen starts no record
pub seen_barred : (held : Holds → Bool) (c : ℕ) (st : State) (x : Label) → (not (held x.holds) || eqb x.code c) ≡ true → code_seen c st.seen ≡ true → not (misplaced st.seen x) ≡ true → held x.holds ≡ false
seen_barred held c st x f h p =
    never (held x.holds) (λ e. torn (misplaced st.seen x) (code_misplaced c st.seen x h (or_other (not (held x.holds)) (eqb x.code c) f (ap not e))) (not-true (misplaced st.seen x) p))

module _ (k : ℕ) {A B : Type 0} (g : State → B) (given : Told → List A) (read : List A → B) (held : Holds → Bool) (c : ℕ) where
  -- what is asked of the record: a further line gives nothing, another record's value gives nothing, its own value gives all
  pub record Once : Type 0 where
    pub moved : (st : State) (l : Bytes) → g (past l st) ≡ g st
    pub named_seen : (st : State) (x : Label) → g (opened st x) ≡ g st
    pub code_is_lem : (l : Bytes) (x : Label) (v : Bytes) → line_of l ≡ Labelled x v → (not (held x.holds) || eqb x.code c) ≡ true
    pub not_zero : eqb c 0 ≡ false
    pub further_state : (h : Holds) (st : State) (l : Bytes) → g (after_further k h st l) ≡ g st
    pub further_none : (h : Holds) (l : Bytes) → given (Further h l) ≡ []
    pub value_none : (h : Holds) (st : State) (from : ℕ) (v : Bytes) → held h ≡ false → (g (after_value k h st from v) ≡ g st) × (given (Value h v) ≡ [])
    pub value_all : (h : Holds) (st : State) (from : ℕ) (v : Bytes) → g st ≡ read [] → held h ≡ true → g (after_value k h st from v) ≡ read (given (Value h v))

  module _ (o : Once) where
    quiet_line : (st : State) (l : Bytes) (line : Line) → line_of l ≡ line → code_seen c st.seen ≡ true → placed_at st line ≡ true
        → (g (after_as k st l line) ≡ g st) × (flat given (told_as st.running l line) ≡ [])
    quiet_line st l Plain e h p = (o.further_state st.running st l, flat_one given (Further st.running l) ∙ o.further_none st.running l)
    quiet_line st l Unparted e h p = (refl, flat_nil given)
    quiet_line st l (Labelled x v) e h p =
        let q : (g (after_value k x.holds (opened st x) _ v) ≡ g (opened st x)) × (given (Value x.holds v) ≡ []) =
        o.value_none x.holds (opened st x) _ v (seen_barred held c st x (o.code_is_lem l x v e) h p) in
        (q.0 ∙ o.named_seen st x, flat_one given (Value x.holds v) ∙ q.1)

    later : (st : State) (ls : List Bytes) → code_seen c st.seen ≡ true → along k (placed k) st ls ≡ true → (g (afters k st ls) ≡ g st) × (flat given (told st.running ls) ≡ [])
    unfolding along afters after
    later st [] h p = (refl, told_nil given st.running)
    later st (l ∷ ls) h p =
        let q : (placed k st l ≡ true) × (along k (placed k) (after k st l) ls ≡ true) = and_parts (placed k st l) (along k (placed k) (after k st l) ls) p in
        let x : (g (after_as k st l (line_of l)) ≡ g st) × (flat given (told_as st.running l (line_of l)) ≡ []) = quiet_line st l (line_of l) refl h q.0 in
        let y : (g (afters k (after k st l) ls) ≡ g (after k st l)) × (flat given (told (after k st l).running ls) ≡ []) = later (after k st l) ls (seen_later k (λ z. eqb z.code c) st l h) q.1 in
        (y.0 ∙ o.moved (after_as k st l (line_of l)) l ∙ x.0, told_after k given st l ls ∙ ap (λ (es : List A). es ++ flat given (told (after k st l).running ls)) x.1 ∙ y.1)

    -- a line gives nothing, or all
    abbrev Quiet : State → Bytes → Line → Type 0
    Quiet st l line = (g (after_as k st l line) ≡ read []) × (flat given (told_as st.running l line) ≡ [])

    abbrev Given : State → Bytes → Line → Type 0
    Given st l line = (g (after_as k st l line) ≡ read (flat given (told_as st.running l line))) × (code_seen c (label_on line) ≡ true)

    once_line : (st : State) (l : Bytes) (line : Line) → line_of l ≡ line → g st ≡ read [] → Quiet st l line ⊎ Given st l line
    once_line st l Plain e n = inl (o.further_state st.running st l ∙ n, flat_one given (Further st.running l) ∙ o.further_none st.running l)
    once_line st l Unparted e n = inl (n, flat_nil given)
    once_line st l (Labelled x v) e n = by (held x.holds) refl
      where
        by : (b : Bool) → held x.holds ≡ b → Quiet st l (Labelled x v) ⊎ Given st l (Labelled x v)
        by true f =
            let q : eqb x.code c ≡ true = or_other (not (held x.holds)) (eqb x.code c) (o.code_is_lem l x v e) (ap not f) in
            let z : eqb x.code 0 ≡ false = ap (λ (i : ℕ). eqb i 0) (eqb-true x.code c q) ∙ o.not_zero in
            inr (o.value_all x.holds (opened st x) _ v (o.named_seen st x ∙ n) f ∙ ap read (sym (flat_one given (Value x.holds v))), noted_some (λ y. eqb y.code c) x v z q)
        by false f =
            let q : (g (after_value k x.holds (opened st x) _ v) ≡ g (opened st x)) × (given (Value x.holds v) ≡ []) = o.value_none x.holds (opened st x) _ v f in
            inl (q.0 ∙ o.named_seen st x ∙ n, flat_one given (Value x.holds v) ∙ q.1)

    pub once_is : (st : State) (ls : List Bytes) → g st ≡ read [] → along k (placed k) st ls ≡ true → g (afters k st ls) ≡ read (flat given (told st.running ls))
    unfolding along afters after
    once_is st [] n p = n ∙ ap read (sym (told_nil given st.running))
    once_is st (l ∷ ls) n p =
        let q : (placed k st l ≡ true) × (along k (placed k) (after k st l) ls ≡ true) = and_parts (placed k st l) (along k (placed k) (after k st l) ls) p in
        by (once_line st l (line_of l) refl n) q.1 (once_is (after k st l) ls) ∙ ap read (sym (told_after k given st l ls))
      where
        by : Quiet st l (line_of l) ⊎ Given st l (line_of l) → along k (placed k) (after k st l) ls ≡ true
            → (g (after k st l) ≡ read [] → along k (placed k) (after k st l) ls ≡ true → g (afters k (after k st l) ls) ≡ read (flat given (told (after k st l).running ls)))
            → g (afters k (after k st l) ls) ≡ read (flat given (told_as st.running l (line_of l)) ++ flat given (told (after k st l).running ls))
        by (inl x) q ih = ih (o.moved (after_as k st l (line_of l)) l ∙ x.0) q ∙ ap (λ (es : List A). read (es ++ flat given (told (after k st l).running ls))) (sym x.1)
        by (inr x) q ih =
            let y : (g (afters k (after k st l) ls) ≡ g (after k st l)) × (flat given (told (after k st l).running ls) ≡ []) = later (after k st l) ls (seen_now k (λ z. eqb z.code c) st l x.1) q in
            y.0 ∙ o.moved (after_as k st l (line_of l)) l ∙ x.0
            ∙ ap read (sym (append-nil (flat given (told_as st.running l (line_of l)))) ∙ ap (λ (es : List A). flat given (told_as st.running l (line_of l)) ++ es) (sym y.1))

-- two values or more
abbrev pub several : List Bytes → Bool
several [] = false
several (v ∷ []) = false
several (v ∷ w ∷ vs) = true

module _ (k : ℕ) where
  formula_code : (l : Bytes) (x : Label) (v : Bytes) → line_of l ≡ Labelled x v → (not (formula_held x.holds) || eqb x.code 5) ≡ true
  unfolding known all label
  formula_code = label_passed (λ x. not (formula_held x.holds) || eqb x.code 5) refl refl

  id_code : (l : Bytes) (x : Label) (v : Bytes) → line_of l ≡ Labelled x v → (not (id_held x.holds) || eqb x.code 12) ≡ true
  unfolding known all label
  id_code = label_passed (λ x. not (id_held x.holds) || eqb x.code 12) refl refl

  -- THE FORMULA
  pub formula_is : (st : State) (ls : List Bytes) → st.formula ≡ [] → along k (placed k) st ls ≡ true → (afters k st ls).formula ≡ flat (entries_on k) (told st.running ls)
  formula_is = once_is k (λ s. s.formula) (entries_on k) (λ es. es) formula_held 5 (record {
    moved = λ st l. refl;
    named_seen = λ st x. refl;
    code_is_lem = formula_code;
    not_zero = refl;
    further_state = further_formula k;
    further_none = λ h l. refl;
    value_none = value_formula k;
    value_all = value_entries k;
  })

  -- THE FORMULA'S VALUE: no two
  only_once : (b : Bool) (v : Bytes) → several (only_if b v) ≡ false
  only_once true v = refl
  only_once false v = refl

  pub values_once : (st : State) (ls : List Bytes) → along k (placed k) st ls ≡ true → several (flat (value_in Formula) (told st.running ls)) ≡ false
  values_once st ls p = sym (once_is k (λ s. false) (value_in Formula) several formula_held 5 (record {
    moved = λ s l. refl;
    named_seen = λ s x. refl;
    code_is_lem = formula_code;
    not_zero = refl;
    further_state = λ h s l. refl;
    further_none = λ h l. refl;
    value_none = λ h s from v e. (refl, ap (λ (b : Bool). only_if b v) (formula_kind h ∙ e));
    value_all = λ h s from v n e. sym (only_once (eqb 2 (kind h)) v);
  }) st ls refl p)

  -- THE BLOCK ID
  pub id_is : (st : State) (ls : List Bytes) → st.body.id ≡ 0 → along k (placed k) st ls ≡ true → (afters k st ls).body.id ≡ id_as (flat id_on (told st.running ls))
  id_is = once_is k (λ s. s.body.id) id_on id_as id_held 12 (record {
    moved = λ st l. refl;
    named_seen = λ st x. refl;
    code_is_lem = id_code;
    not_zero = refl;
    further_state = further_id k;
    further_none = λ h l. refl;
    value_none = value_quiet_id k;
    value_all = value_id k;
  })
