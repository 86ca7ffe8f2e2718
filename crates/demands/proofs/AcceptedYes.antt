-- What the record STEREOMOLECULE gives: its YES stands once, and only where its label does; and then no row of STEREOCENTER or STEREOPAIR stands. Serves "accepted
-- exactly when" and what the table then holds; document 02, L4. Assumes nothing.
use Prim.Native.Nat.{ℕ, ◌≤◌}
use mathlib.Core.Path.{◌≡◌, refl, sym, ap, ◌∙◌, subst}
use mathlib.Core.Bool.{Bool, true, false, not, ◌&&◌, ◌||◌, or-false}
use Rattle.std.specs.declared.option.Option.{Option}
use Rattle.std.specs.declared.option.Option.TheVariants.{None, Some}
use mathlib.Core.List.{List, [], ◌∷◌, ◌++◌, map}
use native.Mathlib.Omega.{arith}
use lib.ListN.{length}
use lib.Dec.{eqb}
use borrow.Author.Tests.{eqb-true}
use Rattle.lists.specs.Lists.{is_nil, all, flat}
use Rattle.lists.specs.Folding.{kept}
use Rattle.lists.proofs.Bools.{torn, or_parts, or_other, or_right}
use Rattle.lists.proofs.ListLaws.{all_nil, all_one, any_nil, any_append}
use Rattle.lists.proofs.PartLaws.{flat_nil, flat_one, flat_cons}
use Rattle.lists.proofs.FoldLaws.{kept_nil, kept_new}
use Rattle.format.specs.Bytes.{Bytes, fields, strip}
use Rattle.format.specs.Labels.{ListOf, Bonds, Charges, Radicals, Centres, Pairs, Holds, Text, Version, Formula, BlockId, Atoms, Rows, Xyz, Handedness, End, Skipped, Label, label, known, Line, Plain, Unparted, Labelled, line_of}
use Rattle.format.specs.Rows.{Row, number, field, atom_shape, row_shape}
use Rattle.format.specs.Formula.{formula_shape}
use Rattle.format.specs.Structure.{Structure, meets}
use Rattle.format.specs.Reading.{State, with_rows, ordered, opened}
use Rattle.demands.specs.Accepted.{Told, Value, Further, told_as, runs_on, told, label_on, labels, named, only_if, row_on, Yes, YES, yes_shape}
use Rattle.demands.proofs.AcceptedHolds.{yes_view}
use Rattle.demands.proofs.AcceptedContents.{yes_in, yes_on, yes_held}
use Rattle.demands.proofs.AcceptedAfter.{add_all, add_atom, add_row, add_id, add_yes, after_value, after_further, after_as, after, afters}
use Rattle.demands.proofs.AcceptedSteps.{row_passes, yes_passes, on_line, yes_first_at, along}
use Rattle.demands.proofs.AcceptedState.{all_same, row_same, xyz_same, xyz_further_same, formula_body}
use Rattle.demands.proofs.AcceptedLines.{label_passed}
use Rattle.demands.proofs.AcceptedRows.{few_on, few_told, row_all, told_cons, told_nil, told_after, along_same, kept_more}
use Rattle.demands.proofs.AcceptedOrder.{noted_some}

-- THE YES, which its record alone gives
yes_added : (st : State) (ys : List Yes) → (add_all add_yes st ys).body.handed ≡ (st.body.handed || not (is_nil ys))
yes_added st [] = sym (or-false st.body.handed)
yes_added st (y ∷ ys) = yes_added (add_yes st y) ys ∙ sym (or_right st.body.handed true refl)

rows_handed : (l : ListOf) (rs : List Row) (s : Structure) → (with_rows l rs s).handed ≡ s.handed
unfolding with_rows
rows_handed Bonds rs s = refl
rows_handed Charges rs s = refl
rows_handed Radicals rs s = refl
rows_handed Centres rs s = refl
rows_handed Pairs rs s = refl

module _ (k : ℕ) where
  list_handed : (m : ListOf) (st : State) (rs : List Row) → (add_all (add_row m) st rs).body.handed ≡ st.body.handed
  list_handed m st rs = all_same (λ (s : State). s.body.handed) (add_row m) (row_same (λ (s : State). s.body.handed) m (λ s qs. rows_handed m qs s.body)) st rs

  none_handed : (st : State) (t : Bool) → t ≡ st.body.handed → t ≡ (st.body.handed || not (is_nil {A = Yes} []))
  none_handed st t e = e ∙ sym (or-false st.body.handed)

  id_handed : (st : State) (o : Option ℕ) → (add_id st o).body.handed ≡ st.body.handed
  id_handed st None = refl
  id_handed st (Some n) = refl

  value_yes : (h : Holds) (st : State) (from : ℕ) (v : Bytes) → (after_value k h st from v).body.handed ≡ (st.body.handed || not (is_nil (yes_in h v)))
  value_yes (Text i) st from v = none_handed st _ refl
  value_yes Version st from v = none_handed st _ refl
  value_yes Formula st from v = none_handed st _ (ap (λ (s : Structure). s.handed) (formula_body k st (formula_shape (strip v))))
  value_yes BlockId st from v = none_handed st _ (id_handed st (number (field 0 (fields (strip v)))))
  value_yes Atoms st from v = none_handed st _ (all_same (λ (s : State). s.body.handed) (add_atom k) (λ s r. refl) st (row_on atom_shape (fields (strip v))))
  value_yes (Rows m) st from v = none_handed st _ (list_handed m st (map ordered (row_on (row_shape m) (fields (strip v)))))
  value_yes (Xyz x) st from v = none_handed st _ (xyz_same (λ (s : State). s.body.handed) (λ s p. refl) x st (fields (strip v)))
  value_yes Handedness st from v = yes_added st (row_on yes_shape (fields (strip v)))
  value_yes End st from v = none_handed st _ refl
  value_yes Skipped st from v = none_handed st _ refl

  further_yes : (h : Holds) (st : State) (l : Bytes) → (after_further k h st l).body.handed ≡ (st.body.handed || not (is_nil (yes_in h l)))
  further_yes (Text i) st l = none_handed st _ refl
  further_yes Version st l = none_handed st _ refl
  further_yes Formula st l = none_handed st _ refl
  further_yes BlockId st l = none_handed st _ refl
  further_yes Atoms st l = none_handed st _ (all_same (λ (s : State). s.body.handed) (add_atom k) (λ s r. refl) st (row_on atom_shape (fields (strip l))))
  further_yes (Rows m) st l = none_handed st _ (list_handed m st (map ordered (row_on (row_shape m) (fields (strip l)))))
  further_yes (Xyz x) st l = none_handed st _ (xyz_further_same (λ (s : State). s.body.handed) (λ s p. refl) x st (fields (strip l)))
  further_yes Handedness st l = yes_added st (row_on yes_shape (fields (strip l)))
  further_yes End st l = none_handed st _ refl
  further_yes Skipped st l = none_handed st _ refl

  yes_as : (st : State) (l : Bytes) (line : Line) → (after_as k st l line).body.handed ≡ (st.body.handed || not (is_nil (flat yes_on (told_as st.running l line))))
  yes_as st l Plain = further_yes st.running st l ∙ ap (λ (ys : List Yes). st.body.handed || not (is_nil ys)) (sym (flat_one yes_on _))
  yes_as st l Unparted = none_handed st _ refl ∙ ap (λ (ys : List Yes). st.body.handed || not (is_nil ys)) (sym (flat_nil yes_on))
  yes_as st l (Labelled x v) = value_yes x.holds (opened st x) _ v ∙ ap (λ (ys : List Yes). st.body.handed || not (is_nil ys)) (sym (flat_one yes_on _))

  after_yes : (st : State) (l : Bytes) → (after k st l).body.handed ≡ (st.body.handed || not (is_nil (flat yes_on (told_as st.running l (line_of l)))))
  unfolding after
  after_yes st l = yes_as st l (line_of l)

-- A YES ON A LINE
few_yes : (h : Holds) (l : Bytes) → length (yes_in h l) ≤ 1
few_yes h l = yes_view (λ g. length (yes_in g l) ≤ 1) (λ g q. subst (λ (ys : List Yes). length ys ≤ 1) (sym (q (List Yes) [] (row_on yes_shape (fields (strip l))))) (omega arith)) (few_on yes_shape (fields (strip l))) h

few_yeses : (t : Told) → length (yes_on t) ≤ 1
few_yeses (Value h v) = few_yes h v
few_yeses (Further h l) = few_yes h l

yes_all : (test : Yes → Bool) (h : Holds) (l : Bytes) → yes_passes test h l ≡ all test (yes_in h l)
yes_all test h l =
    yes_view (λ g. yes_passes test g l ≡ all test (yes_in g l))
    (λ g q. q Bool true (row_passes yes_shape test (fields (strip l))) ∙ sym (ap (all test) (q (List Yes) [] (row_on yes_shape (fields (strip l)))) ∙ all_nil test))
    (row_all yes_shape test (fields (strip l))) h

yes_none : (h : Holds) (l : Bytes) → yes_held h ≡ false → yes_in h l ≡ []
yes_none h l = yes_view (λ g. yes_held g ≡ false → yes_in g l ≡ []) (λ g q e. q (List Yes) [] (row_on yes_shape (fields (strip l)))) (λ e. torn true refl e) h

abbrev pub yes_test : State → Bytes → Bool
yes_test st l = on_line (yes_passes (yes_first_at st)) (yes_passes (yes_first_at st)) st.running l (line_of l)

abbrev yes_at : State → Bytes → List Yes
yes_at st l = flat yes_on (told_as st.running l (line_of l))

yes_line_lem : (test : Yes → Bool) (h : Holds) (l : Bytes) (line : Line) → on_line (yes_passes test) (yes_passes test) h l line ≡ all test (flat yes_on (told_as h l line))
yes_line_lem test h l Plain = yes_all test h l ∙ ap (all test) (sym (flat_one yes_on (Further h l)))
yes_line_lem test h l Unparted = sym (all_nil test) ∙ ap (all test) (sym (flat_nil yes_on))
yes_line_lem test h l (Labelled x v) = yes_all test x.holds v ∙ ap (all test) (sym (flat_one yes_on (Value x.holds v)))

-- ONCE: none where it has been given, else at most one
abbrev pub once_only : (given : Bool) → List Yes → Bool
once_only g [] = true
once_only true (y ∷ ys) = false
once_only false (y ∷ []) = true
once_only false (y ∷ z ∷ ys) = false

once_more : (g : Bool) (ys rest : List Yes) → length ys ≤ 1 → (all (λ y. not g) ys && once_only (g || not (is_nil ys)) rest) ≡ once_only g (ys ++ rest)
once_more true [] rest few = ap (λ (t : Bool). t && once_only true rest) (all_nil (λ y. false))
once_more false [] rest few = ap (λ (t : Bool). t && once_only false rest) (all_nil (λ y. true))
once_more true (y ∷ []) rest few = ap (λ (t : Bool). t && once_only true rest) (all_one (λ y. false) y)
once_more false (y ∷ []) [] few = ap (λ (t : Bool). t && true) (all_one (λ y. true) y)
once_more false (y ∷ []) (z ∷ rest) few = ap (λ (t : Bool). t && false) (all_one (λ y. true) y)
once_more g (y ∷ z ∷ ys) rest few = absurd (omega arith)

module _ (k : ℕ) where
  once_from : (st : State) (ls : List Bytes) → along k (λ s b. all (yes_first_at s) (yes_at s b)) st ls ≡ once_only st.body.handed (flat yes_on (told st.running ls))
  unfolding along
  once_from st [] = ap (once_only st.body.handed) (sym (told_nil yes_on st.running))
  once_from st (l ∷ ls) =
      ap (λ (t : Bool). all (yes_first_at st) (yes_at st l) && t) (once_from (after k st l) ls)
      ∙ ap (λ (t : Bool). all (yes_first_at st) (yes_at st l) && once_only t (flat yes_on (told (after k st l).running ls))) (after_yes k st l)
      ∙ once_more st.body.handed (yes_at st l) (flat yes_on (told (after k st l).running ls)) (few_told yes_on few_yeses st.running l (line_of l))
      ∙ ap (once_only st.body.handed) (sym (told_after k yes_on st l ls))

  pub yes_once : (st : State) (ls : List Bytes) → along k yes_test st ls ≡ once_only st.body.handed (flat yes_on (told st.running ls))
  yes_once st ls = along_same k yes_test (λ s b. all (yes_first_at s) (yes_at s b)) (λ s b. yes_line_lem (yes_first_at s) s.running b (line_of b)) st ls ∙ once_from st ls

  -- after all lines
  given_shuffle : (a : Bool) (xs ys : List Yes) → ((a || not (is_nil xs)) || not (is_nil ys)) ≡ (a || not (is_nil (xs ++ ys)))
  given_shuffle true xs ys = refl
  given_shuffle false [] ys = refl
  given_shuffle false (x ∷ xs) ys = refl

  pub afters_yes : (st : State) (ls : List Bytes) → (afters k st ls).body.handed ≡ (st.body.handed || not (is_nil (flat yes_on (told st.running ls))))
  unfolding afters
  afters_yes st [] = sym (ap (λ (ys : List Yes). st.body.handed || not (is_nil ys)) (told_nil yes_on st.running) ∙ or-false st.body.handed)
  afters_yes st (l ∷ ls) =
      afters_yes (after k st l) ls ∙ ap (λ (t : Bool). t || not (is_nil (flat yes_on (told (after k st l).running ls)))) (after_yes k st l)
      ∙ given_shuffle st.body.handed (yes_at st l) (flat yes_on (told (after k st l).running ls)) ∙ ap (λ (ys : List Yes). st.body.handed || not (is_nil ys)) (sym (told_after k yes_on st l ls))

-- WHERE THE LABEL DOES NOT STAND there is no YES
yes_code : (l : Bytes) (x : Label) (v : Bytes) → line_of l ≡ Labelled x v → (not (yes_held x.holds) || eqb x.code 17) ≡ true
unfolding known all label
yes_code = label_passed (λ x. not (yes_held x.holds) || eqb x.code 17) refl refl

quiet_runs : (h : Holds) (l : Bytes) (line : Line) → line_of l ≡ line → yes_held h ≡ false → named (label_on line) 17 ≡ false → yes_held (runs_on h line) ≡ false
quiet_runs h l Plain e q n = q
quiet_runs h l Unparted e q n = q
quiet_runs h l (Labelled x v) e q n = by (yes_held x.holds) refl
  where
    by : (t : Bool) → yes_held x.holds ≡ t → yes_held x.holds ≡ false
    by true f =
        let c : eqb x.code 17 ≡ true = or_other (not (yes_held x.holds)) (eqb x.code 17) (yes_code l x v e) (ap not f) in
        torn (named (label_on (Labelled x v)) 17) (noted_some (λ y. eqb y.code 17) x v (ap (λ (i : ℕ). eqb i 0) (eqb-true x.code 17 c)) c) n
    by false f = f

quiet_line : (h : Holds) (l : Bytes) (line : Line) → yes_held (runs_on h line) ≡ false → flat yes_on (told_as h l line) ≡ []
quiet_line h l Plain q = flat_one yes_on (Further h l) ∙ yes_none h l q
quiet_line h l Unparted q = flat_nil yes_on
quiet_line h l (Labelled x v) q = flat_one yes_on (Value x.holds v) ∙ yes_none x.holds v q

pub yes_quiet : (h : Holds) (ls : List Bytes) → yes_held h ≡ false → named (labels ls) 17 ≡ false → flat yes_on (told h ls) ≡ []
yes_quiet h [] q n = told_nil yes_on h
yes_quiet h (l ∷ ls) q n =
    let m : (named (label_on (line_of l)) 17 ≡ false) × (named (labels ls) 17 ≡ false) =
    or_parts _ _ (sym (ap (λ (xs : List Label). named xs 17) (flat_cons (λ b. label_on (line_of b)) l ls) ∙ any_append (λ x. eqb x.code 17) (label_on (line_of l)) (labels ls)) ∙ n) in
    let r : yes_held (runs_on h (line_of l)) ≡ false = quiet_runs h l (line_of l) refl q m.0 in
    told_cons yes_on h l ls ∙ ap (λ (ys : List Yes). ys ++ flat yes_on (told (runs_on h (line_of l)) ls)) (quiet_line h l (line_of l) r) ∙ yes_quiet (runs_on h (line_of l)) ls r m.1

-- so it stands once exactly when no second is given and the label is not without one
pub once_rows : (n : Bool) (ys : List Yes) → (n ≡ false → ys ≡ []) → once_only false ys ≡ true → (not n || not (is_nil ys)) ≡ true → ys ≡ only_if n YES
once_rows false ys quiet o t = quiet refl
once_rows true [] quiet o t = torn false t refl
once_rows true (YES ∷ []) quiet o t = refl
once_rows true (y ∷ z ∷ ys) quiet o t = torn false o refl

pub rows_once : (n : Bool) (ys : List Yes) → ys ≡ only_if n YES → (once_only false ys ≡ true) × ((not n || not (is_nil ys)) ≡ true)
rows_once true ys e = rw e (refl, refl)
rows_once false ys e = rw e (refl, refl)

-- ALONE, said of the rows and said as one test
pub none_beside : (ys : List Yes) (cs ps : List Row) → (not (is_nil ys) && not (is_nil cs && is_nil ps)) ≡ false → ys ≡ YES ∷ [] → (cs ≡ []) × (ps ≡ [])
none_beside ys [] [] h e = (refl, refl)
none_beside ys [] (p ∷ ps) h e = torn true refl (rw e at h)
none_beside ys (c ∷ cs) ps h e = torn true refl (rw e at h)

pub beside_none : (n : Bool) (ys : List Yes) (cs ps : List Row) → ys ≡ only_if n YES → (ys ≡ YES ∷ [] → (cs ≡ []) × (ps ≡ [])) → (not (is_nil ys) && not (is_nil cs && is_nil ps)) ≡ false
beside_none false ys cs ps e f = rw e refl
beside_none true ys cs ps e f = rw ((f e).0, (f e).1, e) refl

-- A LIST WITHOUT ROWS keeps none
pub kept_none : (l : ListOf) (rs : List Row) → is_nil (kept (meets l) [] rs) ≡ is_nil rs
kept_none l [] = ap is_nil (kept_nil (meets l) [])
kept_none l (r ∷ rs) = ap is_nil (kept_new (meets l) [] r rs (any_nil (meets l r))) ∙ some_kept (kept (meets l) (r ∷ []) rs) (kept_more 0 l (r ∷ []) rs)
  where
    some_kept : (qs : List Row) → length (r ∷ []) ≤ length qs → is_nil qs ≡ false
    some_kept [] h = absurd (omega (arith, h))
    some_kept (q ∷ qs) h = refl
