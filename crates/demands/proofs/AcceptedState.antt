-- The state after a block's lines, part by part, said of the lines alone: which record runs, the known labels, the atoms, the rows of each list, the formula.
-- Serves "accepted exactly when" and what the table then holds; document 01, "Lines and labels" and "Rows". Assumes nothing.
use Prim.Native.Nat.{ℕ}
use mathlib.Core.Path.{◌≡◌, refl, sym, ap, ◌∙◌}
use mathlib.Core.Bool.{Bool, true, false}
use Rattle.std.specs.declared.option.Option.{Option}
use Rattle.std.specs.declared.option.Option.TheVariants.{None, Some}
use mathlib.Core.List.{List, [], ◌∷◌, ◌++◌, map, append_assoc, append-nil}
use lib.Dec.{eqb}
use Rattle.lists.specs.Lists.{any, flat}
use Rattle.lists.specs.Folding.{kept}
use Rattle.lists.proofs.Bools.{torn}
use Rattle.lists.proofs.PartLaws.{flat_nil, flat_one}
use Rattle.lists.proofs.FoldLaws.{kept_nil, kept_again, kept_new}
use Rattle.format.specs.Bytes.{Bytes, fields, strip}
use Rattle.format.specs.Labels.{ListOf, Bonds, Charges, Radicals, Centres, Pairs, XyzOf, MaxXyz, XyzFactor, XyzRows, Holds, Text, Version, Formula, BlockId, Atoms, Rows, Xyz, Handedness, End, Skipped, Label, Line, Plain, Unparted, Labelled, line_of}
use Rattle.format.specs.Rows.{Row, AtomRow, number, field, atom_shape, row_shape}
use Rattle.format.specs.Formula.{Counted, formula_shape}
use Rattle.format.specs.Coordinates.{xyz_shape, Factor, factor_shape, Geometry}
use Rattle.format.specs.Structure.{Atom, Structure, rows_of, meets, Entry}
use Rattle.format.specs.Reading.{State, Prose, with_body, with_formula, with_geometry, with_text, with_atoms, with_id, with_yes, with_rows, ordered, opened, only_field}
use Rattle.demands.specs.Accepted.{told_as, runs_on, label_on, listed, row_on, entries_as, atom_of, yes_shape}
use Rattle.demands.specs.ReadAs.{id_as}
use Rattle.demands.proofs.AcceptedContents.{atom_in, atom_on, same_list, row_in, row_of, entries_in, id_in, formula_held, id_held, same_list_lem, list_same}
use Rattle.demands.proofs.AcceptedAfter.{add_all, add_atom, chosen, add_row, add_formula, add_id, add_greatest, add_factor, add_xyz, xyz_after, xyz_after_further, add_yes, after_value, after_further, after_as, after}

-- WHAT NO LINE'S CONTENT CHANGES: the record that runs, the labels seen
module _ {B : Type 0} (g : State → B) where
  pub all_same : {A : Type 0} (f : State → A → State) → ((st : State) (x : A) → g (f st x) ≡ g st) → (st : State) (xs : List A) → g (add_all f st xs) ≡ g st
  all_same f h st [] = refl
  all_same f h st (x ∷ xs) = all_same f h (f st x) xs ∙ h st x

  pub row_same : (l : ListOf) → ((st : State) (rs : List Row) → g (with_body st (with_rows l rs st.body)) ≡ g st) → (st : State) (r : Row) → g (add_row l st r) ≡ g st
  row_same l h st r = by (any (meets l r) (rows_of l st.body))
    where
      by : (b : Bool) → g (chosen b st (with_body st (with_rows l (r ∷ rows_of l st.body) st.body))) ≡ g st
      by true = refl
      by false = h st (r ∷ rows_of l st.body)

  -- the geometry's three records
  module _ (h : (st : State) (p : Geometry) → g (with_geometry st p) ≡ g st) where
    pub xyz_same : (x : XyzOf) (st : State) (fs : List Bytes) → g (xyz_after x st fs) ≡ g st
    xyz_same MaxXyz st fs = by (number (only_field fs))
      where
        by : (o : Option ℕ) → g (add_greatest st o) ≡ g st
        by None = refl
        by (Some n) = h st _
    xyz_same XyzFactor st fs = by (factor_shape (only_field fs))
      where
        by : (o : Option Factor) → g (add_factor st o) ≡ g st
        by None = refl
        by (Some f) = h st _
    xyz_same XyzRows st fs = all_same add_xyz (λ s r. h s _) st (row_on xyz_shape fs)

    pub xyz_further_same : (x : XyzOf) (st : State) (fs : List Bytes) → g (xyz_after_further x st fs) ≡ g st
    xyz_further_same MaxXyz st fs = refl
    xyz_further_same XyzFactor st fs = refl
    xyz_further_same XyzRows st fs = all_same add_xyz (λ s r. h s _) st (row_on xyz_shape fs)

  module _ (text : (st : State) (i : ℕ) (t : Prose) → g (with_text st i t) ≡ g st) (formula : (st : State) (es : List Entry) → g (with_formula st es) ≡ g st) (body : (st : State) (s : Structure) → g (with_body st s) ≡ g st) (placing : (st : State) (p : Geometry) → g (with_geometry st p) ≡ g st) (k : ℕ) where
    formula_same : (st : State) (o : Option (List Counted)) → g (add_formula k st o) ≡ g st
    formula_same st None = refl
    formula_same st (Some cs) = formula st _

    id_same : (st : State) (o : Option ℕ) → g (add_id st o) ≡ g st
    id_same st None = refl
    id_same st (Some n) = body st _

    pub value_same : (h : Holds) (st : State) (from : ℕ) (v : Bytes) → g (after_value k h st from v) ≡ g st
    value_same (Text i) st from v = text st i _
    value_same Version st from v = refl
    value_same Formula st from v = formula_same st (formula_shape (strip v))
    value_same BlockId st from v = id_same st (number (field 0 (fields (strip v))))
    value_same Atoms st from v = all_same (add_atom k) (λ s r. body s _) st (row_on atom_shape (fields (strip v)))
    value_same (Rows l) st from v = all_same (add_row l) (row_same l (λ s rs. body s _)) st (map ordered (row_on (row_shape l) (fields (strip v))))
    value_same (Xyz x) st from v = xyz_same placing x st (fields (strip v))
    value_same Handedness st from v = all_same add_yes (λ s y. body s _) st (row_on yes_shape (fields (strip v)))
    value_same End st from v = refl
    value_same Skipped st from v = refl

    pub further_same : (h : Holds) (st : State) (l : Bytes) → g (after_further k h st l) ≡ g st
    further_same (Text i) st l = text st i _
    further_same Version st l = refl
    further_same Formula st l = refl
    further_same BlockId st l = refl
    further_same Atoms st l = all_same (add_atom k) (λ s r. body s _) st (row_on atom_shape (fields (strip l)))
    further_same (Rows m) st l = all_same (add_row m) (row_same m (λ s rs. body s _)) st (map ordered (row_on (row_shape m) (fields (strip l))))
    further_same (Xyz x) st l = xyz_further_same placing x st (fields (strip l))
    further_same Handedness st l = all_same add_yes (λ s y. body s _) st (row_on yes_shape (fields (strip l)))
    further_same End st l = refl
    further_same Skipped st l = refl

noted_is : (b : Bool) (x : Label) (seen : List Label) → elim b [ true ↦ seen | false ↦ x ∷ seen ] ≡ elim b [ true ↦ [] | false ↦ x ∷ [] ] ++ seen
noted_is true x seen = refl
noted_is false x seen = refl

module _ (k : ℕ) where
  running_as : (st : State) (l : Bytes) (line : Line) → (after_as k st l line).running ≡ runs_on st.running line
  running_as st l Plain = further_same (λ (s : State). s.running) (λ s i t. refl) (λ s es. refl) (λ s b. refl) (λ s p. refl) k st.running st l
  running_as st l Unparted = refl
  running_as st l (Labelled x v) = value_same (λ (s : State). s.running) (λ s i t. refl) (λ s es. refl) (λ s b. refl) (λ s p. refl) k x.holds (opened st x) _ v

  pub after_running : (st : State) (l : Bytes) → (after k st l).running ≡ runs_on st.running (line_of l)
  unfolding after
  after_running st l = running_as st l (line_of l)

  seen_as : (st : State) (l : Bytes) (line : Line) → (after_as k st l line).seen ≡ label_on line ++ st.seen
  seen_as st l Plain = further_same (λ (s : State). s.seen) (λ s i t. refl) (λ s es. refl) (λ s b. refl) (λ s p. refl) k st.running st l
  seen_as st l Unparted = refl
  seen_as st l (Labelled x v) =
      value_same (λ (s : State). s.seen) (λ s i t. refl) (λ s es. refl) (λ s b. refl) (λ s p. refl) k x.holds (opened st x) _ v ∙ noted_is (eqb x.code 0) x st.seen

  pub after_seen : (st : State) (l : Bytes) → (after k st l).seen ≡ label_on (line_of l) ++ st.seen
  unfolding after
  after_seen st l = seen_as st l (line_of l)

  -- THE ATOMS, in their order
  rows_atoms : (l : ListOf) (rs : List Row) (s : Structure) → (with_rows l rs s).atoms ≡ s.atoms
  unfolding with_rows
  rows_atoms Bonds rs s = refl
  rows_atoms Charges rs s = refl
  rows_atoms Radicals rs s = refl
  rows_atoms Centres rs s = refl
  rows_atoms Pairs rs s = refl

  add_atoms : (st : State) (rs : List AtomRow) → (add_all (add_atom k) st rs).body.atoms ≡ st.body.atoms ++ map (atom_of k) rs
  add_atoms st [] = sym (append-nil st.body.atoms)
  add_atoms st (r ∷ rs) = add_atoms (add_atom k st r) rs ∙ append_assoc st.body.atoms (atom_of k r ∷ []) (map (atom_of k) rs)

  list_atoms : (m : ListOf) (st : State) (rs : List Row) → (add_all (add_row m) st rs).body.atoms ≡ st.body.atoms
  list_atoms m st rs = all_same (λ (s : State). s.body.atoms) (add_row m) (row_same (λ (s : State). s.body.atoms) m (λ s qs. rows_atoms m qs s.body)) st rs

  pub formula_body : (st : State) (o : Option (List Counted)) → (add_formula k st o).body ≡ st.body
  formula_body st None = refl
  formula_body st (Some cs) = refl

  id_atoms : (st : State) (o : Option ℕ) → (add_id st o).body.atoms ≡ st.body.atoms
  id_atoms st None = refl
  id_atoms st (Some n) = refl

  value_atoms : (h : Holds) (st : State) (from : ℕ) (v : Bytes) → (after_value k h st from v).body.atoms ≡ st.body.atoms ++ map (atom_of k) (atom_in h v)
  value_atoms (Text i) st from v = sym (append-nil st.body.atoms)
  value_atoms Version st from v = sym (append-nil st.body.atoms)
  value_atoms Formula st from v = ap (λ (s : Structure). s.atoms) (formula_body st (formula_shape (strip v))) ∙ sym (append-nil st.body.atoms)
  value_atoms BlockId st from v = id_atoms st (number (field 0 (fields (strip v)))) ∙ sym (append-nil st.body.atoms)
  value_atoms Atoms st from v = add_atoms st (row_on atom_shape (fields (strip v)))
  value_atoms (Rows m) st from v = list_atoms m st (map ordered (row_on (row_shape m) (fields (strip v)))) ∙ sym (append-nil st.body.atoms)
  value_atoms (Xyz x) st from v = xyz_same (λ (s : State). s.body.atoms) (λ s p. refl) x st (fields (strip v)) ∙ sym (append-nil st.body.atoms)
  value_atoms Handedness st from v = all_same (λ (s : State). s.body.atoms) add_yes (λ s y. refl) st (row_on yes_shape (fields (strip v))) ∙ sym (append-nil st.body.atoms)
  value_atoms End st from v = sym (append-nil st.body.atoms)
  value_atoms Skipped st from v = sym (append-nil st.body.atoms)

  further_atoms : (h : Holds) (st : State) (l : Bytes) → (after_further k h st l).body.atoms ≡ st.body.atoms ++ map (atom_of k) (atom_in h l)
  further_atoms (Text i) st l = sym (append-nil st.body.atoms)
  further_atoms Version st l = sym (append-nil st.body.atoms)
  further_atoms Formula st l = sym (append-nil st.body.atoms)
  further_atoms BlockId st l = sym (append-nil st.body.atoms)
  further_atoms Atoms st l = add_atoms st (row_on atom_shape (fields (strip l)))
  further_atoms (Rows m) st l = list_atoms m st (map ordered (row_on (row_shape m) (fields (strip l)))) ∙ sym (append-nil st.body.atoms)
  further_atoms (Xyz x) st l = xyz_further_same (λ (s : State). s.body.atoms) (λ s p. refl) x st (fields (strip l)) ∙ sym (append-nil st.body.atoms)
  further_atoms Handedness st l = all_same (λ (s : State). s.body.atoms) add_yes (λ s y. refl) st (row_on yes_shape (fields (strip l))) ∙ sym (append-nil st.body.atoms)
  further_atoms End st l = sym (append-nil st.body.atoms)
  further_atoms Skipped st l = sym (append-nil st.body.atoms)

  atoms_as : (st : State) (l : Bytes) (line : Line) → (after_as k st l line).body.atoms ≡ st.body.atoms ++ map (atom_of k) (flat atom_on (told_as st.running l line))
  atoms_as st l Plain = further_atoms st.running st l ∙ ap (λ (rs : List AtomRow). st.body.atoms ++ map (atom_of k) rs) (sym (flat_one atom_on _))
  atoms_as st l Unparted = sym (append-nil st.body.atoms) ∙ ap (λ (rs : List AtomRow). st.body.atoms ++ map (atom_of k) rs) (sym (flat_nil atom_on))
  atoms_as st l (Labelled x v) = value_atoms x.holds (opened st x) _ v ∙ ap (λ (rs : List AtomRow). st.body.atoms ++ map (atom_of k) rs) (sym (flat_one atom_on _))

  pub after_atoms : (st : State) (l : Bytes) → (after k st l).body.atoms ≡ st.body.atoms ++ map (atom_of k) (flat atom_on (told_as st.running l (line_of l)))
  unfolding after
  after_atoms st l = atoms_as st l (line_of l)

-- THE ROWS OF A LIST, those that repeat another dropped, the latest first
rows_with : (l m : ListOf) (rs : List Row) (s : Structure) → rows_of l (with_rows m rs s) ≡ elim (same_list l m) [ true ↦ rs | false ↦ rows_of l s ]
unfolding rows_of with_rows
rows_with Bonds Bonds rs s = refl
rows_with Bonds Charges rs s = refl
rows_with Bonds Radicals rs s = refl
rows_with Bonds Centres rs s = refl
rows_with Bonds Pairs rs s = refl
rows_with Charges Bonds rs s = refl
rows_with Charges Charges rs s = refl
rows_with Charges Radicals rs s = refl
rows_with Charges Centres rs s = refl
rows_with Charges Pairs rs s = refl
rows_with Radicals Bonds rs s = refl
rows_with Radicals Charges rs s = refl
rows_with Radicals Radicals rs s = refl
rows_with Radicals Centres rs s = refl
rows_with Radicals Pairs rs s = refl
rows_with Centres Bonds rs s = refl
rows_with Centres Charges rs s = refl
rows_with Centres Radicals rs s = refl
rows_with Centres Centres rs s = refl
rows_with Centres Pairs rs s = refl
rows_with Pairs Bonds rs s = refl
rows_with Pairs Charges rs s = refl
rows_with Pairs Radicals rs s = refl
rows_with Pairs Centres rs s = refl
rows_with Pairs Pairs rs s = refl

atoms_rows : (l : ListOf) (as' : List Atom) (s : Structure) → rows_of l (with_atoms as' s) ≡ rows_of l s
unfolding rows_of
atoms_rows Bonds as' s = refl
atoms_rows Charges as' s = refl
atoms_rows Radicals as' s = refl
atoms_rows Centres as' s = refl
atoms_rows Pairs as' s = refl

id_rows : (l : ListOf) (n : ℕ) (s : Structure) → rows_of l (with_id n s) ≡ rows_of l s
unfolding rows_of
id_rows Bonds n s = refl
id_rows Charges n s = refl
id_rows Radicals n s = refl
id_rows Centres n s = refl
id_rows Pairs n s = refl

yes_rows_lem : (l : ListOf) (s : Structure) → rows_of l (with_yes s) ≡ rows_of l s
unfolding rows_of
yes_rows_lem Bonds s = refl
yes_rows_lem Charges s = refl
yes_rows_lem Radicals s = refl
yes_rows_lem Centres s = refl
yes_rows_lem Pairs s = refl

module _ (l : ListOf) where
  -- the rows of this list
  add_own : (st : State) (rs : List Row) → rows_of l (add_all (add_row l) st rs).body ≡ kept (meets l) (rows_of l st.body) rs
  add_own st [] = sym (kept_nil (meets l) (rows_of l st.body))
  add_own st (r ∷ rs) = add_own (add_row l st r) rs ∙ by (any (meets l r) (rows_of l st.body)) refl
    where
      by : (b : Bool) → any (meets l r) (rows_of l st.body) ≡ b
          → kept (meets l) (rows_of l (chosen b st (with_body st (with_rows l (r ∷ rows_of l st.body) st.body))).body) rs ≡ kept (meets l) (rows_of l st.body) (r ∷ rs)
      by true e = sym (kept_again (meets l) (rows_of l st.body) r rs e)
      by false e =
          let q : rows_of l (with_rows l (r ∷ rows_of l st.body) st.body) ≡ r ∷ rows_of l st.body =
          rows_with l l (r ∷ rows_of l st.body) st.body ∙ rw (list_same l) in
          ap (λ (qs : List Row). kept (meets l) qs rs) q ∙ sym (kept_new (meets l) (rows_of l st.body) r rs e)

  -- those of another
  add_other : (m : ListOf) → same_list l m ≡ false → (st : State) (rs : List Row) → rows_of l (add_all (add_row m) st rs).body ≡ rows_of l st.body
  add_other m e st rs =
      all_same (λ (s : State). rows_of l s.body) (add_row m) (row_same (λ (s : State). rows_of l s.body) m (λ s qs. rows_with l m qs s.body ∙ rw e)) st rs

  add_rows : (m : ListOf) (st : State) (rs : List Row) → rows_of l (add_all (add_row m) st rs).body ≡ kept (meets l) (rows_of l st.body) (elim (same_list l m) [ true ↦ rs | false ↦ [] ])
  add_rows m st rs = by (same_list l m) refl
    where
      by : (b : Bool) → same_list l m ≡ b → rows_of l (add_all (add_row m) st rs).body ≡ kept (meets l) (rows_of l st.body) (elim b [ true ↦ rs | false ↦ [] ])
      by true e = ap (λ (n : ListOf). rows_of l (add_all (add_row n) st rs).body) (sym (same_list_lem l m e)) ∙ add_own st rs
      by false e = add_other m e st rs ∙ sym (kept_nil (meets l) (rows_of l st.body))

  none_kept : (st : State) → rows_of l st.body ≡ kept (meets l) (rows_of l st.body) []
  none_kept st = sym (kept_nil (meets l) (rows_of l st.body))

  module _ (k : ℕ) where
    atoms_kept : (st : State) (rs : List AtomRow) → rows_of l (add_all (add_atom k) st rs).body ≡ kept (meets l) (rows_of l st.body) []
    atoms_kept st rs = all_same (λ (s : State). rows_of l s.body) (add_atom k) (λ s r. atoms_rows l _ s.body) st rs ∙ none_kept st

    id_kept : (st : State) (o : Option ℕ) → rows_of l (add_id st o).body ≡ rows_of l st.body
    id_kept st None = refl
    id_kept st (Some n) = id_rows l n st.body

    value_rows : (h : Holds) (st : State) (from : ℕ) (v : Bytes) → rows_of l (after_value k h st from v).body ≡ kept (meets l) (rows_of l st.body) (row_in l h v)
    value_rows (Text i) st from v = none_kept st
    value_rows Version st from v = none_kept st
    value_rows Formula st from v = ap (rows_of l) (formula_body k st (formula_shape (strip v))) ∙ none_kept st
    value_rows BlockId st from v = id_kept st (number (field 0 (fields (strip v)))) ∙ none_kept st
    value_rows Atoms st from v = atoms_kept st (row_on atom_shape (fields (strip v)))
    value_rows (Rows m) st from v = add_rows m st (map ordered (row_on (row_shape m) (fields (strip v))))
    value_rows (Xyz x) st from v = xyz_same (λ (s : State). rows_of l s.body) (λ s p. refl) x st (fields (strip v)) ∙ none_kept st
    value_rows Handedness st from v = all_same (λ (s : State). rows_of l s.body) add_yes (λ s y. yes_rows_lem l s.body) st (row_on yes_shape (fields (strip v))) ∙ none_kept st
    value_rows End st from v = none_kept st
    value_rows Skipped st from v = none_kept st

    further_rows : (h : Holds) (st : State) (b : Bytes) → rows_of l (after_further k h st b).body ≡ kept (meets l) (rows_of l st.body) (row_in l h b)
    further_rows (Text i) st b = none_kept st
    further_rows Version st b = none_kept st
    further_rows Formula st b = none_kept st
    further_rows BlockId st b = none_kept st
    further_rows Atoms st b = atoms_kept st (row_on atom_shape (fields (strip b)))
    further_rows (Rows m) st b = add_rows m st (map ordered (row_on (row_shape m) (fields (strip b))))
    further_rows (Xyz x) st b = xyz_further_same (λ (s : State). rows_of l s.body) (λ s p. refl) x st (fields (strip b)) ∙ none_kept st
    further_rows Handedness st b = all_same (λ (s : State). rows_of l s.body) add_yes (λ s y. yes_rows_lem l s.body) st (row_on yes_shape (fields (strip b))) ∙ none_kept st
    further_rows End st b = none_kept st
    further_rows Skipped st b = none_kept st

    rows_as : (st : State) (b : Bytes) (line : Line) → rows_of l (after_as k st b line).body ≡ kept (meets l) (rows_of l st.body) (flat (row_of l) (told_as st.running b line))
    rows_as st b Plain = further_rows st.running st b ∙ ap (kept (meets l) (rows_of l st.body)) (sym (flat_one (row_of l) _))
    rows_as st b Unparted = none_kept st ∙ ap (kept (meets l) (rows_of l st.body)) (sym (flat_nil (row_of l)))
    rows_as st b (Labelled x v) = value_rows x.holds (opened st x) _ v ∙ ap (kept (meets l) (rows_of l st.body)) (sym (flat_one (row_of l) _))

    pub after_rows : (st : State) (b : Bytes) → rows_of l (after k st b).body ≡ kept (meets l) (rows_of l st.body) (flat (row_of l) (told_as st.running b (line_of b)))
    unfolding after
    after_rows st b = rows_as st b (line_of b)

-- THE FORMULA, which a MOLFORM value alone gives
module _ (k : ℕ) where
  add_formula_lem : (st : State) (o : Option (List Counted)) → st.formula ≡ [] → (add_formula k st o).formula ≡ entries_as k o
  add_formula_lem st None e = e
  add_formula_lem st (Some cs) e = refl

  id_formula : (st : State) (o : Option ℕ) → (add_id st o).formula ≡ st.formula
  id_formula st None = refl
  id_formula st (Some n) = refl

  pub value_formula : (h : Holds) (st : State) (from : ℕ) (v : Bytes) → formula_held h ≡ false → ((after_value k h st from v).formula ≡ st.formula) × (entries_in k h v ≡ [])
  value_formula (Text i) st from v e = (refl, refl)
  value_formula Version st from v e = (refl, refl)
  value_formula Formula st from v e = torn true refl e
  value_formula BlockId st from v e = (id_formula st (number (field 0 (fields (strip v)))), refl)
  value_formula Atoms st from v e = (all_same (λ (s : State). s.formula) (add_atom k) (λ s r. refl) st (row_on atom_shape (fields (strip v))), refl)
  value_formula (Rows m) st from v e = (all_same (λ (s : State). s.formula) (add_row m) (row_same (λ (s : State). s.formula) m (λ s rs. refl)) st (map ordered (row_on (row_shape m) (fields (strip v)))), refl)
  value_formula (Xyz x) st from v e = (xyz_same (λ (s : State). s.formula) (λ s p. refl) x st (fields (strip v)), refl)
  value_formula Handedness st from v e = (all_same (λ (s : State). s.formula) add_yes (λ s y. refl) st (row_on yes_shape (fields (strip v))), refl)
  value_formula End st from v e = (refl, refl)
  value_formula Skipped st from v e = (refl, refl)

  pub value_entries : (h : Holds) (st : State) (from : ℕ) (v : Bytes) → st.formula ≡ [] → formula_held h ≡ true → (after_value k h st from v).formula ≡ entries_in k h v
  value_entries (Text i) st from v n e = torn false e refl
  value_entries Version st from v n e = torn false e refl
  value_entries Formula st from v n e = add_formula_lem st (formula_shape (strip v)) n
  value_entries BlockId st from v n e = torn false e refl
  value_entries Atoms st from v n e = torn false e refl
  value_entries (Rows m) st from v n e = torn false e refl
  value_entries (Xyz x) st from v n e = torn false e refl
  value_entries Handedness st from v n e = torn false e refl
  value_entries End st from v n e = torn false e refl
  value_entries Skipped st from v n e = torn false e refl

  pub further_formula : (h : Holds) (st : State) (l : Bytes) → (after_further k h st l).formula ≡ st.formula
  further_formula (Text i) st l = refl
  further_formula Version st l = refl
  further_formula Formula st l = refl
  further_formula BlockId st l = refl
  further_formula Atoms st l = all_same (λ (s : State). s.formula) (add_atom k) (λ s r. refl) st (row_on atom_shape (fields (strip l)))
  further_formula (Rows m) st l = all_same (λ (s : State). s.formula) (add_row m) (row_same (λ (s : State). s.formula) m (λ s rs. refl)) st (map ordered (row_on (row_shape m) (fields (strip l))))
  further_formula (Xyz x) st l = xyz_further_same (λ (s : State). s.formula) (λ s p. refl) x st (fields (strip l))
  further_formula Handedness st l = all_same (λ (s : State). s.formula) add_yes (λ s y. refl) st (row_on yes_shape (fields (strip l)))
  further_formula End st l = refl
  further_formula Skipped st l = refl

-- THE BLOCK ID, which a BLOCK_ID value alone gives
rows_id : (l : ListOf) (rs : List Row) (s : Structure) → (with_rows l rs s).id ≡ s.id
unfolding with_rows
rows_id Bonds rs s = refl
rows_id Charges rs s = refl
rows_id Radicals rs s = refl
rows_id Centres rs s = refl
rows_id Pairs rs s = refl

module _ (k : ℕ) where
  formula_id : (st : State) (o : Option (List Counted)) → (add_formula k st o).body.id ≡ st.body.id
  formula_id st None = refl
  formula_id st (Some cs) = refl

  add_id_lem : (st : State) (o : Option ℕ) → st.body.id ≡ 0 → (add_id st o).body.id ≡ id_as (listed o)
  add_id_lem st None e = e
  add_id_lem st (Some n) e = refl

  atoms_id : (st : State) (rs : List AtomRow) → (add_all (add_atom k) st rs).body.id ≡ st.body.id
  atoms_id st rs = all_same (λ (s : State). s.body.id) (add_atom k) (λ s r. refl) st rs

  list_id : (m : ListOf) (st : State) (rs : List Row) → (add_all (add_row m) st rs).body.id ≡ st.body.id
  list_id m st rs = all_same (λ (s : State). s.body.id) (add_row m) (row_same (λ (s : State). s.body.id) m (λ s qs. rows_id m qs s.body)) st rs

  pub value_quiet_id : (h : Holds) (st : State) (from : ℕ) (v : Bytes) → id_held h ≡ false → ((after_value k h st from v).body.id ≡ st.body.id) × (id_in h v ≡ [])
  value_quiet_id (Text i) st from v e = (refl, refl)
  value_quiet_id Version st from v e = (refl, refl)
  value_quiet_id Formula st from v e = (formula_id st (formula_shape (strip v)), refl)
  value_quiet_id BlockId st from v e = torn true refl e
  value_quiet_id Atoms st from v e = (atoms_id st (row_on atom_shape (fields (strip v))), refl)
  value_quiet_id (Rows m) st from v e = (list_id m st (map ordered (row_on (row_shape m) (fields (strip v)))), refl)
  value_quiet_id (Xyz x) st from v e = (xyz_same (λ (s : State). s.body.id) (λ s p. refl) x st (fields (strip v)), refl)
  value_quiet_id Handedness st from v e = (all_same (λ (s : State). s.body.id) add_yes (λ s y. refl) st (row_on yes_shape (fields (strip v))), refl)
  value_quiet_id End st from v e = (refl, refl)
  value_quiet_id Skipped st from v e = (refl, refl)

  pub value_id : (h : Holds) (st : State) (from : ℕ) (v : Bytes) → st.body.id ≡ 0 → id_held h ≡ true → (after_value k h st from v).body.id ≡ id_as (id_in h v)
  value_id (Text i) st from v n e = torn false e refl
  value_id Version st from v n e = torn false e refl
  value_id Formula st from v n e = torn false e refl
  value_id BlockId st from v n e = add_id_lem st (number (field 0 (fields (strip v)))) n
  value_id Atoms st from v n e = torn false e refl
  value_id (Rows m) st from v n e = torn false e refl
  value_id (Xyz x) st from v n e = torn false e refl
  value_id Handedness st from v n e = torn false e refl
  value_id End st from v n e = torn false e refl
  value_id Skipped st from v n e = torn false e refl

  pub further_id : (h : Holds) (st : State) (l : Bytes) → (after_further k h st l).body.id ≡ st.body.id
  further_id (Text i) st l = refl
  further_id Version st l = refl
  further_id Formula st l = refl
  further_id BlockId st l = refl
  further_id Atoms st l = atoms_id st (row_on atom_shape (fields (strip l)))
  further_id (Rows m) st l = list_id m st (map ordered (row_on (row_shape m) (fields (strip l))))
  further_id (Xyz x) st l = xyz_further_same (λ (s : State). s.body.id) (λ s p. refl) x st (fields (strip l))
  further_id Handedness st l = all_same (λ (s : State). s.body.id) add_yes (λ s y. refl) st (row_on yes_shape (fields (strip l)))
  further_id End st l = refl
  further_id Skipped st l = refl
