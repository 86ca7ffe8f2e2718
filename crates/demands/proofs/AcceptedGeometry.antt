-- What the three records of a block's geometry give: the rows of XYZ name listed atoms, ascending, and after all lines the state has MAX_XYZ, the factor and those
-- rows, the latest first. Serves "accepted exactly when" and what the tables then hold; document 02, L2. Assumes nothing.
use Prim.Native.Nat.{ℕ, ◌≤◌}
use mathlib.Core.Path.{◌≡◌, refl, sym, ap, ◌∙◌}
use mathlib.Core.Bool.{Bool, true, false, not, ◌&&◌, ◌||◌, or-false}
use Rattle.std.specs.declared.option.Option.{Option}
use Rattle.std.specs.declared.option.Option.TheVariants.{None, Some}
use mathlib.Core.List.{List, [], ◌∷◌, ◌++◌, reverse, reverse_aux, map}
use native.Mathlib.Omega.{arith}
use lib.ListN.{length}
use lib.Dec.{eqb, leb}
use Rattle.lists.specs.Lists.{all, any, pairs, flat}
use Rattle.lists.proofs.Bools.{torn, or_parts, or_exchange}
use Rattle.lists.proofs.ListLaws.{all_nil, all_one, any_nil, any_cons}
use Rattle.lists.proofs.PartLaws.{flat_nil, flat_one}
use Rattle.format.specs.Bytes.{Bytes, within, fields, strip}
use Rattle.format.specs.Labels.{ListOf, XyzOf, MaxXyz, XyzFactor, XyzRows, Holds, Text, Version, Formula, BlockId, Atoms, Rows, Xyz, Handedness, End, Skipped, Label, label, known, Line, Plain, Unparted, Labelled, line_of}
use Rattle.format.specs.Rows.{number, Row, AtomRow, field, atom_shape, row_shape}
use Rattle.format.specs.Formula.{Counted, formula_shape}
use Rattle.format.specs.Coordinates.{XyzRow, xyz_shape, Factor, factor, factor_shape, Geometry, exceeds, geometry}
use Rattle.format.specs.Reading.{State, atom_count, opened, only_field, ordered}
use Rattle.demands.specs.Accepted.{Told, Value, Further, told_as, told, listed, row_on, Yes, yes_shape, first_or}
use Rattle.demands.proofs.AcceptedHolds.{by_holds, by_geometry, by_xyz, geometry_each, geometry_same, geometry_map, geometry_quiet}
use Rattle.demands.proofs.AcceptedContents.{greatest_on, factor_on, xyz_in, xyz_on, greatest_held, factor_held, behind_atoms}
use Rattle.demands.proofs.AcceptedAfter.{add_all, add_atom, add_row, add_formula, add_id, add_greatest, add_factor, add_xyz, xyz_after, xyz_after_further, add_yes, after_value, after_further, after_as, after, afters}
use Rattle.demands.proofs.AcceptedSteps.{row_passes, xyz_passes, on_line, xyz_listed_at, xyz_above_at, along}
use Rattle.demands.proofs.AcceptedState.{all_same, row_same}
use Rattle.demands.proofs.AcceptedLines.{label_passed, each_apart, apart_pairs, placed}
use Rattle.demands.proofs.AcceptedRows.{few_on, few_told, row_all, told_nil, told_after, along_same}
use Rattle.demands.proofs.AcceptedOrder.{Follows, given_listed}
use Rattle.demands.proofs.AcceptedOnce.{once_is}

-- THE GEOMETRY, which its three records alone give
module _ (k : ℕ) where
  formula_geometry : (st : State) (o : Option (List Counted)) → (add_formula k st o).geometry ≡ st.geometry
  formula_geometry st None = refl
  formula_geometry st (Some cs) = refl

  id_geometry : (st : State) (o : Option ℕ) → (add_id st o).geometry ≡ st.geometry
  id_geometry st None = refl
  id_geometry st (Some n) = refl

  atoms_geometry : (st : State) (rs : List AtomRow) → (add_all (add_atom k) st rs).geometry ≡ st.geometry
  atoms_geometry st rs = all_same (λ (s : State). s.geometry) (add_atom k) (λ s r. refl) st rs

  list_geometry : (m : ListOf) (st : State) (rs : List Row) → (add_all (add_row m) st rs).geometry ≡ st.geometry
  list_geometry m st rs = all_same (λ (s : State). s.geometry) (add_row m) (row_same (λ (s : State). s.geometry) m (λ s qs. refl)) st rs

  yes_geometry : (st : State) (ys : List Yes) → (add_all add_yes st ys).geometry ≡ st.geometry
  yes_geometry st ys = all_same (λ (s : State). s.geometry) add_yes (λ s y. refl) st ys

  -- any other record leaves it, so that what is said of it after a line is said by the three
  module _ {B : Type 0} (g : Geometry → B) where
    value_geometry : (h : Holds) (st : State) (from : ℕ) (v : Bytes) → g (after_value k h st from v).geometry ≡ by_geometry (g st.geometry) (λ x. g (xyz_after x st (fields (strip v))).geometry) h
    value_geometry (Text i) st from v = refl
    value_geometry Version st from v = refl
    value_geometry Formula st from v = ap g (formula_geometry st (formula_shape (strip v)))
    value_geometry BlockId st from v = ap g (id_geometry st (number (field 0 (fields (strip v)))))
    value_geometry Atoms st from v = ap g (atoms_geometry st (row_on atom_shape (fields (strip v))))
    value_geometry (Rows m) st from v = ap g (list_geometry m st (map ordered (row_on (row_shape m) (fields (strip v)))))
    value_geometry (Xyz x) st from v = refl
    value_geometry Handedness st from v = ap g (yes_geometry st (row_on yes_shape (fields (strip v))))
    value_geometry End st from v = refl
    value_geometry Skipped st from v = refl

    further_geometry : (h : Holds) (st : State) (l : Bytes) → g (after_further k h st l).geometry ≡ by_geometry (g st.geometry) (λ x. g (xyz_after_further x st (fields (strip l))).geometry) h
    further_geometry (Text i) st l = refl
    further_geometry Version st l = refl
    further_geometry Formula st l = refl
    further_geometry BlockId st l = refl
    further_geometry Atoms st l = ap g (atoms_geometry st (row_on atom_shape (fields (strip l))))
    further_geometry (Rows m) st l = ap g (list_geometry m st (map ordered (row_on (row_shape m) (fields (strip l)))))
    further_geometry (Xyz x) st l = refl
    further_geometry Handedness st l = ap g (yes_geometry st (row_on yes_shape (fields (strip l))))
    further_geometry End st l = refl
    further_geometry Skipped st l = refl

-- A ROW OF XYZ ON A LINE
xyz_none : (h : Holds) (b : Bytes) → behind_atoms h ≡ false → xyz_in h b ≡ []
xyz_none h b e = geometry_quiet [] (by_xyz [] [] (row_on xyz_shape (fields (strip b)))) (λ x. true) (λ x f. torn true refl f) h (behind h e)
  where
    behind : (g : Holds) → behind_atoms g ≡ false → by_geometry false (λ x. true) g ≡ false
    behind g f = (or_parts (by_holds false false false false (λ l. true) g) (by_geometry false (λ x. true) g) f).1

few_xyz : (h : Holds) (l : Bytes) → length (xyz_in h l) ≤ 1
few_xyz h l = geometry_each [] (by_xyz [] [] (row_on xyz_shape (fields (strip l)))) (λ (rs : List XyzRow). length rs ≤ 1) (omega arith) own h
  where
    own : (x : XyzOf) → length (by_xyz [] [] (row_on xyz_shape (fields (strip l))) x) ≤ 1
    own MaxXyz = omega arith
    own XyzFactor = omega arith
    own XyzRows = few_on xyz_shape (fields (strip l))

few_xyzs : (t : Told) → length (xyz_on t) ≤ 1
few_xyzs (Value h v) = few_xyz h v
few_xyzs (Further h l) = few_xyz h l

xyz_all : (test : XyzRow → Bool) (h : Holds) (l : Bytes) → xyz_passes test h l ≡ all test (xyz_in h l)
xyz_all test h l =
    geometry_same true (by_xyz true true (row_passes xyz_shape test (fields (strip l)))) (all test []) (λ x. all test (by_xyz [] [] (row_on xyz_shape (fields (strip l))) x)) (sym (all_nil test)) own h
    ∙ sym (geometry_map [] (by_xyz [] [] (row_on xyz_shape (fields (strip l)))) (all test) h)
  where
    own : (x : XyzOf) → by_xyz true true (row_passes xyz_shape test (fields (strip l))) x ≡ all test (by_xyz [] [] (row_on xyz_shape (fields (strip l))) x)
    own MaxXyz = sym (all_nil test)
    own XyzFactor = sym (all_nil test)
    own XyzRows = row_all xyz_shape test (fields (strip l))

abbrev pub xyz_test : (State → XyzRow → Bool) → State → Bytes → Bool
xyz_test test st l = on_line (xyz_passes (test st)) (xyz_passes (test st)) st.running l (line_of l)

abbrev xyz_at : State → Bytes → List XyzRow
xyz_at st l = flat xyz_on (told_as st.running l (line_of l))

xyz_line_lem : (test : XyzRow → Bool) (h : Holds) (l : Bytes) (line : Line) → on_line (xyz_passes test) (xyz_passes test) h l line ≡ all test (flat xyz_on (told_as h l line))
xyz_line_lem test h l Plain = xyz_all test h l ∙ ap (all test) (sym (flat_one xyz_on (Further h l)))
xyz_line_lem test h l Unparted = sym (all_nil test) ∙ ap (all test) (sym (flat_nil xyz_on))
xyz_line_lem test h l (Labelled x v) = xyz_all test x.holds v ∙ ap (all test) (sym (flat_one xyz_on (Value x.holds v)))

-- THE ROWS after a line, and after all lines
reverse_more : {A : Type 0} (xs ys r : List A) → reverse_aux ys (reverse_aux xs r) ≡ reverse_aux (xs ++ ys) r
reverse_more [] ys r = refl
reverse_more (x ∷ xs) ys r = reverse_more xs ys (x ∷ r)

add_xyzs : (st : State) (rs : List XyzRow) → (add_all add_xyz st rs).geometry.rows ≡ reverse_aux rs st.geometry.rows
add_xyzs st [] = refl
add_xyzs st (r ∷ rs) = add_xyzs (add_xyz st r) rs

add_part : {B : Type 0} (g : State → B) (st : State) → ((f : Factor) → g (add_factor st (Some f)) ≡ g st) → (o : Option Factor) → g (add_factor st o) ≡ g st
add_part g st e None = refl
add_part g st e (Some f) = e f

add_bound : {B : Type 0} (g : State → B) (st : State) → ((n : ℕ) → g (add_greatest st (Some n)) ≡ g st) → (o : Option ℕ) → g (add_greatest st o) ≡ g st
add_bound g st e None = refl
add_bound g st e (Some n) = e n

module _ (k : ℕ) where
  xyz_after_lem : (st : State) (fs : List Bytes) (x : XyzOf) → (xyz_after x st fs).geometry.rows ≡ reverse_aux (by_xyz [] [] (row_on xyz_shape fs) x) st.geometry.rows
  xyz_after_lem st fs MaxXyz = add_bound (λ (s : State). s.geometry.rows) st (λ n. refl) (number (only_field fs))
  xyz_after_lem st fs XyzFactor = add_part (λ (s : State). s.geometry.rows) st (λ f. refl) (factor_shape (only_field fs))
  xyz_after_lem st fs XyzRows = add_xyzs st (row_on xyz_shape fs)

  xyz_after_further_lem : (st : State) (fs : List Bytes) (x : XyzOf) → (xyz_after_further x st fs).geometry.rows ≡ reverse_aux (by_xyz [] [] (row_on xyz_shape fs) x) st.geometry.rows
  xyz_after_further_lem st fs MaxXyz = refl
  xyz_after_further_lem st fs XyzFactor = refl
  xyz_after_further_lem st fs XyzRows = add_xyzs st (row_on xyz_shape fs)

  value_xyz : (h : Holds) (st : State) (from : ℕ) (v : Bytes) → (after_value k h st from v).geometry.rows ≡ reverse_aux (xyz_in h v) st.geometry.rows
  value_xyz h st from v =
      value_geometry k (λ p. p.rows) h st from v ∙ geometry_same _ _ _ (λ x. reverse_aux (by_xyz [] [] (row_on xyz_shape (fields (strip v))) x) st.geometry.rows) refl (xyz_after_lem st (fields (strip v))) h
      ∙ sym (geometry_map [] (by_xyz [] [] (row_on xyz_shape (fields (strip v)))) (λ rs. reverse_aux rs st.geometry.rows) h)

  further_xyz : (h : Holds) (st : State) (l : Bytes) → (after_further k h st l).geometry.rows ≡ reverse_aux (xyz_in h l) st.geometry.rows
  further_xyz h st l =
      further_geometry k (λ p. p.rows) h st l ∙ geometry_same _ _ _ (λ x. reverse_aux (by_xyz [] [] (row_on xyz_shape (fields (strip l))) x) st.geometry.rows) refl (xyz_after_further_lem st (fields (strip l))) h
      ∙ sym (geometry_map [] (by_xyz [] [] (row_on xyz_shape (fields (strip l)))) (λ rs. reverse_aux rs st.geometry.rows) h)

  xyz_as : (st : State) (l : Bytes) (line : Line) → (after_as k st l line).geometry.rows ≡ reverse_aux (flat xyz_on (told_as st.running l line)) st.geometry.rows
  xyz_as st l Plain = further_xyz st.running st l ∙ ap (λ (rs : List XyzRow). reverse_aux rs st.geometry.rows) (sym (flat_one xyz_on _))
  xyz_as st l Unparted = ap (λ (rs : List XyzRow). reverse_aux rs st.geometry.rows) (sym (flat_nil xyz_on))
  xyz_as st l (Labelled x v) = value_xyz x.holds (opened st x) _ v ∙ ap (λ (rs : List XyzRow). reverse_aux rs st.geometry.rows) (sym (flat_one xyz_on _))

  after_xyz : (st : State) (l : Bytes) → (after k st l).geometry.rows ≡ reverse_aux (xyz_at st l) st.geometry.rows
  unfolding after
  after_xyz st l = xyz_as st l (line_of l)

  pub afters_xyz : (st : State) (ls : List Bytes) → (afters k st ls).geometry.rows ≡ reverse_aux (flat xyz_on (told st.running ls)) st.geometry.rows
  unfolding afters
  afters_xyz st [] = ap (λ (rs : List XyzRow). reverse_aux rs st.geometry.rows) (sym (told_nil xyz_on st.running))
  afters_xyz st (l ∷ ls) =
      afters_xyz (after k st l) ls ∙ ap (reverse_aux (flat xyz_on (told (after k st l).running ls))) (after_xyz st l)
      ∙ reverse_more (xyz_at st l) (flat xyz_on (told (after k st l).running ls)) st.geometry.rows ∙ ap (λ (rs : List XyzRow). reverse_aux rs st.geometry.rows) (sym (told_after k xyz_on st l ls))

  -- they name listed atoms
  pub xyz_listed : (st : State) (ls : List Bytes) → Follows k st → along k (placed k) st ls ≡ true
      → along k (xyz_test xyz_listed_at) st ls ≡ all (λ r. within 1 (atom_count (afters k st ls)) r.atom) (flat xyz_on (told st.running ls))
  xyz_listed st ls f p =
      along_same k (xyz_test xyz_listed_at) (λ s b. all (xyz_listed_at s) (xyz_at s b)) (λ s b. xyz_line_lem (xyz_listed_at s) s.running b (line_of b)) st ls
      ∙ given_listed k xyz_on (λ h b e. (xyz_none h b e, xyz_none h b e)) (λ n r. within 1 n r.atom) st ls f p

  -- ascending
  abbrev pub not_above : XyzRow → XyzRow → Bool
  not_above q r = leb r.atom q.atom

  above_from : (st : State) (ls : List Bytes) → along k (λ s b. all (xyz_above_at s) (xyz_at s b)) st ls ≡ each_apart not_above st.geometry.rows (flat xyz_on (told st.running ls))
  unfolding along each_apart
  above_from st [] = ap (each_apart not_above st.geometry.rows) (sym (told_nil xyz_on st.running))
  above_from st (l ∷ ls) =
      ap (λ (t : Bool). all (xyz_above_at st) (xyz_at st l) && t) (above_from (after k st l) ls)
      ∙ by (xyz_at st l) (few_told xyz_on few_xyzs st.running l (line_of l)) (after_xyz st l)
      ∙ ap (each_apart not_above st.geometry.rows) (sym (told_after k xyz_on st l ls))
    where
      by : (rs : List XyzRow) → length rs ≤ 1 → (after k st l).geometry.rows ≡ reverse_aux rs st.geometry.rows
          → (all (xyz_above_at st) rs && each_apart not_above (after k st l).geometry.rows (flat xyz_on (told (after k st l).running ls))) ≡ each_apart not_above st.geometry.rows (rs ++ flat xyz_on (told (after k st l).running ls))
      by [] few c = rw (all_nil (xyz_above_at st), c)
      by (r ∷ []) few c = rw (all_one (xyz_above_at st) r, c)
      by (r ∷ s ∷ rs) few c = absurd (omega arith)

  pub xyz_above : (st : State) (ls : List Bytes) → st.geometry.rows ≡ [] → along k (xyz_test xyz_above_at) st ls ≡ not (pairs not_above (flat xyz_on (told st.running ls)))
  xyz_above st ls e =
      along_same k (xyz_test xyz_above_at) (λ s b. all (xyz_above_at s) (xyz_at s b)) (λ s b. xyz_line_lem (xyz_above_at s) s.running b (line_of b)) st ls
      ∙ above_from st ls ∙ ap (λ (rs : List XyzRow). each_apart not_above rs (flat xyz_on (told st.running ls))) e ∙ apart_pairs not_above (flat xyz_on (told st.running ls))

-- NO VALUE IS ABOVE MAX_XYZ, in whichever order the rows stand
any_reverse : {A : Type 0} (p : A → Bool) (xs r : List A) → any p (reverse_aux xs r) ≡ (any p xs || any p r)
any_reverse p [] r = ap (λ (t : Bool). t || any p r) (sym (any_nil p))
any_reverse p (x ∷ xs) r =
    any_reverse p xs (x ∷ r) ∙ ap (λ (t : Bool). any p xs || t) (any_cons p x r) ∙ or_exchange (any p xs) (p x) (any p r) ∙ or_left_assoc (p x) (any p xs) (any p r)
    ∙ ap (λ (t : Bool). t || any p r) (sym (any_cons p x xs))
  where
    or_left_assoc : (a b c : Bool) → (a || (b || c)) ≡ ((a || b) || c)
    or_left_assoc true b c = refl
    or_left_assoc false b c = refl

pub exceeds_reverse : (m : ℕ) (f : Factor) (rs : List XyzRow) → exceeds (geometry m f (reverse rs)) ≡ exceeds (geometry m f rs)
unfolding exceeds
exceeds_reverse m f rs = any_reverse _ rs [] ∙ ap (λ (t : Bool). exceeds (geometry m f rs) || t) (any_nil _) ∙ or-false (exceeds (geometry m f rs))

-- MAX_XYZ AND THE FACTOR, which each a value of its record alone gives
module _ (k : ℕ) where
  greatest_code : (l : Bytes) (x : Label) (v : Bytes) → line_of l ≡ Labelled x v → (not (greatest_held x.holds) || eqb x.code 14) ≡ true
  unfolding known all label
  greatest_code = label_passed (λ x. not (greatest_held x.holds) || eqb x.code 14) refl refl

  factor_code : (l : Bytes) (x : Label) (v : Bytes) → line_of l ≡ Labelled x v → (not (factor_held x.holds) || eqb x.code 15) ≡ true
  unfolding known all label
  factor_code = label_passed (λ x. not (factor_held x.holds) || eqb x.code 15) refl refl

  -- what a further line leaves, what another's value leaves, what its own value gives
  module _ {B : Type 0} (g : Geometry → B) where
    rows_still : (st : State) (rs : List XyzRow) → ((s : State) (r : XyzRow) → g (add_xyz s r).geometry ≡ g s.geometry) → g (add_all add_xyz st rs).geometry ≡ g st.geometry
    rows_still st [] e = refl
    rows_still st (r ∷ rs) e = rows_still (add_xyz st r) rs e ∙ e st r

    further_still : ((s : State) (r : XyzRow) → g (add_xyz s r).geometry ≡ g s.geometry) → (h : Holds) (st : State) (l : Bytes) → g (after_further k h st l).geometry ≡ g st.geometry
    further_still e h st l = further_geometry k g h st l ∙ geometry_each (g st.geometry) _ (λ (b : B). b ≡ g st.geometry) refl own h
      where
        own : (x : XyzOf) → g (xyz_after_further x st (fields (strip l))).geometry ≡ g st.geometry
        own MaxXyz = refl
        own XyzFactor = refl
        own XyzRows = rows_still st (row_on xyz_shape (fields (strip l))) e

  abbrev bound : Geometry → ℕ
  bound p = p.greatest

  abbrev scaled : Geometry → Factor
  scaled p = p.scale

  add_greatest_lem : (st : State) (o : Option ℕ) → st.geometry.greatest ≡ 0 → (add_greatest st o).geometry.greatest ≡ first_or 0 (listed o)
  add_greatest_lem st None e = e
  add_greatest_lem st (Some n) e = refl

  add_factor_lem : (st : State) (o : Option Factor) → st.geometry.scale ≡ factor 0 0 → (add_factor st o).geometry.scale ≡ first_or (factor 0 0) (listed o)
  add_factor_lem st None e = e
  add_factor_lem st (Some f) e = refl

  pub greatest_is : (st : State) (ls : List Bytes) → st.geometry.greatest ≡ 0 → along k (placed k) st ls ≡ true → (afters k st ls).geometry.greatest ≡ first_or 0 (flat greatest_on (told st.running ls))
  greatest_is = once_is k (λ s. s.geometry.greatest) greatest_on (first_or 0) greatest_held 14 (record {
    moved = λ st l. refl;
    named_seen = λ st x. refl;
    code_is_lem = greatest_code;
    not_zero = refl;
    further_state = further_still bound (λ s r. refl);
    further_none = λ h l. refl;
    value_none = λ h st from v e. (
      value_geometry k bound h st from v ∙ geometry_quiet st.geometry.greatest (λ x. (xyz_after x st (fields (strip v))).geometry.greatest) (by_xyz true false false) (other st (fields (strip v))) h e,
      geometry_quiet [] (by_xyz (listed (number (only_field (fields (strip v))))) [] []) (by_xyz true false false) (none_given v) h e,
    );
    value_all = λ h st from v n e.
        value_geometry k bound h st from v ∙ geometry_same _ _ (first_or 0 []) (λ x. first_or 0 (by_xyz (listed (number (only_field (fields (strip v))))) [] [] x)) n (own st v n) h
        ∙ sym (geometry_map [] (by_xyz (listed (number (only_field (fields (strip v))))) [] []) (first_or 0) h);
  })
    where
      other : (st : State) (fs : List Bytes) (x : XyzOf) → by_xyz true false false x ≡ false → (xyz_after x st fs).geometry.greatest ≡ st.geometry.greatest
      other st fs MaxXyz e = torn true refl e
      other st fs XyzFactor e = add_part (λ (s : State). s.geometry.greatest) st (λ f. refl) (factor_shape (only_field fs))
      other st fs XyzRows e = rows_still (λ p. p.greatest) st (row_on xyz_shape fs) (λ s r. refl)

      none_given : (v : Bytes) (x : XyzOf) → by_xyz true false false x ≡ false → by_xyz (listed (number (only_field (fields (strip v))))) [] [] x ≡ []
      none_given v MaxXyz e = torn true refl e
      none_given v XyzFactor e = refl
      none_given v XyzRows e = refl

      own : (st : State) (v : Bytes) → st.geometry.greatest ≡ 0 → (x : XyzOf) → (xyz_after x st (fields (strip v))).geometry.greatest ≡ first_or 0 (by_xyz (listed (number (only_field (fields (strip v))))) [] [] x)
      own st v n MaxXyz = add_greatest_lem st (number (only_field (fields (strip v)))) n
      own st v n XyzFactor = other st (fields (strip v)) XyzFactor refl ∙ n
      own st v n XyzRows = other st (fields (strip v)) XyzRows refl ∙ n

  pub factor_is : (st : State) (ls : List Bytes) → st.geometry.scale ≡ factor 0 0 → along k (placed k) st ls ≡ true → (afters k st ls).geometry.scale ≡ first_or (factor 0 0) (flat factor_on (told st.running ls))
  factor_is = once_is k (λ s. s.geometry.scale) factor_on (first_or (factor 0 0)) factor_held 15 (record {
    moved = λ st l. refl;
    named_seen = λ st x. refl;
    code_is_lem = factor_code;
    not_zero = refl;
    further_state = further_still scaled (λ s r. refl);
    further_none = λ h l. refl;
    value_none = λ h st from v e. (
      value_geometry k scaled h st from v ∙ geometry_quiet st.geometry.scale (λ x. (xyz_after x st (fields (strip v))).geometry.scale) (by_xyz false true false) (other st (fields (strip v))) h e,
      geometry_quiet [] (by_xyz [] (listed (factor_shape (only_field (fields (strip v))))) []) (by_xyz false true false) (none_given v) h e,
    );
    value_all = λ h st from v n e.
        value_geometry k scaled h st from v ∙ geometry_same _ _ (first_or (factor 0 0) []) (λ x. first_or (factor 0 0) (by_xyz [] (listed (factor_shape (only_field (fields (strip v))))) [] x)) n (own st v n) h
        ∙ sym (geometry_map [] (by_xyz [] (listed (factor_shape (only_field (fields (strip v))))) []) (first_or (factor 0 0)) h);
  })
    where
      other : (st : State) (fs : List Bytes) (x : XyzOf) → by_xyz false true false x ≡ false → (xyz_after x st fs).geometry.scale ≡ st.geometry.scale
      other st fs MaxXyz e = add_bound (λ (s : State). s.geometry.scale) st (λ n. refl) (number (only_field fs))
      other st fs XyzFactor e = torn true refl e
      other st fs XyzRows e = rows_still (λ p. p.scale) st (row_on xyz_shape fs) (λ s r. refl)

      none_given : (v : Bytes) (x : XyzOf) → by_xyz false true false x ≡ false → by_xyz [] (listed (factor_shape (only_field (fields (strip v))))) [] x ≡ []
      none_given v MaxXyz e = refl
      none_given v XyzFactor e = torn true refl e
      none_given v XyzRows e = refl

      own : (st : State) (v : Bytes) → st.geometry.scale ≡ factor 0 0 → (x : XyzOf) → (xyz_after x st (fields (strip v))).geometry.scale ≡ first_or (factor 0 0) (by_xyz [] (listed (factor_shape (only_field (fields (strip v))))) [] x)
      own st v n MaxXyz = other st (fields (strip v)) MaxXyz refl ∙ n
      own st v n XyzFactor = add_factor_lem st (factor_shape (only_field (fields (strip v)))) n
      own st v n XyzRows = other st (fields (strip v)) XyzRows refl ∙ n
