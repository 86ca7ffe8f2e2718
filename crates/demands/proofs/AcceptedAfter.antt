-- The state after a line and after lines, whatever was tested: what each record's lines add to it. Serves "accepted exactly when"; document 01, "Lines and labels" and
-- "Rows". Assumes nothing.
use Prim.Native.Nat.{ℕ, ◌+◌, ◌-◌}
use mathlib.Core.Bool.{Bool, true, false}
use Rattle.std.specs.declared.option.Option.{Option}
use Rattle.std.specs.declared.option.Option.TheVariants.{None, Some}
use mathlib.Core.List.{List, [], ◌∷◌, ◌++◌, map}
use lib.ListN.{length, get_or}
use Rattle.lists.specs.Lists.{any}
use Rattle.format.specs.Bytes.{Bytes, fields, strip}
use Rattle.format.specs.Labels.{ListOf, XyzOf, MaxXyz, XyzFactor, XyzRows, Holds, Text, Version, Formula, BlockId, Atoms, Rows, Xyz, Handedness, End, Skipped, Line, Plain, Unparted, Labelled, line_of}
use Rattle.format.specs.Rows.{Row, AtomRow, number, field, atom_shape, row_shape}
use Rattle.format.specs.Formula.{Counted, formula_shape}
use Rattle.format.specs.Coordinates.{XyzRow, xyz_shape, Factor, factor_shape, geometry}
use Rattle.format.specs.Structure.{rows_of, meets}
use Rattle.format.specs.Reading.{State, prose, with_body, with_formula, with_geometry, with_text, past, with_atoms, with_id, with_yes, with_rows, ordered, extended, only_field, opened}
use Rattle.demands.specs.Accepted.{row_on, entries_as, atom_of, Yes, yes_shape}

-- THE STATE AFTER A LINE, whatever was tested
abbrev pub add_all : {A : Type 0} → (State → A → State) → State → List A → State
add_all f st [] = st
add_all f st (x ∷ xs) = add_all f (f st x) xs

abbrev pub add_atom : (k : ℕ) → State → AtomRow → State
add_atom k st r = with_body st (with_atoms (st.body.atoms ++ (atom_of k r ∷ [])) st.body)

abbrev pub chosen : Bool → State → State → State
chosen true old new = old
chosen false old new = new

abbrev pub add_row : ListOf → State → Row → State
add_row l st r = chosen (any (meets l r) (rows_of l st.body)) st (with_body st (with_rows l (r ∷ rows_of l st.body) st.body))

abbrev pub add_formula : (k : ℕ) → State → Option (List Counted) → State
add_formula k st None = st
add_formula k st (Some cs) = with_formula st (entries_as k (Some cs))

abbrev pub add_id : State → Option ℕ → State
add_id st None = st
add_id st (Some n) = with_body st (with_id n st.body)

abbrev pub add_greatest : State → Option ℕ → State
add_greatest st None = st
add_greatest st (Some n) = with_geometry st (geometry n st.geometry.scale st.geometry.rows)

abbrev pub add_factor : State → Option Factor → State
add_factor st None = st
add_factor st (Some f) = with_geometry st (geometry st.geometry.greatest f st.geometry.rows)

abbrev pub add_xyz : State → XyzRow → State
add_xyz st r = with_geometry st (geometry st.geometry.greatest st.geometry.scale (r ∷ st.geometry.rows))

abbrev pub xyz_after : XyzOf → State → List Bytes → State
xyz_after MaxXyz st fs = add_greatest st (number (only_field fs))
xyz_after XyzFactor st fs = add_factor st (factor_shape (only_field fs))
xyz_after XyzRows st fs = add_all add_xyz st (row_on xyz_shape fs)

abbrev pub xyz_after_further : XyzOf → State → List Bytes → State
xyz_after_further MaxXyz st fs = st
xyz_after_further XyzFactor st fs = st
xyz_after_further XyzRows st fs = add_all add_xyz st (row_on xyz_shape fs)

abbrev pub add_yes : State → Yes → State
add_yes st y = with_body st (with_yes st.body)

abbrev pub after_value : (k : ℕ) → Holds → State → (from : ℕ) → Bytes → State
after_value k (Text i) st from v = with_text st i (prose from v)
after_value k Version st from v = st
after_value k Formula st from v = add_formula k st (formula_shape (strip v))
after_value k BlockId st from v = add_id st (number (field 0 (fields (strip v))))
after_value k Atoms st from v = add_all (add_atom k) st (row_on atom_shape (fields (strip v)))
after_value k (Rows l) st from v = add_all (add_row l) st (map ordered (row_on (row_shape l) (fields (strip v))))
after_value k (Xyz x) st from v = xyz_after x st (fields (strip v))
after_value k Handedness st from v = add_all add_yes st (row_on yes_shape (fields (strip v)))
after_value k End st from v = st
after_value k Skipped st from v = st

abbrev pub after_further : (k : ℕ) → Holds → State → Bytes → State
after_further k (Text i) st l = with_text st i (extended (get_or st.texts i (prose 0 [])) l)
after_further k Version st l = st
after_further k Formula st l = st
after_further k BlockId st l = st
after_further k Atoms st l = add_all (add_atom k) st (row_on atom_shape (fields (strip l)))
after_further k (Rows r) st l = add_all (add_row r) st (map ordered (row_on (row_shape r) (fields (strip l))))
after_further k (Xyz x) st l = xyz_after_further x st (fields (strip l))
after_further k Handedness st l = add_all add_yes st (row_on yes_shape (fields (strip l)))
after_further k End st l = st
after_further k Skipped st l = st

abbrev pub after_as : (k : ℕ) → State → Bytes → Line → State
after_as k st l Plain = after_further k st.running st l
after_as k st l Unparted = st
after_as k st l (Labelled x v) = after_value k x.holds (opened st x) (st.at + (length l - length v)) v

unfoldable pub after : (k : ℕ) → State → Bytes → State
after k st l = past l (after_as k st l (line_of l))

unfoldable pub afters : (k : ℕ) → State → List Bytes → State
afters k st [] = st
afters k st (l ∷ ls) = afters k (after k st l) ls
