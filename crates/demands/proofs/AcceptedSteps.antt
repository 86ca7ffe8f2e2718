-- A line goes on exactly when it passes its tests, and the state after it is the same whatever was tested: so a reading is accepted exactly when every line
-- passes and END was reached. The first stage of "accepted exactly when"; document 01, "Refusal numbers". Assumes nothing.
use Prim.Native.Nat.{ℕ, suc, ◌+◌, ◌-◌}
use mathlib.Core.Path.{◌≡◌, refl, sym, ap, ◌∙◌}
use mathlib.Core.Bool.{Bool, true, false, not, ◌&&◌, ◌||◌, or-false, and-true}
use Rattle.std.specs.declared.option.Option.{Option}
use Rattle.std.specs.declared.option.Option.TheVariants.{None, Some}
use mathlib.Core.List.{List, [], ◌∷◌, map}
use native.Mathlib.Omega.{arith}
use lib.ListN.{length, drop}
use lib.Dec.{eqb, leb}
use borrow.Author.Tests.{ne_eqb}
use Rattle.lists.specs.Lists.{is_nil, all, any, pairs}
use Rattle.lists.proofs.Bools.{and_left_false, and_shuffle}
use Rattle.lists.proofs.ListLaws.{all_parts}
use Rattle.format.specs.Bytes.{Bytes, bytes, same, within, gap, hash, head_is, allowed, fields, strip}
use Rattle.format.specs.Labels.{ListOf, MaxXyz, XyzFactor, XyzRows, Holds, Text, Version, Formula, BlockId, Atoms, Rows, Xyz, Handedness, End, Skipped, Label, misplaced, Line, Plain, Unparted, Labelled, line_of, title_line}
use Rattle.format.specs.Rows.{Row, AtomRow, number, field, atom_shape, row_shape}
use Rattle.format.specs.Formula.{Counted, formula_shape}
use Rattle.format.specs.Coordinates.{XyzRow, xyz_shape, Factor, factor_shape, exceeds}
use Rattle.format.specs.Structure.{unknown, mass_ok, rows_of, most, ranged, meets, clash, handed_twice, entries_of, agree}
use Rattle.format.specs.Reading.{strict, State, Turn, Go, Stop, if◌stop◌else◌, with_body, past, with_yes, atom_count, lacks, ordered, atom_turn, joined, join_turn, row_turn, formula_turn, version_turn, id_value, id_turn, only_field, greatest_turn, factor_turn, xyz_turn, atom_line, row_line, xyz_line, xyz_value, yes_turn, yes_line, partly, end_turn, value_turn, blank_or, xyz_further, further_turn, over, opened, line_turn, line_step, Outcome, Accepted, Refused, ending, read_lines}
use Rattle.format.proofs.ByteLaws.{gap_small}
use Rattle.format.proofs.ReadingLaws.{read_go, read_stop, read_end}
use Rattle.demands.specs.Accepted.{unparted, listed, row_on, fits, row_fits, atom_fine, row_fine, formula_fine, version_fine, id_fine, Yes, YES, yes_shape, value_rule, further_rule}
use Rattle.demands.proofs.AcceptedHolds.{by_holds, by_geometry, by_yes, by_xyz}
use Rattle.demands.proofs.AcceptedContents.{formula_held}
use Rattle.demands.proofs.AcceptedAfter.{add_all, add_atom, chosen, add_row, add_formula, add_id, add_greatest, add_factor, add_xyz, add_yes, after_value, after_further, after_as, after, afters}

-- THE TESTS OF A LINE
abbrev pub passing : {A : Type 0} → (A → Bool) → Option A → Bool
passing test None = true
passing test (Some a) = test a

abbrev pub row_passes : {A : Type 0} → (List Bytes → Option A) → (A → Bool) → List Bytes → Bool
row_passes shape test [] = true
row_passes shape test (f ∷ fs) = passing test (shape (f ∷ fs))

abbrev pub atom_passes : (AtomRow → Bool) → Holds → Bytes → Bool
atom_passes test h l = by_holds true true true (row_passes atom_shape test (fields (strip l))) (λ m. true) h

abbrev pub list_passes : (ListOf → Row → Bool) → Holds → Bytes → Bool
list_passes test h l = by_holds true true true true (λ m. row_passes (row_shape m) (test m) (fields (strip l))) h

abbrev pub xyz_passes : (XyzRow → Bool) → Holds → Bytes → Bool
xyz_passes test h l = by_geometry true (by_xyz true true (row_passes xyz_shape test (fields (strip l)))) h

abbrev pub yes_passes : (Yes → Bool) → Holds → Bytes → Bool
yes_passes test h l = by_yes true (row_passes yes_shape test (fields (strip l))) h

-- of MOLFORM's value the reading asks that the machine reads a fine formula, of any value its own rule
abbrev pub formula_passes : (k : ℕ) → Bytes → Bool
formula_passes k v = fits (formula_fine k) (formula_shape (strip v))

abbrev pub value_test : (k : ℕ) → Holds → Bytes → Bool
value_test k h v = (not (formula_held h) || formula_passes k v) && value_rule k h v

abbrev pub on_line : (value further : Holds → Bytes → Bool) → Holds → Bytes → Line → Bool
on_line value further h l Plain = further h l
on_line value further h l Unparted = true
on_line value further h l (Labelled x v) = value x.holds v

abbrev pub titled_at : State → Bytes → Bool
titled_at st l = not (is_nil st.seen && not (title_line l))

abbrev pub placed_at : State → Line → Bool
placed_at st Plain = true
placed_at st Unparted = true
placed_at st (Labelled x v) = not (misplaced st.seen x)

abbrev pub closed_at : State → Bytes → Bool
closed_at st l = not (over st.running) || all gap l

abbrev pub next_atom : State → AtomRow → Bool
next_atom st r = eqb r.number (suc (atom_count st))

abbrev pub room_at : State → AtomRow → Bool
room_at st r = not (leb 256 (atom_count st))

abbrev pub listed_at : State → ListOf → Row → Bool
listed_at st l r = all (within 1 (atom_count st)) r.atoms

abbrev pub apart_at : State → ListOf → Row → Bool
apart_at st l r = not (any (clash l (ordered r)) (rows_of l st.body))

abbrev pub held_at : State → ListOf → Row → Bool
held_at st l r = any (meets l (ordered r)) (rows_of l st.body) || not (leb (most l) (length (rows_of l st.body)))

abbrev pub xyz_listed_at : State → XyzRow → Bool
xyz_listed_at st r = within 1 (atom_count st) r.atom

abbrev pub xyz_above_at : State → XyzRow → Bool
xyz_above_at st r = not (any (λ q. leb r.atom q.atom) st.geometry.rows)

abbrev pub yes_first_at : State → Yes → Bool
yes_first_at st y = not st.body.handed

abbrev pub present : State → Bool
present st = not (any (lacks st.seen) (2 ∷ 3 ∷ 4 ∷ 5 ∷ []) || eqb (atom_count st) 0)

abbrev pub together : State → Bool
together st = not (partly st.seen (14 ∷ 15 ∷ 16 ∷ []))

abbrev pub yes_there : State → Bool
yes_there st = lacks st.seen 17 || st.body.handed

abbrev pub complete : State → Bool
complete st = present st && (yes_there st && (not (handed_twice st.body) && (agree st.formula (entries_of st.body.atoms) && (together st && not (exceeds st.geometry)))))

abbrev pub end_at : State → Line → Bool
end_at st Plain = true
end_at st Unparted = true
end_at st (Labelled x v) = not (over x.holds) || complete (opened st x)

-- those of a row, and those of a line that has passed 3 and 4
abbrev row_tests : (k : ℕ) → State → Bytes → Line → Bool
row_tests k st l line =
    on_line (atom_passes (next_atom st)) (atom_passes (next_atom st)) st.running l line
    && (on_line (atom_passes (room_at st)) (atom_passes (room_at st)) st.running l line
    && (on_line (list_passes (listed_at st)) (list_passes (listed_at st)) st.running l line
    && (on_line (list_passes (apart_at st)) (list_passes (apart_at st)) st.running l line
    && (on_line (list_passes (held_at st)) (list_passes (held_at st)) st.running l line
    && (on_line (xyz_passes (xyz_listed_at st)) (xyz_passes (xyz_listed_at st)) st.running l line
    && (on_line (xyz_passes (xyz_above_at st)) (xyz_passes (xyz_above_at st)) st.running l line
    && (on_line (yes_passes (yes_first_at st)) (yes_passes (yes_first_at st)) st.running l line && end_at st line)))))))

abbrev line_tests : (k : ℕ) → State → Bytes → Line → Bool
line_tests k st l line = not (unparted line) && (placed_at st line && (closed_at st l && (on_line (value_test k) (further_rule k) st.running l line && row_tests k st l line)))

abbrev pub keeps_as : (k : ℕ) → State → Bytes → Line → Bool
keeps_as k st l line = all allowed l && (titled_at st l && line_tests k st l line)

-- A TURN THAT GOES ON WHERE A TEST IS PASSED
abbrev pub when : Bool → State → Option State
when true st = Some st
when false st = None

abbrev pub gone_to : Turn → Option State
gone_to (Go st) = Some st
gone_to (Stop n) = None

if_not : (p q : Bool) (n : ℕ) (t : Turn) (st : State) → gone_to t ≡ when q st → gone_to (if not p stop n else t) ≡ when (p && q) st
if_not true q n t st e = e
if_not false q n t st e = refl

if_so : (p q : Bool) (n : ℕ) (t : Turn) (st : State) → gone_to t ≡ when q st → gone_to (if p stop n else t) ≡ when (not p && q) st
if_so true q n t st e = refl
if_so false q n t st e = e

if_either : (a b q : Bool) (n : ℕ) (t : Turn) (st : State) → gone_to t ≡ when q st → gone_to (if not a || not b stop n else t) ≡ when (a && (b && q)) st
if_either true true q n t st e = e
if_either true false q n t st e = refl
if_either false b q n t st e = refl

atom_shuffle : (a n u f : Bool) → (a && (n && (u && (f && true)))) ≡ ((a && u) && (n && (f && true)))
atom_shuffle false n u f = refl
atom_shuffle true true u f = refl
atom_shuffle true false true f = refl
atom_shuffle true false false f = refl

row_shuffle : (a b c d e : Bool) → (a && (b && (c && (d && e)))) ≡ ((a && c) && (b && (d && (e && true))))
row_shuffle false b c d e = refl
row_shuffle true false true d e = refl
row_shuffle true false false d e = refl
row_shuffle true true false d e = refl
row_shuffle true true true false e = refl
row_shuffle true true true true true = refl
row_shuffle true true true true false = refl

end_shuffle : (a b c : Bool) → (a && (b && c)) ≡ (b && (a && c))
end_shuffle true true c = refl
end_shuffle true false c = refl
end_shuffle false true c = refl
end_shuffle false false c = refl

formula_shuffle : (a b : Bool) → (a && (not b && true)) ≡ ((a && not b) && true)
formula_shuffle true b = refl
formula_shuffle false b = refl

module _ (k : ℕ) (st : State) where
  atom_gone : (o : Option AtomRow) → gone_to (atom_turn k st o) ≡ when (fits (atom_fine k) o && (passing (next_atom st) o && (passing (room_at st) o && true))) (add_all (add_atom k) st (listed o))
  unfolding atom_turn
  atom_gone None = refl
  atom_gone (Some r) =
      if_not (mass_ok r.symbol && leb r.hydrogens 15) _ 10 _ _
      (if_not (eqb r.number (suc (atom_count st))) _ 11 _ _ (if_so (unknown k r.symbol) _ 12 _ _ (if_so (leb 256 (atom_count st)) true 14 _ (add_atom k st r) refl)))
      ∙ ap (λ (t : Bool). when t (add_atom k st r)) (atom_shuffle (mass_ok r.symbol && leb r.hydrogens 15) (next_atom st r) (not (unknown k r.symbol)) (room_at st r))

  atoms_gone : (fs : List Bytes) → gone_to (atom_line k st fs) ≡ when (row_fits atom_shape (atom_fine k) fs && (row_passes atom_shape (next_atom st) fs && (row_passes atom_shape (room_at st) fs && true))) (add_all (add_atom k) st (row_on atom_shape fs))
  unfolding atom_line
  atoms_gone [] = refl
  atoms_gone (f ∷ fs) = atom_gone (atom_shape (f ∷ fs))

  joined_gone : (again full : Bool) (new : State) → gone_to (joined again full st new) ≡ when (again || not full) (chosen again st new)
  joined_gone true full new = refl
  joined_gone false true new = refl
  joined_gone false false new = refl

  row_gone : (l : ListOf) (o : Option Row) → gone_to (row_turn l st o) ≡ when (fits (row_fine l) o && (passing (listed_at st l) o && (passing (apart_at st l) o && (passing (held_at st l) o && true)))) (add_all (add_row l) st (map ordered (listed o)))
  unfolding row_turn join_turn
  row_gone l None = refl
  row_gone l (Some r) =
      if_not (ranged l r.value) _ 10 _ _
      (if_not (listed_at st l r) _ 11 _ _
      (if_so (pairs eqb r.atoms) _ 13 _ _
      (if_so (any (clash l (ordered r)) (rows_of l st.body)) _ 13 _ _ (joined_gone (any (meets l (ordered r)) (rows_of l st.body)) (leb (most l) (length (rows_of l st.body))) _))))
      ∙ ap (λ (t : Bool). when t (add_row l st (ordered r))) (row_shuffle (ranged l r.value) (listed_at st l r) (not (pairs eqb r.atoms)) (apart_at st l r) (held_at st l r))

  rows_gone : (l : ListOf) (fs : List Bytes) → gone_to (row_line l st fs) ≡ when (row_fits (row_shape l) (row_fine l) fs && (row_passes (row_shape l) (listed_at st l) fs && (row_passes (row_shape l) (apart_at st l) fs && (row_passes (row_shape l) (held_at st l) fs && true)))) (add_all (add_row l) st (map ordered (row_on (row_shape l) fs)))
  unfolding row_line
  rows_gone l [] = refl
  rows_gone l (f ∷ fs) = row_gone l (row_shape l (f ∷ fs))

  formula_gone : (o : Option (List Counted)) → gone_to (formula_turn k st o) ≡ when (fits (formula_fine k) o && true) (add_formula k st o)
  unfolding formula_turn
  formula_gone None = refl
  formula_gone (Some cs) =
      if_not (all (λ c. mass_ok c.symbol && within 1 9999 c.count) cs) _ 10 _ _ (if_so (any (λ c. unknown k c.symbol) cs) true 12 _ (add_formula k st (Some cs)) refl)
      ∙ ap (λ (t : Bool). when t (add_formula k st (Some cs))) (formula_shuffle (all (λ c. mass_ok c.symbol && within 1 9999 c.count) cs) (any (λ c. unknown k c.symbol) cs))

  version_gone : (fs : List Bytes) → gone_to (version_turn st fs) ≡ when (version_fine fs && true) st
  unfolding version_turn
  version_gone fs = if_not (version_fine fs) true 7 (Go st) st refl

  id_value_lem : (alone : Bool) (o : Option ℕ) → gone_to (id_value st alone o) ≡ when (fits (λ n. alone && not (eqb n 0)) o && true) (add_id st o)
  id_value_lem alone None = refl
  id_value_lem alone (Some n) =
      if_not alone _ 9 _ _ (if_so (eqb n 0) true 10 _ (add_id st (Some n)) refl) ∙ ap (λ (t : Bool). when t (add_id st (Some n))) (formula_shuffle alone (eqb n 0))

  id_gone : (fs : List Bytes) → gone_to (id_turn st fs) ≡ when (id_fine fs && true) (add_id st (number (field 0 fs)))
  unfolding id_turn
  id_gone fs = id_value_lem (is_nil (drop 1 fs)) (number (field 0 fs))

  greatest_gone : (o : Option ℕ) → gone_to (greatest_turn st o) ≡ when (fits (λ n. true) o && true) (add_greatest st o)
  unfolding greatest_turn
  greatest_gone None = refl
  greatest_gone (Some n) = refl

  factor_gone : (o : Option Factor) → gone_to (factor_turn st o) ≡ when (fits (λ f. not (eqb f.digits 0)) o && true) (add_factor st o)
  unfolding factor_turn
  factor_gone None = refl
  factor_gone (Some f) = if_so (eqb f.digits 0) true 10 _ (add_factor st (Some f)) refl

  xyz_gone : (o : Option XyzRow) → gone_to (xyz_turn st o) ≡ when (fits (λ r. true) o && (passing (xyz_listed_at st) o && (passing (xyz_above_at st) o && true))) (add_all add_xyz st (listed o))
  unfolding xyz_turn
  xyz_gone None = refl
  xyz_gone (Some r) =
      if_not (xyz_listed_at st r) _ 11 _ _ (if_so (any (λ q. leb r.atom q.atom) st.geometry.rows) true 13 _ (add_xyz st r) refl)

  xyzs_gone : (fs : List Bytes) → gone_to (xyz_line st fs) ≡ when (row_fits xyz_shape (λ r. true) fs && (row_passes xyz_shape (xyz_listed_at st) fs && (row_passes xyz_shape (xyz_above_at st) fs && true))) (add_all add_xyz st (row_on xyz_shape fs))
  unfolding xyz_line
  xyzs_gone [] = refl
  xyzs_gone (f ∷ fs) = xyz_gone (xyz_shape (f ∷ fs))

  yes_gone : (fs : List Bytes) → gone_to (yes_turn st fs) ≡ when (fits (λ y. true) (yes_shape fs) && (passing (yes_first_at st) (yes_shape fs) && true)) (add_all add_yes st (listed (yes_shape fs)))
  unfolding yes_turn
  yes_gone fs = by (same (only_field fs) (bytes "YES")) st.body.handed
    where
      by : (t h : Bool) → gone_to (if h || not t stop 9 else Go (with_body st (with_yes st.body)))
          ≡ when (fits {A = Yes} (λ y. true) (elim t as (λ (u : Bool). Option Yes) [ true ↦ Some YES | false ↦ None ]) && (passing {A = Yes} (λ y. not h) (elim t as (λ (u : Bool). Option Yes) [ true ↦ Some YES | false ↦ None ]) && true))
          (add_all add_yes st (listed (elim t as (λ (u : Bool). Option Yes) [ true ↦ Some YES | false ↦ None ])))
      by true true = refl
      by true false = refl
      by false true = refl
      by false false = refl

  yeses_gone : (fs : List Bytes) → gone_to (yes_line st fs) ≡ when (row_fits yes_shape (λ y. true) fs && (row_passes yes_shape (yes_first_at st) fs && true)) (add_all add_yes st (row_on yes_shape fs))
  unfolding yes_line
  yeses_gone [] = refl
  yeses_gone (f ∷ fs) = yes_gone (f ∷ fs)

  end_gone : (fs : List Bytes) → gone_to (end_turn (strict k) st fs) ≡ when (is_nil fs && complete st) st
  unfolding end_turn
  end_gone fs =
      if_so (any (lacks st.seen) (2 ∷ 3 ∷ 4 ∷ 5 ∷ []) || eqb (atom_count st) 0) _ 8 _ _
      (if_either (is_nil fs) (yes_there st) _ 9 _ _
      (if_so (handed_twice st.body) _ 13 _ _
      (if_not (agree st.formula (entries_of st.body.atoms)) _ 15 _ _
      (if_so (partly st.seen (14 ∷ 15 ∷ 16 ∷ [])) _ 41 _ _ (if_so (exceeds st.geometry) true 42 (Go st) st refl ∙ ap (λ (t : Bool). when t st) (and-true (not (exceeds st.geometry))))))))
      ∙ ap (λ (t : Bool). when t st) (end_shuffle (present st) (is_nil fs) (yes_there st && (not (handed_twice st.body) && (agree st.formula (entries_of st.body.atoms) && (together st && not (exceeds st.geometry))))))

  blank_gone : (n : ℕ) (l : Bytes) → gone_to (blank_or n st l) ≡ when (all gap l && true) st
  unfolding blank_or
  blank_gone n l = if_not (all gap l) true n (Go st) st refl

  -- a further line of a record, and a value
  further_gone : (h : Holds) (l : Bytes) → gone_to (further_turn (strict k) h st l) ≡ when ((not (over h) || all gap l) && (further_rule k h l && (atom_passes (next_atom st) h l && (atom_passes (room_at st) h l && (list_passes (listed_at st) h l && (list_passes (apart_at st) h l && (list_passes (held_at st) h l && (xyz_passes (xyz_listed_at st) h l && (xyz_passes (xyz_above_at st) h l && (yes_passes (yes_first_at st) h l && true)))))))))) (after_further k h st l)
  unfolding further_turn xyz_further
  further_gone (Text i) l = refl
  further_gone Version l = blank_gone 9 (strip l)
  further_gone Formula l = blank_gone 9 (strip l)
  further_gone BlockId l = blank_gone 9 (strip l)
  further_gone Atoms l = atoms_gone (fields (strip l))
  further_gone (Rows r) l = rows_gone r (fields (strip l))
  further_gone (Xyz MaxXyz) l = blank_gone 9 (strip l)
  further_gone (Xyz XyzFactor) l = blank_gone 9 (strip l)
  further_gone (Xyz XyzRows) l = xyzs_gone (fields (strip l))
  further_gone Handedness l = yeses_gone (fields (strip l))
  further_gone End l = blank_gone 17 l
  further_gone Skipped l = refl

  value_gone : (h : Holds) (from : ℕ) (v : Bytes) → gone_to (value_turn (strict k) h st from v) ≡ when (value_test k h v && (atom_passes (next_atom st) h v && (atom_passes (room_at st) h v && (list_passes (listed_at st) h v && (list_passes (apart_at st) h v && (list_passes (held_at st) h v && (xyz_passes (xyz_listed_at st) h v && (xyz_passes (xyz_above_at st) h v && (yes_passes (yes_first_at st) h v && (not (over h) || complete st)))))))))) (after_value k h st from v)
  unfolding value_turn xyz_value
  value_gone (Text i) from v = refl
  value_gone Version from v = version_gone (fields (strip v))
  value_gone Formula from v = formula_gone (formula_shape (strip v)) ∙ ap (λ (t : Bool). when t (add_formula k st (formula_shape (strip v)))) (sym (and-true (formula_passes k v && true)))
  value_gone BlockId from v = id_gone (fields (strip v))
  value_gone Atoms from v = atoms_gone (fields (strip v))
  value_gone (Rows r) from v = rows_gone r (fields (strip v))
  value_gone (Xyz MaxXyz) from v = greatest_gone (number (only_field (fields (strip v))))
  value_gone (Xyz XyzFactor) from v = factor_gone (factor_shape (only_field (fields (strip v))))
  value_gone (Xyz XyzRows) from v = xyzs_gone (fields (strip v))
  value_gone Handedness from v = yeses_gone (fields (strip v))
  value_gone End from v = end_gone (fields (strip v))
  value_gone Skipped from v = refl

-- A LABEL LINE is not blank
pub blank_plain : (l : Bytes) → all gap l ≡ true → line_of l ≡ Plain
unfolding line_of
blank_plain [] h = refl
blank_plain (b ∷ s) h = rw (and_left_false (hash b) (head_is hash s) (gap_hash b (all_parts gap b s h).0), line_of)
  where
    gap_hash : (c : ℕ) → gap c ≡ true → hash c ≡ false
    gap_hash c g = ne_eqb c 35 (λ e. omega (arith, gap_small c g))

pub label_inked : (l : Bytes) (x : Label) (v : Bytes) → line_of l ≡ Labelled x v → all gap l ≡ false
label_inked l x v e = by (all gap l) refl
  where
    by : (t : Bool) → all gap l ≡ t → all gap l ≡ false
    by true h = let q : Plain ≡ Labelled x v = sym (blank_plain l h) ∙ e in let z : ◌≡◌ {A = ℕ} 0 1 = cc in absurd (omega arith)
    by false h = h

-- A LINE'S STEP
module _ (k : ℕ) (st : State) (l : Bytes) where
  line_gone : (line : Line) → line_of l ≡ line → gone_to (line_turn (strict k) st l line) ≡ when (line_tests k st l line) (after_as k st l line)
  unfolding line_turn
  line_gone Plain e = further_gone k st st.running l
  line_gone Unparted e = refl
  line_gone (Labelled x v) e =
      if_so (misplaced st.seen x) _ 6 _ _ (if_so (over st.running) _ 17 _ _ (value_gone k (opened st x) x.holds (st.at + (length l - length v)) v))
      ∙ ap (λ (t : Bool). when (not (misplaced st.seen x) && (t && (value_test k x.holds v && row_tests k st l (Labelled x v)))) (after_as k st l (Labelled x v)))
      (sym (ap (λ (t : Bool). not (over st.running) || t) (label_inked l x v e) ∙ or-false (not (over st.running))))

  pub step_gone : gone_to (line_step (strict k) st l) ≡ when (keeps_as k st l (line_of l)) (after_as k st l (line_of l))
  unfolding line_step
  step_gone = if_not (all allowed l) _ 3 _ _ (if_so (is_nil st.seen && not (title_line l)) _ 4 _ _ (line_gone (line_of l) refl))

-- A TEST ALONG THE LINES, each in the state that the lines before it leave
unfoldable pub along : (k : ℕ) → (State → Bytes → Bool) → State → List Bytes → Bool
along k p st [] = true
along k p st (l ∷ ls) = p st l && along k p (after k st l) ls

abbrev pub keeps : (k : ℕ) → State → Bytes → Bool
keeps k st l = keeps_as k st l (line_of l)

-- THE READING is accepted exactly when every line passes and END was reached; and then its last state is the one after all lines
abbrev pub accepted_as : Outcome → Option State
accepted_as (Accepted st) = Some st
accepted_as (Refused n p) = None

module _ (k : ℕ) where
  ending_is : (o e : Bool) (st : State) → accepted_as (ending o e st) ≡ when o st
  ending_is true e st = refl
  ending_is false true st = refl
  ending_is false false st = refl

  pub read_is : (st : State) (ls : List Bytes) → accepted_as (read_lines (strict k) st ls) ≡ when (along k (keeps k) st ls && over (afters k st ls).running) (afters k st ls)
  unfolding along afters after
  read_is st [] = ap accepted_as (read_end (strict k) st) ∙ ending_is (over st.running) (is_nil st.seen) st
  read_is st (l ∷ ls) = by (line_step (strict k) st l) (keeps k st l) refl refl (step_gone k st l) (read_is (after k st l) ls)
    where
      by : (t : Turn) (b : Bool) → line_step (strict k) st l ≡ t → keeps k st l ≡ b → gone_to (line_step (strict k) st l) ≡ when (keeps k st l) (after_as k st l (line_of l))
          → accepted_as (read_lines (strict k) (past l (after_as k st l (line_of l))) ls)
          ≡ when (along k (keeps k) (past l (after_as k st l (line_of l))) ls && over (afters k (past l (after_as k st l (line_of l))) ls).running) (afters k (past l (after_as k st l (line_of l))) ls)
          → accepted_as (read_lines (strict k) st (l ∷ ls))
          ≡ when ((keeps k st l && along k (keeps k) (past l (after_as k st l (line_of l))) ls) && over (afters k (past l (after_as k st l (line_of l))) ls).running) (afters k (past l (after_as k st l (line_of l))) ls)
      by (Go next) true e f g ih =
          let q : Some next ≡ Some (after_as k st l (line_of l)) = ap gone_to (sym e) ∙ g ∙ ap (λ (t : Bool). when t (after_as k st l (line_of l))) f in
          let r : next ≡ after_as k st l (line_of l) = cc in
          ap accepted_as (read_go (strict k) st next l ls e) ∙ ap (λ (s : State). accepted_as (read_lines (strict k) (past l s) ls)) r ∙ ih ∙ rw f
      by (Go next) false e f g ih =
          let q : Some next ≡ None = ap gone_to (sym e) ∙ g ∙ ap (λ (t : Bool). when t (after_as k st l (line_of l))) f in let z : ◌≡◌ {A = ℕ} 0 1 = cc in absurd (omega arith)
      by (Stop n) true e f g ih =
          let q : None ≡ Some (after_as k st l (line_of l)) = ap gone_to (sym e) ∙ g ∙ ap (λ (t : Bool). when t (after_as k st l (line_of l))) f in let z : ◌≡◌ {A = ℕ} 0 1 = cc in absurd (omega arith)
      by (Stop n) false e f g ih = ap accepted_as (read_stop (strict k) st n l ls e) ∙ rw f

  -- tests that are passed together
  pub along_and : (p q : State → Bytes → Bool) (st : State) (ls : List Bytes) → along k (λ s l. p s l && q s l) st ls ≡ (along k p st ls && along k q st ls)
  unfolding along
  along_and p q st [] = refl
  along_and p q st (l ∷ ls) = ap (λ (t : Bool). (p st l && q st l) && t) (along_and p q (after k st l) ls) ∙ and_shuffle (p st l) (q st l) (along k p (after k st l) ls) (along k q (after k st l) ls)

  -- a test that does not look at the state
  pub along_all : (p : Bytes → Bool) (st : State) (ls : List Bytes) → along k (λ s l. p l) st ls ≡ all p ls
  unfolding along all
  along_all p st [] = refl
  along_all p st (l ∷ ls) = ap (λ (t : Bool). p l && t) (along_all p (after k st l) ls)
