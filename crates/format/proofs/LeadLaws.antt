-- Where a turn of a reading leads: to a state of which a thing holds, if it holds of the state before and of that state with another structure, text, formula or
-- geometry; and a refusal's number is not 0. Serves document 01, "Refusal numbers". Assumes nothing.
use Prim.Native.Nat.{ℕ, suc, ◌<◌}
use mathlib.Core.Path.{◌≡◌, refl, subst}
use mathlib.Core.Bool.{Bool, true, false, not, ◌&&◌, ◌||◌}
use Rattle.std.specs.declared.option.Option.{Option}
use Rattle.std.specs.declared.option.Option.TheVariants.{None, Some}
use mathlib.Core.List.{List, [], ◌∷◌}
use native.Mathlib.Omega.{arith}
use lib.ListN.{length, drop}
use lib.Dec.{eqb, leb}
use Rattle.lists.specs.Lists.{is_nil, all, any, pairs}
use Rattle.format.specs.Bytes.{Bytes, within, same, bytes, gap, strip, fields}
use Rattle.format.specs.Labels.{ListOf, MaxXyz, XyzFactor, XyzRows, Holds, Text, Version, Formula, BlockId, Atoms, Rows, Xyz, Handedness, End, Skipped}
use Rattle.format.specs.Rows.{Row, AtomRow, number, field, atom_shape, row_shape}
use Rattle.format.specs.Formula.{Counted, formula_shape}
use Rattle.format.specs.Coordinates.{XyzRow, xyz_shape, Factor, factor_shape, geometry, exceeds}
use Rattle.format.specs.Structure.{Structure, Entry, unknown, mass_ok, rows_of, most, ranged, meets, clash, handed_twice, entries_of, agree}
use Rattle.format.specs.Reading.{Rules, State, Prose, prose, Turn, Go, Stop, if◌stop◌else◌, with_body, with_text, with_formula, with_geometry, atom_count, lacks, ordered, atom_turn, joined, join_turn, row_turn, formula_turn, version_turn, id_value, id_turn, only_field, greatest_turn, factor_turn, xyz_turn, unless_blank, atom_line, row_line, xyz_line, xyz_value, yes_turn, yes_line, partly, end_turn, value_turn, blank_or, xyz_further, further_turn}

-- WHERE A TURN LEADS: where it goes on, to a state of which R holds; and where it stops, the number is not 0, which says "accepted"
pub record Leads (R : State → Type 0) (t : Turn) : Type 0 where
  pub gone : (next : State) → t ≡ Go next → R next
  pub refuses : (n : ℕ) → t ≡ Stop n → 0 < n

pub go_stop : {B : Type 0} (n : ℕ) (next : State) → Go next ≡ Stop n → B
go_stop n next e = absurd (let z : ◌≡◌ {A = ℕ} 0 1 = cc in omega arith)

pub stop_go : {B : Type 0} (n : ℕ) (next : State) → Stop n ≡ Go next → B
stop_go n next e = absurd (let z : ◌≡◌ {A = ℕ} 0 1 = cc in omega arith)

module _ (R : State → Type 0) where
  pub stop_leads : (n : ℕ) → 0 < n → Leads R (Stop n)
  stop_leads n h = record { gone = λ next e. stop_go n next e; refuses = λ m e. let q : n ≡ m = cc in subst (λ (k : ℕ). 0 < k) q h }

  pub go_leads : (new : State) → R new → Leads R (Go new)
  go_leads new k = record { gone = λ next e. let q : new ≡ next = cc in subst R q k; refuses = λ n e. go_stop n new e }

  pub if_leads : (b : Bool) (n : ℕ) (t : Turn) → 0 < n → Leads R t → Leads R (if b stop n else t)
  if_leads true n t h k = stop_leads n h
  if_leads false n t h k = k

  -- a state of which R holds, and so it does with another structure
  module _ (st : State) (here : R st) (body : (s : Structure) → R (with_body st s)) where
    atom_leads : (k : ℕ) (r : Option AtomRow) → Leads R (atom_turn k st r)
    unfolding atom_turn
    atom_leads k None = stop_leads 9 (omega arith)
    atom_leads k (Some r) =
        if_leads (not (mass_ok r.symbol && leb r.hydrogens 15)) 10 _ (omega arith)
        (if_leads (not (eqb r.number (suc (atom_count st)))) 11 _ (omega arith) (if_leads (unknown k r.symbol) 12 _ (omega arith) (if_leads (leb 256 (atom_count st)) 14 _ (omega arith) (go_leads _ (body _)))))

    joined_leads : (again full : Bool) (new : State) → R new → Leads R (joined again full st new)
    joined_leads true full new k = go_leads st here
    joined_leads false true new k = stop_leads 14 (omega arith)
    joined_leads false false new k = go_leads new k

    row_leads : (l : ListOf) (r : Option Row) → Leads R (row_turn l st r)
    unfolding row_turn join_turn
    row_leads l None = stop_leads 9 (omega arith)
    row_leads l (Some r) =
        let rs : List Row = rows_of l st.body in
        if_leads (not (ranged l r.value)) 10 _ (omega arith)
        (if_leads (not (all (within 1 (atom_count st)) r.atoms)) 11 _ (omega arith)
        (if_leads (pairs eqb r.atoms) 13 _ (omega arith)
        (if_leads (any (clash l (ordered r)) rs) 13 _ (omega arith) (joined_leads (any (meets l (ordered r)) rs) (leb (most l) (length rs)) _ (body _)))))

    value_of_id : (alone : Bool) (n : Option ℕ) → Leads R (id_value st alone n)
    value_of_id alone None = stop_leads 9 (omega arith)
    value_of_id alone (Some n) = if_leads (not alone) 9 _ (omega arith) (if_leads (eqb n 0) 10 _ (omega arith) (go_leads _ (body _)))

    unless_leads : (fs : List Bytes) (t : Turn) → Leads R t → Leads R (unless_blank st fs t)
    unless_leads [] t k = go_leads st here
    unless_leads (f ∷ fs) t k = k

    version_leads : (fs : List Bytes) → Leads R (version_turn st fs)
    unfolding version_turn
    version_leads fs = if_leads (not (same (field 0 fs) (bytes "3.7") && is_nil (drop 1 fs))) 7 _ (omega arith) (go_leads st here)

    id_leads : (fs : List Bytes) → Leads R (id_turn st fs)
    unfolding id_turn
    id_leads fs = value_of_id (is_nil (drop 1 fs)) (number (field 0 fs))

    pub atoms_lead : (k : ℕ) (fs : List Bytes) → Leads R (atom_line k st fs)
    unfolding atom_line
    atoms_lead k fs = unless_leads fs (atom_turn k st (atom_shape fs)) (atom_leads k (atom_shape fs))

    pub rows_lead : (l : ListOf) (fs : List Bytes) → Leads R (row_line l st fs)
    unfolding row_line
    rows_lead l fs = unless_leads fs (row_turn l st (row_shape l fs)) (row_leads l (row_shape l fs))

    yes_leads : (fs : List Bytes) → Leads R (yes_line st fs)
    unfolding yes_line yes_turn
    yes_leads fs = unless_leads fs (yes_turn st fs) (if_leads (st.body.handed || not (same (only_field fs) (bytes "YES"))) 9 _ (omega arith) (go_leads _ (body _)))

    end_leads : (u : Rules) (fs : List Bytes) → Leads R (end_turn u st fs)
    unfolding end_turn
    end_leads u fs =
        if_leads (any (lacks st.seen) (2 ∷ 3 ∷ 4 ∷ 5 ∷ []) || eqb (atom_count st) 0) 8 _ (omega arith)
        (if_leads (not (is_nil fs) || not (lacks st.seen 17 || st.body.handed)) 9 _ (omega arith) (if_leads (handed_twice st.body) 13 _ (omega arith)
        (if_leads (u.totals && not (agree st.formula (entries_of st.body.atoms))) 15 _ (omega arith)
        (if_leads (partly st.seen (14 ∷ 15 ∷ 16 ∷ [])) 41 _ (omega arith) (if_leads (exceeds st.geometry) 42 _ (omega arith) (go_leads st here))))))

    blank_leads : (n : ℕ) (l : Bytes) → 0 < n → Leads R (blank_or n st l)
    unfolding blank_or
    blank_leads n l h = if_leads (not (all gap l)) n _ h (go_leads st here)

    -- and with another row of XYZ
    module _ (more : (r : XyzRow) → R (with_geometry st (geometry st.geometry.greatest st.geometry.scale (r ∷ st.geometry.rows)))) where
      xyz_leads : (r : Option XyzRow) → Leads R (xyz_turn st r)
      unfolding xyz_turn
      xyz_leads None = stop_leads 9 (omega arith)
      xyz_leads (Some r) =
          if_leads (not (within 1 (atom_count st) r.atom)) 11 _ (omega arith) (if_leads (any (λ q. leb r.atom q.atom) st.geometry.rows) 13 _ (omega arith) (go_leads _ (more r)))

      pub xyz_line_leads : (fs : List Bytes) → Leads R (xyz_line st fs)
      unfolding xyz_line
      xyz_line_leads fs = unless_leads fs (xyz_turn st (xyz_shape fs)) (xyz_leads (xyz_shape fs))

    -- and with another text, formula, MAX_XYZ and factor
    module _ (text : (i : ℕ) (t : Prose) → R (with_text st i t)) (formula : (es : List Entry) → R (with_formula st es)) (bound : (n : ℕ) → R (with_geometry st (geometry n st.geometry.scale st.geometry.rows)))
        (scaled : (f : Factor) → R (with_geometry st (geometry st.geometry.greatest f st.geometry.rows))) where
      formula_leads : (k : ℕ) (r : Option (List Counted)) → Leads R (formula_turn k st r)
      unfolding formula_turn
      formula_leads k None = stop_leads 9 (omega arith)
      formula_leads k (Some cs) =
          if_leads (not (all (λ c. mass_ok c.symbol && within 1 9999 c.count) cs)) 10 _ (omega arith) (if_leads (any (λ c. unknown k c.symbol) cs) 12 _ (omega arith) (go_leads _ (formula _)))

      greatest_leads : (n : Option ℕ) → Leads R (greatest_turn st n)
      unfolding greatest_turn
      greatest_leads None = stop_leads 9 (omega arith)
      greatest_leads (Some n) = go_leads _ (bound n)

      factor_leads : (f : Option Factor) → Leads R (factor_turn st f)
      unfolding factor_turn
      factor_leads None = stop_leads 9 (omega arith)
      factor_leads (Some f) = if_leads (eqb f.digits 0) 10 _ (omega arith) (go_leads _ (scaled f))

      module _ (h : Holds) (rows : h ≡ Xyz XyzRows → (fs : List Bytes) → Leads R (xyz_line st fs)) where
        pub value_leads : (u : Rules) (from : ℕ) (v : Bytes) → Leads R (value_turn u h st from v)
        unfolding value_turn xyz_value
        value_leads u from v = by h refl
          where
            by : (g : Holds) → h ≡ g → Leads R (value_turn u g st from v)
            by (Text i) e = go_leads _ (text i (prose from v))
            by Version e = version_leads (fields (strip v))
            by Formula e = formula_leads u.elements (formula_shape (strip v))
            by BlockId e = id_leads (fields (strip v))
            by Atoms e = atoms_lead u.elements (fields (strip v))
            by (Rows l) e = rows_lead l (fields (strip v))
            by (Xyz MaxXyz) e = greatest_leads (number (only_field (fields (strip v))))
            by (Xyz XyzFactor) e = factor_leads (factor_shape (only_field (fields (strip v))))
            by (Xyz XyzRows) e = rows e (fields (strip v))
            by Handedness e = yes_leads (fields (strip v))
            by End e = end_leads u (fields (strip v))
            by Skipped e = go_leads st here

        pub further_leads : (u : Rules) (l : Bytes) → Leads R (further_turn u h st l)
        unfolding further_turn xyz_further
        further_leads u l = by h refl
          where
            by : (g : Holds) → h ≡ g → Leads R (further_turn u g st l)
            by (Text i) e = go_leads _ (text i _)
            by Version e = blank_leads 9 (strip l) (omega arith)
            by Formula e = blank_leads 9 (strip l) (omega arith)
            by BlockId e = blank_leads 9 (strip l) (omega arith)
            by Atoms e = atoms_lead u.elements (fields (strip l))
            by (Rows r) e = rows_lead r (fields (strip l))
            by (Xyz MaxXyz) e = blank_leads 9 (strip l) (omega arith)
            by (Xyz XyzFactor) e = blank_leads 9 (strip l) (omega arith)
            by (Xyz XyzRows) e = rows e (fields (strip l))
            by Handedness e = yes_leads (fields (strip l))
            by End e = blank_leads 17 l (omega arith)
            by Skipped e = go_leads st here
