-- What a line of MAX_XYZ, XYZ_FACTOR or XYZ leaves, by the answer to its value: document 02, L2, "shape, range, atom and order faults as 9, 10, 11 and 13, with a zero
-- factor as 10". Assumes nothing.
use Rattle.std.proofs.Common.{◌≡◌, ℕ, ◌<◌, ◌≤◌, true, false, leb, List, [], ◌∷◌, length, get_or, set, sym, refl, ap, ◌∙◌, subst, arith, length-set, eq-eqb, ne_eqb, le-leb}
use Rattle.std.specs.declared.option.Option.{Option}
use Rattle.std.specs.declared.option.Option.TheVariants.{None, Some}
use Rattle.std.specs.declared.result.Result.{Result}
use Rattle.std.specs.declared.result.Result.TheVariants.{Ok, Err}
use Rattle.std.specs.Prelude.{IsErrAnd, MatchResult, ok_or}
use Rattle.format.specs.Refusals.{number_of}
use Rattle.format.specs.declared.refusal.Refusal.{Refusal}
use Rattle.format.specs.declared.refusal.Refusal.TheVariants.{Unlent, Shape, AtomNumber, Clash}
use Rattle.format.specs.declared.refusal.Refused.{Refused}
use borrow.Author.Tests.{lt-leb}
use Rattle.lists.specs.Lists.{is_nil, any}
use Rattle.lists.proofs.ListLaws.{nil_is}
use Rattle.lists.proofs.Bools.{torn}
use Rattle.format.specs.Bytes.{Bytes, within, fields}
use Rattle.format.specs.Rows.{number}
use Rattle.format.specs.Labels.{XyzOf, MaxXyz, XyzFactor, XyzRows}
use Rattle.format.specs.Coordinates.{XyzRow, xyz_shape, Factor, factor_shape, Geometry, geometry}
use Rattle.format.specs.Reading.{State, Turn, Go, Stop, atom_count, with_geometry, only_field, greatest_turn, xyz_turn, unless_blank, xyz_line, xyz_value}
use Rattle.format.proofs.ByteLaws.{within_is}
use Rattle.rows.specs.Raised.{row_small, xyz_row_of}
use Rattle.rows.specs.declared.xyz.XyzRow.{XyzRow as Raised}
use Rattle.factor.specs.ShownFactors.{FactorSmall, judged, judged_turn, factor_of}
use Rattle.factor.specs.declared.Factor.{Factor as Kept}
use Rattle.factor.proofs.FactorLaws.{turn_judged}
use Rattle.sorted.specs.GeometryRegion.{latest_atom, geometry_region, GeometryFine}
use Rattle.geometry.specs.Cells.{row_put}
use Rattle.geometry.specs.LineNoted.{record_of, ShowsTurn, ShowsNoted, TurnNoted, LineNoted}
use Rattle.sorted.proofs.GeometryLaws.{region_nine, few_rows}
use Rattle.geometry.proofs.CellLaws.{any_latest, with_xyz, put_shown, put_length, fine_more}

-- A REFUSAL handed on
pub handed : {T : Type 0} (r : Result T Refusal) (e : Refusal) → IsErrAnd r (λ y. y ≡ e) → r ≡ Err e
handed (Ok x) e h = absurd h
handed (Err y) e h = ap (λ (z : Refusal). Err z) h

pub shape_of : (o : Option ℕ) (e : Refusal) → o ≡ None → Err e ≡ ok_or o Shape → e ≡ Shape
shape_of None e n q = cc
shape_of (Some n) e k q = let z : ◌≡◌ {A = ℕ} 0 1 = cc in absurd (omega arith)

-- A TURN shown: a refusal leaves all as it was; what is kept shows a geometry
module _ (x : XyzOf) (line : Bytes) (atoms : ℕ) (before : List ℕ) where
  refused_noted : (e : Refusal) → ((st : State) → before ≡ geometry_region st.geometry → GeometryFine atoms st.geometry → atom_count st ≡ atoms → xyz_value x st (fields line) ≡ Stop (number_of e))
      → TurnNoted x line atoms before before (Err e)
  refused_noted e stops = record {
    long = refl;
    shows = λ st a f c. subst (ShowsTurn atoms before before st (Err e)) (sym (stops st a f c)) (refl, refl);
  }

  kept_noted : (after : List ℕ) → length after ≡ length before → (new : Geometry → Geometry)
      → ((st : State) → before ≡ geometry_region st.geometry → GeometryFine atoms st.geometry → atom_count st ≡ atoms → xyz_value x st (fields line) ≡ Go (with_geometry st (new st.geometry)))
      → ((g : Geometry) → before ≡ geometry_region g → GeometryFine atoms g → (after ≡ geometry_region (new g)) × GeometryFine atoms (new g)) → TurnNoted x line atoms before after (Ok tt)
  kept_noted after long new goes shown = record {
    long = long;
    shows = λ st e f c. subst (ShowsTurn atoms before after st (Ok tt)) (sym (goes st e f c)) (record { region = (shown st.geometry e f).0; fine = (shown st.geometry e f).1; only = refl });
  }

-- MAX_XYZ
module _ (line : Bytes) (before : List ℕ) where
  abbrev asked : Option ℕ
  asked = number (only_field (fields line))

  greatest_turn_lem : (st : State) (o : Option ℕ) → asked ≡ o → xyz_value MaxXyz st (fields line) ≡ greatest_turn st o
  unfolding xyz_value
  greatest_turn_lem st o e = ap (greatest_turn st) e

  pub greatest_wrong : (atoms : ℕ) → asked ≡ None → (r : Result Unit Refusal) → r ≡ Err Shape → TurnNoted MaxXyz line atoms before before r
  unfolding greatest_turn
  greatest_wrong atoms e r q = rw q (refused_noted MaxXyz line atoms before Shape (λ st a f c. greatest_turn_lem st None e))

  pub greatest_kept : (atoms n : ℕ) → asked ≡ Some n → TurnNoted MaxXyz line atoms before (set before 0 n) (Ok tt)
  unfolding greatest_turn geometry_region
  greatest_kept atoms n e =
      kept_noted MaxXyz line atoms before (set before 0 n) (length-set before 0 n) (λ g. geometry n g.scale g.rows) (λ st a f c. greatest_turn_lem st (Some n) e)
      (λ g a f. (ap (λ (t : List ℕ). set t 0 n) a, record { descends = f.descends; highest = f.highest; small = f.small; digits = f.digits; decimals = f.decimals }))

-- XYZ_FACTOR
module _ (line : Bytes) (before : List ℕ) where
  factor_turn_lem : (st : State) (j : Result Factor Refusal) → j ≡ judged (factor_shape (only_field (fields line))) → xyz_value XyzFactor st (fields line) ≡ judged_turn st j
  unfolding xyz_value
  factor_turn_lem st j e = turn_judged st (factor_shape (only_field (fields line))) ∙ ap (judged_turn st) (sym e)

  pub factor_wrong : (atoms : ℕ) (e : Refusal) → Err e ≡ judged (factor_shape (only_field (fields line))) → (r : Result Unit Refusal) → r ≡ Err e → TurnNoted XyzFactor line atoms before before r
  factor_wrong atoms e j r q = rw q (refused_noted XyzFactor line atoms before e (λ st a f c. factor_turn_lem st (Err e) j))

  module _ (k : Kept) (e : Ok (factor_of k) ≡ judged (factor_shape (only_field (fields line)))) (small : FactorSmall k) where
    abbrev scaled_by : List ℕ
    scaled_by = set (set before 1 k.digits) 2 k.decimals

    pub factor_kept : (atoms : ℕ) → TurnNoted XyzFactor line atoms before scaled_by (Ok tt)
    unfolding geometry_region
    factor_kept atoms =
        kept_noted XyzFactor line atoms before scaled_by (length-set (set before 1 k.digits) 2 k.decimals ∙ length-set before 1 k.digits) (λ g. geometry g.greatest (factor_of k) g.rows)
        (λ st a f c. factor_turn_lem st (Ok (factor_of k)) e)
        (λ g a f. (ap (λ (t : List ℕ). set (set t 1 k.digits) 2 k.decimals) a, record { descends = f.descends; highest = f.highest; small = f.small; digits = small.1; decimals = small.2 }))

-- XYZ
module _ (line : Bytes) (atoms : ℕ) (before : List ℕ) where
  pub row_blank : is_nil (fields line) ≡ true → TurnNoted XyzRows line atoms before before (Ok tt)
  unfolding xyz_value xyz_line
  row_blank e =
      kept_noted XyzRows line atoms before before refl (λ g. g) (λ st a f c. ap (λ (fs : List Bytes). unless_blank st fs (xyz_turn st (xyz_shape fs))) (nil_is (fields line) e))
      (λ g a f. (a, f))

  module _ (inked : is_nil (fields line) ≡ false) where
    row_turn_lem : (st : State) (o : Option XyzRow) → xyz_shape (fields line) ≡ o → xyz_value XyzRows st (fields line) ≡ xyz_turn st o
    unfolding xyz_value xyz_line
    row_turn_lem st o e = go (fields line) inked ∙ ap (xyz_turn st) e
      where
        go : (fs : List Bytes) → is_nil fs ≡ false → unless_blank st fs (xyz_turn st (xyz_shape (fields line))) ≡ xyz_turn st (xyz_shape (fields line))
        go [] n = torn true refl n
        go (w ∷ ws) n = refl

    pub row_wrong : xyz_shape (fields line) ≡ None → (r : Result Unit Refusal) → r ≡ Err Shape → TurnNoted XyzRows line atoms before before r
    unfolding xyz_turn
    row_wrong e r q = rw q (refused_noted XyzRows line atoms before Shape (λ st a f c. row_turn_lem st None e))

    module _ (k : Raised) (is : xyz_shape (fields line) ≡ Some (xyz_row_of k)) (small : row_small (xyz_row_of k) ≡ true) where
      abbrev row : XyzRow
      row = xyz_row_of k

      abbrev a : ℕ
      a = k.atom

      unlisted : (st : State) → atom_count st ≡ atoms → within 1 atoms a ≡ false → xyz_turn st (Some row) ≡ Stop 11
      unfolding xyz_turn
      unlisted st c w = let q : within 1 (atom_count st) row.atom ≡ false = ap (λ (n : ℕ). within 1 n row.atom) c ∙ w in rw q refl

      pub row_unlisted : within 1 atoms a ≡ false → TurnNoted XyzRows line atoms before before (Err AtomNumber)
      row_unlisted w = refused_noted XyzRows line atoms before AtomNumber (λ st e f c. row_turn_lem st (Some row) is ∙ unlisted st c w)

      module _ (low : 1 ≤ a) (high : a ≤ atoms) where
        listed : (st : State) → atom_count st ≡ atoms → within 1 (atom_count st) row.atom ≡ true
        listed st c = ap (λ (n : ℕ). within 1 n row.atom) c ∙ within_is 1 atoms a low high

        latest_is : (st : State) → GeometryFine atoms st.geometry → any (λ q. leb row.atom q.atom) st.geometry.rows ≡ leb a (latest_atom st.geometry.rows)
        latest_is st f = any_latest a st.geometry.rows low f.descends

        -- the region's cell is the latest row's atom
        cell_is : (g : Geometry) → before ≡ geometry_region g → get_or before 5 0 ≡ latest_atom g.rows
        unfolding geometry_region
        cell_is g e = ap (λ (t : List ℕ). get_or t 5 0) e ∙ go g.rows
          where
            go : (rs : List XyzRow) → get_or (geometry_region (geometry g.greatest g.scale rs)) 5 0 ≡ latest_atom rs
            go [] = refl
            go (r ∷ rs) = refl

        late : (st : State) → before ≡ geometry_region st.geometry → GeometryFine atoms st.geometry → atom_count st ≡ atoms → a ≤ get_or before 5 0 → xyz_turn st (Some row) ≡ Stop 13
        unfolding xyz_turn
        late st e f c h =
            let q : any (λ q. leb row.atom q.atom) st.geometry.rows ≡ true = latest_is st f ∙ le-leb a (latest_atom st.geometry.rows) (omega (arith, cell_is st.geometry e)) in
            rw (listed st c, q) refl

        pub row_late : a ≤ get_or before 5 0 → TurnNoted XyzRows line atoms before before (Err Clash)
        row_late h = refused_noted XyzRows line atoms before Clash (λ st e f c. row_turn_lem st (Some row) is ∙ late st e f c h)

        joined : (st : State) → before ≡ geometry_region st.geometry → GeometryFine atoms st.geometry → atom_count st ≡ atoms → get_or before 5 0 < a
            → xyz_turn st (Some row) ≡ Go (with_geometry st (with_xyz st.geometry row))
        unfolding xyz_turn
        joined st e f c h =
            let q : any (λ q. leb row.atom q.atom) st.geometry.rows ≡ false = latest_is st f ∙ lt-leb a (latest_atom st.geometry.rows) (omega (arith, cell_is st.geometry e)) in
            rw (listed st c, q) refl

        pub row_goes : (st : State) → before ≡ geometry_region st.geometry → GeometryFine atoms st.geometry → atom_count st ≡ atoms → get_or before 5 0 < a
            → xyz_line st (fields line) ≡ Go (with_geometry st (with_xyz st.geometry row))
        unfolding xyz_value
        row_goes st e f c h = row_turn_lem st (Some row) is ∙ joined st e f c h

        -- the region with the row put, for every geometry that it shows
        pub put_more : (g : Geometry) → before ≡ geometry_region g → GeometryFine atoms g → get_or before 5 0 < a → a < 4294967296
            → (row_put before k ≡ geometry_region (with_xyz g row)) × GeometryFine atoms (with_xyz g row)
        put_more g e f h less =
            let above : latest_atom g.rows < a = omega (arith, cell_is g e) in
            (ap (λ (t : List ℕ). row_put t k) e ∙ put_shown g k (omega (arith, few_rows g.rows f.descends)), fine_more atoms g row f small above high)

        pub row_kept : (after : List ℕ) → after ≡ row_put before k → get_or before 5 0 < a → a < 4294967296 → TurnNoted XyzRows line atoms before after (Ok tt)
        row_kept after p h less =
            kept_noted XyzRows line atoms before after (ap length p ∙ put_length before k) (λ g. with_xyz g row) (λ st e f c. row_turn_lem st (Some row) is ∙ joined st e f c h)
            (λ g e f. (p ∙ (put_more g e f h less).0, (put_more g e f h less).1))

-- BY THE CODE, and with the line's place
abbrev pub placed_at : (place : ℕ) → Result Unit Refusal → Result Unit Refused
placed_at place (Ok u) = Ok u
placed_at place (Err e) = Err (record { refusal = e; place = place })

pub placed_by : (P : Refusal → Refused → Type 0) (place : ℕ) (r : Result Unit Refusal) (s : Result Unit Refused) → MatchResult r (λ x. s ≡ Ok x) (λ e. IsErrAnd s (P e))
    → ((e : Refusal) (q : Refused) → P e q → q ≡ record { refusal = e; place = place }) → s ≡ placed_at place r
placed_by P place (Ok u) s h f = h
placed_by P place (Err e) (Ok u) h f = absurd h
placed_by P place (Err e) (Err q) h f = ap (λ (z : Refused). Err z) (f e q h)

turn_placed : (place atoms : ℕ) (before after : List ℕ) (st : State) (r : Result Unit Refusal) (t : Turn) → ShowsTurn atoms before after st r t → ShowsNoted place atoms before after st (placed_at place r) t
turn_placed place atoms before after st (Ok u) (Go new) h = h
turn_placed place atoms before after st (Ok u) (Stop n) h = h
turn_placed place atoms before after st (Err e) (Go new) h = h
turn_placed place atoms before after st (Err e) (Stop n) h = (h.0, refl, h.1)

pub line_other : (line : Bytes) (place code atoms : ℕ) (before : List ℕ) → (length before ≡ 9 → ⊥) → (r : Refused) → r ≡ record { refusal = Unlent; place = place } → LineNoted line place code atoms before before (Err r)
line_other line place code atoms before h r q = record { long = refl; other = λ o. (ap (λ (z : Refused). Err z) q, refl); shows = λ st e f c. absurd (h (ap length e ∙ region_nine st.geometry)) }

pub line_by : (line : Bytes) (place code atoms : ℕ) (before after : List ℕ) (r : Result Unit Refusal) → length before ≡ 9 → TurnNoted (record_of code) line atoms before after r
    → (s : Result Unit Refused) → s ≡ placed_at place r → LineNoted line place code atoms before after s
line_by line place code atoms before after r nine h s q = rw q (record {
  long = h.long;
  other = λ o. absurd (o nine);
  shows = λ st a f c. turn_placed place atoms before after st r (xyz_value (record_of code) st (fields line)) (h.shows st a f c);
})

pub turn_by : (x y : XyzOf) (line : Bytes) (atoms : ℕ) (before after : List ℕ) (r : Result Unit Refusal) → y ≡ x → TurnNoted x line atoms before after r → TurnNoted y line atoms before after r
turn_by x y line atoms before after r e h = rw e h

pub code_greatest : (code : ℕ) → code ≡ 14 → record_of code ≡ MaxXyz
code_greatest code e = rw (eq-eqb code 14 e, record_of)

pub code_factor : (code : ℕ) → (code ≡ 14 → ⊥) → code ≡ 15 → record_of code ≡ XyzFactor
code_factor code d e = rw (ne_eqb code 14 d, record_of) (rw (eq-eqb code 15 e))

pub code_rows : (code : ℕ) → (code ≡ 14 → ⊥) → (code ≡ 15 → ⊥) → record_of code ≡ XyzRows
code_rows code d e = rw (ne_eqb code 14 d, record_of) (rw (ne_eqb code 15 e))
