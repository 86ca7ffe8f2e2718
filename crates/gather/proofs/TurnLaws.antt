-- A list's line in the whole scratch: what the list's own region shows after it, the scratch and the progress show of the whole state. Document 01, "Rows", one
-- law for the five lists and one for the atoms. Assumes nothing.
use Prim.Native.Nat.{ℕ, suc, ◌+◌, ◌≤◌}
use mathlib.Core.Path.{◌≡◌, refl, sym, ap, ◌∙◌}
use mathlib.Core.Bool.{true}
use mathlib.Core.Logic.{◌⊎◌, inl, inr}
use mathlib.Core.List.{List, [], ◌∷◌}
use native.Mathlib.Omega.{arith}
use lib.ListN.{length, take, drop, length-drop, length-append}
use lib.Seq.{length-take-le}
use borrow.Rule.Slice.PartMut.{put_mid, put_same}
use Rattle.lists.specs.Lists.{all}
use Rattle.lists.proofs.ListLaws.{all_append_both, all_one}
use Rattle.format.specs.Bytes.{Bytes}
use Rattle.format.specs.Labels.{ListOf, Bonds, Charges, Radicals, Centres, Pairs}
use Rattle.format.specs.Rows.{Row}
use Rattle.format.specs.Structure.{Atom, Structure, rows_of, atom_ok}
use Rattle.format.specs.Coordinates.{Geometry}
use Rattle.format.specs.Reading.{State, with_rows, with_atoms, row_line, atom_line}
use Rattle.sorted.specs.Steps.{After, kept, refused, row_step, atom_step}
use Rattle.sorted.specs.Regions.{Fits, kinds_region}
use Rattle.sorted.specs.GeometryRegion.{GeometryFine}
use Rattle.std.specs.Prelude.{Result, Ok, Err}
use Rattle.std.proofs.lemmas.Result.{err_from_is_err_and}
use Rattle.format.specs.declared.refusal.Refused.{Refused}
use Rattle.sorted.specs.Shown.{ShowsLine, KeptWithin, LineUntouched}
use Rattle.sorted.proofs.FitLaws.{fits_kept, fits_more}
use Rattle.sorted.proofs.GeometryLaws.{fine_up}
use Rattle.gather.specs.Progress.{laid, with_count, Counted, CountedTurn, Listed, count_of}
use Rattle.gather.specs.Shows.{Shows, ShowsTurn}
use Rattle.gather.specs.ListLine.{list_line, turn_of, Gathers, ListLent}
use Rattle.gather.specs.declared.progress.Progress.{Progress}
use Rattle.gather.proofs.StepLaws.{with_kept, with_listed, row_line_lem, atom_line_lem}
use Rattle.gather.proofs.LaidLaws.{sized, from_of, size_of, shown_as, rows_put, atoms_put, list_seated, atoms_seated}
use Rattle.gather.proofs.ListLineLaws.{code_of, list_atoms, list_rows_lem, Own}
use Rattle.gather.proofs.KindLaws.{AtomAdded, atom_kept}

-- THE PROGRESS WITH ANOTHER COUNT
abbrev pub limit_of : ListOf → ℕ
limit_of Bonds = 512
limit_of Charges = 64
limit_of Radicals = 64
limit_of Centres = 128
limit_of Pairs = 128

counted_kept : (l : ListOf) (c : ℕ) (p : Progress) → Counted p → c ≤ limit_of l → Counted (with_count (code_of l) c p)
counted_kept Bonds c p h k = record { atoms = h.atoms; bonds = k; charges = h.charges; radicals = h.radicals; centres = h.centres; pairs = h.pairs }
counted_kept Charges c p h k = record { atoms = h.atoms; bonds = h.bonds; charges = k; radicals = h.radicals; centres = h.centres; pairs = h.pairs }
counted_kept Radicals c p h k = record { atoms = h.atoms; bonds = h.bonds; charges = h.charges; radicals = k; centres = h.centres; pairs = h.pairs }
counted_kept Centres c p h k = record { atoms = h.atoms; bonds = h.bonds; charges = h.charges; radicals = h.radicals; centres = k; pairs = h.pairs }
counted_kept Pairs c p h k = record { atoms = h.atoms; bonds = h.bonds; charges = h.charges; radicals = h.radicals; centres = h.centres; pairs = k }

-- a fact of each list with its count, where one list has other rows
rows_kept : (P : ListOf → List Row → ℕ → Type 0) (l : ListOf) (rs : List Row) (c : ℕ) (s : Structure) (p : Progress) → P l rs c → ((m : ListOf) → P m (rows_of m s) (count_of m p))
    → (m : ListOf) → P m (rows_of m (with_rows l rs s)) (count_of m (with_count (code_of l) c p))
unfolding rows_of with_rows
rows_kept P Bonds rs c s p new old Bonds = new
rows_kept P Bonds rs c s p new old Charges = old Charges
rows_kept P Bonds rs c s p new old Radicals = old Radicals
rows_kept P Bonds rs c s p new old Centres = old Centres
rows_kept P Bonds rs c s p new old Pairs = old Pairs
rows_kept P Charges rs c s p new old Bonds = old Bonds
rows_kept P Charges rs c s p new old Charges = new
rows_kept P Charges rs c s p new old Radicals = old Radicals
rows_kept P Charges rs c s p new old Centres = old Centres
rows_kept P Charges rs c s p new old Pairs = old Pairs
rows_kept P Radicals rs c s p new old Bonds = old Bonds
rows_kept P Radicals rs c s p new old Charges = old Charges
rows_kept P Radicals rs c s p new old Radicals = new
rows_kept P Radicals rs c s p new old Centres = old Centres
rows_kept P Radicals rs c s p new old Pairs = old Pairs
rows_kept P Centres rs c s p new old Bonds = old Bonds
rows_kept P Centres rs c s p new old Charges = old Charges
rows_kept P Centres rs c s p new old Radicals = old Radicals
rows_kept P Centres rs c s p new old Centres = new
rows_kept P Centres rs c s p new old Pairs = old Pairs
rows_kept P Pairs rs c s p new old Bonds = old Bonds
rows_kept P Pairs rs c s p new old Charges = old Charges
rows_kept P Pairs rs c s p new old Radicals = old Radicals
rows_kept P Pairs rs c s p new old Centres = old Centres
rows_kept P Pairs rs c s p new old Pairs = new

-- the other parts of the structure stay, and the count of atoms
rows_alone : (l : ListOf) (rs : List Row) (s : Structure) (c : ℕ) (p : Progress) → ((with_rows l rs s).atoms ≡ s.atoms) × ((with_rows l rs s).id ≡ s.id) × ((with_rows l rs s).handed ≡ s.handed) × ((with_count (code_of l) c p).atoms ≡ p.atoms)
unfolding with_rows
rows_alone Bonds rs s c p = (refl, refl, refl, refl)
rows_alone Charges rs s c p = (refl, refl, refl, refl)
rows_alone Radicals rs s c p = (refl, refl, refl, refl)
rows_alone Centres rs s c p = (refl, refl, refl, refl)
rows_alone Pairs rs s c p = (refl, refl, refl, refl)

rows_listed : (l : ListOf) (rs : List Row) (p : Progress) (s : Structure) → Listed p s → Fits l p.atoms rs → Listed (with_count (code_of l) (length rs) p) (with_rows l rs s)
rows_listed l rs p s h f =
    let o = rows_alone l rs s (length rs) p in
    record {
      atoms = ap length o.0 ∙ h.atoms ∙ sym o.3;
      counts = rows_kept (λ m ms n. length ms ≡ n) l rs (length rs) s p refl h.counts;
      fits = rw o.3 (rows_kept (λ m ms n. Fits m p.atoms ms) l rs (length rs) s p f h.fits);
      id = o.1 ∙ h.id;
      handed = o.2 ∙ h.handed;
    }

-- a part of so many numbers
pub part_long : (from size : ℕ) (t : List ℕ) → length t ≡ 2973 → from + size ≤ 2973 → length (take size (drop from t)) ≡ size
part_long from size t h k = length-take-le size (drop from t) (simp length-drop (omega arith))

-- what a list's own line says of its part of the scratch: the part stays as long; where all is as it should be, the count is within the limit, and what it shows; where it
-- is not, nothing is touched
abbrev pub Told : (size count limit place : ℕ) → Progress → (part region : List ℕ) → Result ℕ Refused → Type 0 → Type 0
Told size count limit place p part region r Shown =
    (length region ≡ length part) × (length part ≡ size → Counted p → KeptWithin limit r × Shown) × ((length part ≡ size → count ≤ limit → p.atoms ≤ 256 → ⊥) → LineUntouched place part region r)

-- and so all that a line promises in the whole scratch
abbrev pub Gathered : (code k place : ℕ) → List Bytes → Progress → (before after : List ℕ) → Result ℕ Refused → Type 0
Gathered code k place fs p before after r =
    Gathers code k place fs p before after (turn_of code p r) × ((ListLent code p before → ⊥) → LineUntouched place before after r)

counted_turn : (code limit : ℕ) (p : Progress) (r : Result ℕ Refused) → ((c : ℕ) → c ≤ limit → Counted (with_count code c p)) → KeptWithin limit r → CountedTurn p (turn_of code p r)
counted_turn code limit p (Ok c) keeps f = (keeps c f, refl)
counted_turn code limit p (Err e) keeps f = tt

-- a part that is as it was, put back
put_untouched : (from size place : ℕ) (t region : List ℕ) (r : Result ℕ Refused) → LineUntouched place (take size (drop from t)) region r → LineUntouched place t (put_mid from size t region) r
put_untouched from size place t region r w = (w.0, ap (put_mid from size t) w.1 ∙ put_same from size t)

-- `own` is the list's code
told_gathers : (code k place : ℕ) (fs : List Bytes) (p : Progress) (t region : List ℕ) (r : Result ℕ Refused) (own from size count limit : ℕ) (Shown : Type 0) → from + size ≤ 2973
    → ((c : ℕ) → Counted p → c ≤ limit → Counted (with_count own c p))
    → (Counted p → 1 ≤ k → Shown → (block : Bytes) (st : State) → Shows k block place p t st → ShowsTurn k block place (turn_of own p r) (put_mid from size t region) (list_line own k st fs))
    → Own code own count limit p → Told size count limit place p (take size (drop from t)) region r Shown → length t ≡ 2973
    → Gathered code k place fs p t (put_mid from size t region) r
told_gathers code k place fs p t region r own from size count limit Shown room keeps shows is told long =
    let w = part_long from size t long room in (
      λ c low six eleven. rw (is.is six eleven) (counted_turn own limit p r (λ n. keeps n c) (told.1 w c).0, shows c low (told.1 w c).1),
      λ other. put_untouched from size place t region r (told.2 (λ long' few atoms. other (record { long = long; atoms = atoms; rows = rw (is.rows, is.most) few }))),
    )

-- ONE OF THE FIVE LISTS
region_within : (l : ListOf) → from_of l + size_of l ≤ 2973
region_within Bonds = omega arith
region_within Charges = omega arith
region_within Radicals = omega arith
region_within Centres = omega arith
region_within Pairs = omega arith

abbrev pub RowsShown : ListOf → (place : ℕ) → Progress → (t region : List ℕ) → List Bytes → Result ℕ Refused → Type 0
RowsShown l place p t region fs r =
    (rs : List Row) → length rs ≡ count_of l p → Fits l p.atoms rs → take (size_of l) (drop (from_of l) t) ≡ shown_as l rs → ShowsLine (shown_as l) place region r (row_step l p.atoms rs fs)

module _ (l : ListOf) (at : ℕ) (p : Progress) (t region : List ℕ) (fs : List Bytes) (r : Result ℕ Refused) (sim : RowsShown l at p t region fs r) where
  module _ (k : ℕ) (block : Bytes) (st : State) (h : Shows k block at p t st) (c : Counted p) where
    rows_shown : (next : List Row) → Fits l p.atoms next → region ≡ shown_as l next → Shows k block at (with_count (code_of l) (length next) p) (put_mid (from_of l) (size_of l) t region) (rows_put l st next)
    rows_shown next f e = record {
      place = h.place;
      running = h.running;
      top = h.top;
      holding = record {
        scratch = ap (λ (s : List ℕ). put_mid (from_of l) (size_of l) s region) h.holding.scratch ∙ ap (put_mid (from_of l) (size_of l) (laid st)) e ∙ (list_seated st (sized p st c h.holding.listed) l).1 next;
        texts = h.holding.texts;
        formula = h.holding.formula;
        formula_fine_lem = h.holding.formula_fine_lem;
        kinds = rw (rows_alone l next st.body 0 p).0 h.holding.kinds;
        listed = rows_listed l next p st.body h.holding.listed f;
        geometry = rw (rows_alone l next st.body (length next) p).3 h.holding.geometry;
      };
    }

    pub rows_turn : ShowsTurn k block at (turn_of (code_of l) p r) (put_mid (from_of l) (size_of l) t region) (row_line l st fs)
    rows_turn =
        go (row_step l p.atoms (rows_of l st.body) fs) refl
        (sim (rows_of l st.body) (h.holding.listed.counts l) (h.holding.listed.fits l)
        (ap (λ (s : List ℕ). take (size_of l) (drop (from_of l) s)) h.holding.scratch ∙ (list_seated st (sized p st c h.holding.listed) l).0))
      where
        line_is : (a : After Row) → row_step l p.atoms (rows_of l st.body) fs ≡ a → row_line l st fs ≡ with_kept l st a
        line_is a e = row_line_lem l st fs ∙ ap (λ (n : ℕ). with_kept l st (row_step l n (rows_of l st.body) fs)) h.holding.listed.atoms ∙ ap (with_kept l st) e

        go : (a : After Row) → row_step l p.atoms (rows_of l st.body) fs ≡ a → ShowsLine (shown_as l) at region r a → ShowsTurn k block at (turn_of (code_of l) p r) (put_mid (from_of l) (size_of l) t region) (row_line l st fs)
        go (kept next) e s = rw (line_is (kept next) e, s.0) (rows_shown next (fits_kept l p.atoms (rows_of l st.body) next fs (h.holding.listed.fits l) e) s.1)
        go (refused n) e s = let x = err_from_is_err_and r s in rw (line_is (refused n) e, x.1) x.2

pub rows_gather : (l : ListOf) (code k place : ℕ) (fs : List Bytes) (p : Progress) (t region : List ℕ) (r : Result ℕ Refused)
    → Own code (code_of l) (count_of l p) (limit_of l) p → Told (size_of l) (count_of l p) (limit_of l) place p (take (size_of l) (drop (from_of l) t)) region r (RowsShown l place p t region fs r) → length t ≡ 2973
    → Gathered code k place fs p t (put_mid (from_of l) (size_of l) t region) r
rows_gather l code k place fs p t region r =
    told_gathers code k place fs p t region r (code_of l) (from_of l) (size_of l) (count_of l p) (limit_of l) (RowsShown l place p t region fs r) (region_within l) (λ n c. counted_kept l n p c)
    (λ c low sim block st h. rw (list_rows_lem k st fs l) (rows_turn l place p t region fs r sim k block st h c))

-- THE ATOMS
-- one atom more, or none, leaves the other lists' rows fitting
atom_fits : (k : ℕ) (listed next : List Atom) → ((next ≡ listed) ⊎ AtomAdded k listed next) → (l : ListOf) (rs : List Row) → Fits l (length listed) rs → Fits l (length next) rs
atom_fits k listed next (inl e) l rs f = rw e f
atom_fits k listed next (inr a) l rs f = let q : length next ≡ suc (length listed) = ap length a.is ∙ length-append listed (a.new ∷ []) ∙ omega arith in rw q (fits_more l (length listed) rs f)

atom_kinds : (k : ℕ) (listed next : List Atom) → ((next ≡ listed) ⊎ AtomAdded k listed next) → all (atom_ok k) listed ≡ true → all (atom_ok k) next ≡ true
atom_kinds k listed next (inl e) h = ap (all (atom_ok k)) e ∙ h
atom_kinds k listed next (inr a) h = ap (all (atom_ok k)) a.is ∙ all_append_both (atom_ok k) listed (a.new ∷ []) h (all_one (atom_ok k) a.new ∙ a.fine)

-- and the rows of XYZ naming listed atoms
atom_geometry : (k : ℕ) (listed next : List Atom) (n : ℕ) (g : Geometry) → ((next ≡ listed) ⊎ AtomAdded k listed next) → length listed ≡ n → GeometryFine n g → GeometryFine (length next) g
atom_geometry k listed next n g (inl e) q h = rw (e, q) h
atom_geometry k listed next n g (inr a) q h = fine_up n (length next) g (omega (arith, q, ap length a.is ∙ length-append listed (a.new ∷ []))) h

abbrev pub AtomsShown : (place : ℕ) → Progress → (t region : List ℕ) → List Bytes → Result ℕ Refused → (k : ℕ) → Type 0
AtomsShown place p t region fs r k = (listed : List Atom) → length listed ≡ p.atoms → take 768 (drop 0 t) ≡ kinds_region listed → ShowsLine kinds_region place region r (atom_step k listed fs)

module _ (at : ℕ) (p : Progress) (t region : List ℕ) (fs : List Bytes) (r : Result ℕ Refused) (k : ℕ) (sim : AtomsShown at p t region fs r k) where
  module _ (low : 1 ≤ k) (block : Bytes) (st : State) (h : Shows k block at p t st) (c : Counted p) where
    atoms_listed : (next : List Atom) → ((next ≡ st.body.atoms) ⊎ AtomAdded k st.body.atoms next) → Listed (with_count 6 (length next) p) (with_atoms next st.body)
    unfolding rows_of
    atoms_listed next a =
        let old = h.holding.listed in
        let fit : (l : ListOf) → Fits l (length next) (rows_of l st.body) = λ l. atom_fits k st.body.atoms next a l (rows_of l st.body) (rw old.atoms (old.fits l)) in
        record {
          atoms = refl;
          counts = λ l. elim l as (λ l. length (rows_of l (with_atoms next st.body)) ≡ count_of l (with_count 6 (length next) p)) [ Bonds ↦ old.counts Bonds | Charges ↦ old.counts Charges | Radicals ↦ old.counts Radicals | Centres ↦ old.counts Centres | Pairs ↦ old.counts Pairs ];
          fits = λ l. elim l as (λ l. Fits l (length next) (rows_of l (with_atoms next st.body))) [ Bonds ↦ fit Bonds | Charges ↦ fit Charges | Radicals ↦ fit Radicals | Centres ↦ fit Centres | Pairs ↦ fit Pairs ];
          id = old.id;
          handed = old.handed;
        }

    atoms_shown : (next : List Atom) → ((next ≡ st.body.atoms) ⊎ AtomAdded k st.body.atoms next) → region ≡ kinds_region next → Shows k block at (with_count 6 (length next) p) (put_mid 0 768 t region) (atoms_put st next)
    atoms_shown next a e = record {
      place = h.place;
      running = h.running;
      top = h.top;
      holding = record {
        scratch = ap (λ (s : List ℕ). put_mid 0 768 s region) h.holding.scratch ∙ ap (put_mid 0 768 (laid st)) e ∙ (atoms_seated st (sized p st c h.holding.listed)).1 next;
        texts = h.holding.texts;
        formula = h.holding.formula;
        formula_fine_lem = h.holding.formula_fine_lem;
        kinds = atom_kinds k st.body.atoms next a h.holding.kinds;
        listed = atoms_listed next a;
        geometry = atom_geometry k st.body.atoms next p.atoms st.geometry a h.holding.listed.atoms h.holding.geometry;
      };
    }

    pub atoms_turn : ShowsTurn k block at (turn_of 6 p r) (put_mid 0 768 t region) (atom_line k st fs)
    atoms_turn =
        go (atom_step k st.body.atoms fs) refl
        (sim st.body.atoms h.holding.listed.atoms (ap (λ (s : List ℕ). take 768 (drop 0 s)) h.holding.scratch ∙ (atoms_seated st (sized p st c h.holding.listed)).0))
      where
        line_is : (a : After Atom) → atom_step k st.body.atoms fs ≡ a → atom_line k st fs ≡ with_listed st a
        line_is a e = atom_line_lem k st fs ∙ ap (with_listed st) e

        go : (a : After Atom) → atom_step k st.body.atoms fs ≡ a → ShowsLine kinds_region at region r a → ShowsTurn k block at (turn_of 6 p r) (put_mid 0 768 t region) (atom_line k st fs)
        go (kept next) e s = rw (line_is (kept next) e, s.0) (atoms_shown next (atom_kept k low st.body.atoms next fs e) s.1)
        go (refused n) e s = let x = err_from_is_err_and r s in rw (line_is (refused n) e, x.1) x.2

pub atoms_gather : (code k place : ℕ) (fs : List Bytes) (p : Progress) (t region : List ℕ) (r : Result ℕ Refused)
    → Own code 6 p.atoms 256 p → Told 768 p.atoms 256 place p (take 768 (drop 0 t)) region r (AtomsShown place p t region fs r k) → length t ≡ 2973
    → Gathered code k place fs p t (put_mid 0 768 t region) r
atoms_gather code k place fs p t region r =
    told_gathers code k place fs p t region r 6 0 768 p.atoms 256 (AtomsShown place p t region fs r k) (omega arith)
    (λ n h few. record { atoms = few; bonds = h.bonds; charges = h.charges; radicals = h.radicals; centres = h.centres; pairs = h.pairs })
    (λ c low sim block st h. rw (list_atoms k st fs) (atoms_turn place p t region fs r k sim low block st h c))
