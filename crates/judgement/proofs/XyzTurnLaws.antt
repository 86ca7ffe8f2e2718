-- The records of a block's geometry in the whole scratch: a line of theirs, the last tests of END, and the rows of XYZ behind a line. Document 02, L2. Assumes nothing.
use Prim.Native.Nat.{ℕ, ◌≤◌}
use mathlib.Core.Path.{◌≡◌, refl, sym, ap, ◌∙◌, subst}
use mathlib.Core.Bool.{Bool, true, false}
use mathlib.Core.List.{List, [], ◌∷◌}
use native.Mathlib.Omega.{arith}
use lib.ListN.{take, drop}
use lib.IntN.{ℤ}
use borrow.Rule.Slice.PartMut.{put_mid}
use Rattle.format.specs.Bytes.{Bytes, fields}
use Rattle.format.specs.Labels.{XyzRows, Xyz, Label, label, known}
use Rattle.format.specs.Coordinates.{XyzRow, Geometry}
use Rattle.format.specs.Reading.{Rules, State, if◌stop◌else◌, with_geometry, partly, xyz_value}
use Rattle.format.specs.Reading.{Go as going, Stop as stopping, Turn as Turned}
use Rattle.labels.specs.ShownLines.{by_code}
use Rattle.sorted.specs.Regions.{seen_from}
use Rattle.sorted.specs.GeometryRegion.{geometry_region, GeometryFine}
use Rattle.sorted.proofs.GeometryLaws.{fine_up}
use Rattle.coordinates.specs.KeptRows.{Stored}
use Rattle.coordinates.proofs.KeptLaws.{stored_none}
use Rattle.geometry.specs.LineNoted.{record_of, ShowsNoted, LineNoted}
use Rattle.geometry.specs.SizesTold.{SizesTold}
use Rattle.geometry.specs.LatestStored.{LatestStored}
use Rattle.geometry.specs.XyzRuns.{moved_to, XyzReached, XyzRan}
use Rattle.judgement.proofs.LineTurnLaws.{refused_at}
use Rattle.format.specs.declared.refusal.Refusal.TheVariants.{PartGeometry, AboveGreatest}
use Rattle.gather.specs.Progress.{laid, Counted}
use Rattle.gather.specs.Shows.{Shows, ShowsTurn}
use Rattle.gather.specs.declared.progress.Progress.{Progress}
use Rattle.std.specs.declared.result.Result.{Result}
use Rattle.format.specs.declared.refusal.Refused.{Refused}
use Rattle.std.specs.declared.result.Result.TheVariants.{Ok, Err}
use Rattle.gather.proofs.LaidLaws.{sized, seen_seated, geometry_seated}
use Rattle.gather.proofs.RunLaws.{seen_some}
use Rattle.judgement.specs.Lines.{KeptTurn, geometry_end}
use Rattle.judgement.specs.Placing.{StoredBefore, Placed, RowsPlaced}

-- WHERE THE GEOMETRY STANDS
module _ (k : ℕ) (block : Bytes) (at : ℕ) (p : Progress) (t : List ℕ) (st : State) (c : Counted p) (h : Shows k block at p t st) where
  pub geometry_part : take 9 (drop 2964 t) ≡ geometry_region st.geometry
  geometry_part = ap (λ (s : List ℕ). take 9 (drop 2964 s)) h.holding.scratch ∙ (geometry_seated st (sized p st c h.holding.listed)).0

  geometry_put : (region : List ℕ) (g : Geometry) → region ≡ geometry_region g → put_mid 2964 9 t region ≡ laid (with_geometry st g)
  geometry_put region g e =
      ap (λ (s : List ℕ). put_mid 2964 9 s region) h.holding.scratch ∙ ap (put_mid 2964 9 (laid st)) e ∙ (geometry_seated st (sized p st c h.holding.listed)).1 g

  -- the state with another geometry, at another place
  pub geometry_shown : (place : ℕ) (region : List ℕ) (g : Geometry) → region ≡ geometry_region g → GeometryFine p.atoms g → Shows k block place p (put_mid 2964 9 t region) (moved_to place (with_geometry st g))
  unfolding laid
  geometry_shown place region g e f = record {
    place = refl;
    running = h.running;
    top = h.top;
    holding = record {
      scratch = geometry_put region g e;
      texts = h.holding.texts;
      formula = h.holding.formula;
      formula_fine_lem = h.holding.formula_fine_lem;
      kinds = h.holding.kinds;
      listed = h.holding.listed;
      geometry = f;
    };
  }

-- A LINE OF ONE OF THE THREE RECORDS
abbrev pub turn_noted : Progress → Result (Unit {0}) Refused → Result Progress Refused
turn_noted p (Ok u) = Ok p
turn_noted p (Err e) = Err e

module _ (line : Bytes) (at code : ℕ) (p : Progress) (t region : List ℕ) (r : Result (Unit {0}) Refused) (noted : LineNoted line at code p.atoms (take 9 (drop 2964 t)) region r) (c : Counted p) where
  line_shown : (k : ℕ) (block : Bytes) (st : State) → Shows k block at p t st → ShowsTurn k block at (turn_noted p r) (put_mid 2964 9 t region) (xyz_value (record_of code) st (fields line))
  line_shown k block st h =
      by r (xyz_value (record_of code) st (fields line)) (noted.shows st (geometry_part k block at p t st c h) h.holding.geometry h.holding.listed.atoms)
    where
      by : (n : Result (Unit {0}) Refused) (turned : Turned) → ShowsNoted at p.atoms (take 9 (drop 2964 t)) region st n turned → ShowsTurn k block at (turn_noted p n) (put_mid 2964 9 t region) turned
      by (Ok u) (going new) w =
          let moved : Shows k block at p (put_mid 2964 9 t region) (moved_to at (with_geometry st new.geometry)) = geometry_shown k block at p t st c h at region new.geometry w.region w.fine in
          let here : moved_to at (with_geometry st new.geometry) ≡ new = ap (λ (n : ℕ). moved_to n (with_geometry st new.geometry)) (sym h.place) ∙ sym w.only in
          subst (Shows k block at p (put_mid 2964 9 t region)) here moved
      by (Ok u) (stopping m) w = absurd w
      by (Err e) (going new) w = absurd w
      by (Err e) (stopping m) w = (w.0, w.1)

  kept_noted : KeptTurn p (turn_noted p r)
  kept_noted = by r
    where
      by : (n : Result (Unit {0}) Refused) → KeptTurn p (turn_noted p n)
      by (Ok u) = refl
      by (Err e) = tt

  pub line_noted : (a : Result Progress Refused) → a ≡ turn_noted p r
      → KeptTurn p a × ((k : ℕ) (block : Bytes) (st : State) → Shows k block at p t st → ShowsTurn k block at a (put_mid 2964 9 t region) (xyz_value (record_of code) st (fields line)))
  line_noted a e = rw e (kept_noted, line_shown)

-- THE LAST TESTS OF END
module _ (at : ℕ) (p : Progress) (t : List ℕ) (c : Counted p) (part : Bool) (told : (labels : List Label) → take 18 (drop 2946 t) ≡ seen_from 18 0 labels → part ≡ partly labels (14 ∷ 15 ∷ 16 ∷ [])) where
  abbrev EndPromise : Result Progress Refused → Type 0
  EndPromise r = KeptTurn p r × ((k : ℕ) (block : Bytes) (st : State) → Shows k block at p t st → ShowsTurn k block at r t (geometry_end st))

  partly_is : (k : ℕ) (block : Bytes) (st : State) → Shows k block at p t st → (b : Bool) → part ≡ b → partly st.seen (14 ∷ 15 ∷ 16 ∷ []) ≡ b
  partly_is k block st h b e =
      sym (told st.seen (ap (λ (s : List ℕ). take 18 (drop 2946 s)) h.holding.scratch ∙ (seen_seated st (sized p st c h.holding.listed)).0)) ∙ e

  pub end_partly : part ≡ true → EndPromise (refused_at PartGeometry at)
  end_partly e = (tt, λ k block st h. rw (partly_is k block st h true e) (refl, refl))

  module _ (e : part ≡ false) (above : Bool) (sizes : SizesTold (take 9 (drop 2964 t)) above) where
    end_is : (k : ℕ) (block : Bytes) (st : State) → Shows k block at p t st → (b : Bool) → above ≡ b → geometry_end st ≡ (if b stop 42 else going st)
    end_is k block st h b f = rw (partly_is k block st h false e, sym (sizes.is st.geometry (geometry_part k block at p t st c h)) ∙ f) refl

    pub end_exceeds : above ≡ true → EndPromise (refused_at AboveGreatest at)
    end_exceeds f = (tt, λ k block st h. rw (end_is k block st h true f) (refl, refl))

    pub end_passes : above ≡ false → EndPromise (Ok p)
    end_passes f = (refl, λ k block st h. rw (end_is k block st h false f) h)

-- THE ROWS BEHIND A LINE
xyz_held : (by_code 16 known).holds ≡ Xyz XyzRows
unfolding by_code known label
xyz_held = refl

latest_stored : (region : List ℕ) (before after : List ℤ) (g : Geometry) → LatestStored region before after → region ≡ geometry_region g → GeometryFine 256 g → StoredBefore before g.rows → Stored after g.rows
latest_stored region before after g l e f s = by g.rows refl s
  where
    by : (rs : List XyzRow) → g.rows ≡ rs → StoredBefore before rs → Stored after rs
    by [] q w = stored_none after
    by (r ∷ rs) q w = λ room. l.more g r rs e f q (w (omega (arith, l.long, room))) room

module _ (block : Bytes) (at top atoms : ℕ) (t : List ℕ) (store₀ store : List ℤ) (latest : LatestStored (take 9 (drop 2964 t)) store₀ store) where
  here : (k : ℕ) (p : Progress) (st : State) → Counted p → Shows k block at p t st → StoredBefore store₀ st.geometry.rows → Stored store st.geometry.rows
  here k p st c h s = latest_stored (take 9 (drop 2964 t)) store₀ store st.geometry latest (geometry_part k block at p t st c h) (fine_up p.atoms 256 st.geometry c.atoms h.holding.geometry) s

  pub rows_none : RowsPlaced block at top atoms t t store₀ store at
  rows_none = record {
    stores = latest.long;
    low = omega arith;
    high = λ h. h;
    goes = λ u k p st c a b d h s. record { state = st; shows = h; seen = refl; stored = here k p st c h s; goes = refl };
  }

  module _ (Some : top ≡ 0 → ⊥) (region : List ℕ) (after : List ℤ) (r : ℕ) (ran : XyzRan block at atoms (take 9 (drop 2964 t)) region store after r) where
    rows_on : (u : Rules) (k : ℕ) (p : Progress) (st : State) → Counted p → p.top ≡ top → p.atoms ≡ atoms → p.running ≡ 16 → Shows k block at p t st → StoredBefore store₀ st.geometry.rows
        → Placed u k block at r p (put_mid 2964 9 t region) after st
    rows_on u k p st c a b d h s =
        let x : XyzReached u block at r atoms region after st =
        ran.goes u st h.place (h.running ∙ ap (λ (n : ℕ). (by_code n known).holds) d ∙ xyz_held) (seen_some st.seen p.top h.top (λ z. Some (sym a ∙ z))) (h.holding.listed.atoms ∙ b)
        (subst (λ (n : ℕ). n ≤ 256) b c.atoms) (geometry_part k block at p t st c h) (subst (λ (n : ℕ). GeometryFine n st.geometry) b h.holding.geometry) (here k p st c h s)
        in
        record {
          state = moved_to r (with_geometry st x.geometry);
          shows = geometry_shown k block at p t st c h r region x.geometry x.shown (subst (λ (n : ℕ). GeometryFine n x.geometry) (sym b) x.fine);
          seen = refl;
          stored = x.stored;
          goes = x.goes;
        }

    pub rows_placed : RowsPlaced block at top atoms t (put_mid 2964 9 t region) store₀ after r
    rows_placed = record {
      stores = ran.stores ∙ latest.long;
      low = ran.low;
      high = ran.high;
      goes = rows_on;
    }
