-- The lines of a block in turn: what progress and scratch show of the state before a line, they show of the state behind it, and the reading goes on from there.
-- Document 01, "Refusal numbers". Assumes nothing.
use Prim.Native.Nat.{ℕ, ◌+◌, ◌-◌, ◌≤◌, ◌<◌}
use mathlib.Core.Path.{◌≡◌, refl, sym, ap, ◌∙◌}
use mathlib.Core.Bool.{Bool, true, false, ◌||◌}
use mathlib.Core.List.{List, [], ◌∷◌}
use mathlib.Core.Logic.{inl, inr}
use native.Mathlib.Omega.{arith}
use lib.ListN.{length, take, drop, drop_of_length-le}
use lib.Dec.{eqb, ltb}
use lib.IntN.{ℤ}
use Rattle.lists.specs.Lists.{is_nil, all, any, filled, flat}
use Rattle.lists.specs.Order.{sort}
use Rattle.lists.proofs.ListLaws.{all_nil, all_both}
use Rattle.lists.proofs.PartLaws.{filled_length}
use Rattle.format.specs.Bytes.{Bytes, allowed, cut, line_len}
use Rattle.format.specs.Labels.{ListOf, Bonds, Charges, Radicals, Centres, Pairs, Label, label, known, lookup}
use Rattle.format.specs.Formula.{frun, formula_shape}
use Rattle.format.specs.Coordinates.{XyzRow}
use Rattle.format.specs.Structure.{rows_of, most, atom_ok}
use Rattle.format.specs.Reading.{Rules, State, noted, past, over, line_step, Refused, ending, read_lines, start}
use Rattle.format.specs.Reading.{Go as going, Stop as stopping, Turn as Turned}
use Rattle.format.proofs.AcceptedLaws.{lookup_passes, label_passes}
use Rattle.format.proofs.CutLaws.{cut_at, cut_nil}
use Rattle.format.proofs.ReadingLaws.{step_byte, read_go, read_stop, read_end, Went, further, started, step_went, Grown, step_grown}
use Rattle.lines.specs.Cuts.{LineEnd}
use Rattle.lines.specs.Looks.{line_from, CleanEnd, ShowsLooked}
use Rattle.std.specs.declared.option.Option.{Option}
use Rattle.std.specs.declared.option.Option.TheVariants.{None, Some}
use Rattle.labels.specs.ShownLines.{by_code}
use Rattle.sorted.specs.Regions.{kinds_region, member_of, members_from, arrived, void_of, spread_region, keyed_region, seen_from, top_of}
use Rattle.sorted.specs.GeometryRegion.{geometry_region, largest_of}
use Rattle.sorted.proofs.FitLaws.{fits_nil}
use Rattle.sorted.proofs.GeometryLaws.{fine_none}
use Rattle.coordinates.specs.KeptRows.{Stored}
use Rattle.coordinates.proofs.KeptLaws.{stored_none, stored_less}
use Rattle.gather.specs.Progress.{part_of, count_of, laid, Within, recounted, Bounded, BoundedTurn, Flowing, FlowingTurn, Listed, entry_fine}
use Rattle.gather.specs.Shows.{Shows, ShowsTurn}
use Rattle.gather.specs.Runs.{Reached, RowsRan}
use Rattle.gather.proofs.RunLaws.{past_shown, rows_stay}
use Rattle.gather.specs.declared.Ran.{Ran}
use Rattle.gather.specs.declared.progress.Progress.{Progress}
use Rattle.std.specs.declared.result.Result.{Result}
use Rattle.format.specs.declared.refusal.Refused.{Refused as Told}
use Rattle.std.specs.declared.result.Result.TheVariants.{Ok, Err}
use Rattle.judgement.specs.Lines.{rules_of, begun}
use Rattle.judgement.specs.Placing.{StoredBefore, Placed, RowsPlaced}
use Rattle.judgement.specs.Judging.{ShowsJudged, ReadingLent, Judges, unread_yet, end_by, judged_end}
use Rattle.judgement.specs.declared.rules.Rules.{Rules as Given}
use Rattle.format.specs.Refusals.{number_of}
use Rattle.format.specs.declared.refusal.Refusal.TheVariants.{Unlent, ForbiddenByte}
use Rattle.judgement.proofs.TextTurnLaws.{counted_bounded, silent, flowing_silent}
use Rattle.judgement.proofs.LabelTurnLaws.{nil_top}
use Rattle.judgement.proofs.CodeLaws.{over_code, rows_code}

-- BEFORE THE FIRST LINE
laid_start : filled 0 2973 [] ≡ laid start
unfolding filled laid start geometry_region largest_of kinds_region spread_region keyed_region seen_from members_from member_of arrived void_of most sort flat any
laid_start = refl

start_rows : (l : ListOf) → rows_of l start.body ≡ []
unfolding rows_of start
start_rows Bonds = refl
start_rows Charges = refl
start_rows Radicals = refl
start_rows Centres = refl
start_rows Pairs = refl

start_listed : Listed unread_yet start.body
unfolding start rows_of
start_listed = record {
  atoms = refl;
  counts = λ l. elim l as (λ l. length (rows_of l start.body) ≡ count_of l unread_yet) [ Bonds ↦ refl | Charges ↦ refl | Radicals ↦ refl | Centres ↦ refl | Pairs ↦ refl ];
  fits = λ l. rw (start_rows l) (fits_nil l 0);
  id = refl;
  handed = refl;
}

pub start_shown : (k : ℕ) (block : Bytes) (t : List ℕ) → t ≡ filled 0 2973 [] → Shows k block 0 unread_yet t start
unfolding start by_code known label lookup top_of formula_shape frun
start_shown k block t e = record {
  place = refl;
  running = refl;
  top = refl;
  holding = record { scratch = e ∙ laid_start; texts = refl; formula = refl; formula_fine_lem = all_nil (entry_fine k); kinds = all_nil (atom_ok k); listed = start_listed; geometry = fine_none 0 };
}

nothing_within : (size : ℕ) → Within size (record { from = 0; to = 0 })
nothing_within size = record { order = omega arith; high = omega arith }

pub start_bounded : (size : ℕ) → Bounded size unread_yet
start_bounded size = record {
  counted = record { atoms = omega arith; bonds = omega arith; charges = omega arith; radicals = omega arith; centres = omega arith; pairs = omega arith };
  code = omega arith;
  title = nothing_within size;
  origin = nothing_within size;
  owner = nothing_within size;
  formula = nothing_within size;
  id = omega arith;
}

pub start_flowing : Flowing 0 unread_yet
start_flowing = record { title = λ e. absurd (omega arith); origin = λ e. absurd (omega arith); owner = λ e. absurd (omega arith) }

start_begun : begun start ≡ true
unfolding start
start_begun = all_nil (λ (y : Label). ltb 0 y.low)

-- THE LABELS SEEN are known ones
abbrev low_label : Label → Bool
low_label x = eqb x.code 0 || ltb 0 x.low

known_low : (n : Bytes) → low_label (lookup n known) ≡ true
unfolding known all label
known_low n = lookup_passes low_label n refl known refl

noted_begun : (c : ℕ) (x : Label) (seen : List Label) → (eqb c 0 || ltb 0 x.low) ≡ true → all (λ (y : Label). ltb 0 y.low) seen ≡ true → all (λ (y : Label). ltb 0 y.low) (noted c x seen) ≡ true
noted_begun c x seen h a = go (eqb c 0) h
  where
    go : (b : Bool) → (b || ltb 0 x.low) ≡ true → all (λ (y : Label). ltb 0 y.low) (elim b [ true ↦ seen | false ↦ x ∷ seen ]) ≡ true
    go true e = a
    go false e = all_both (λ (y : Label). ltb 0 y.low) x seen e a

step_begun : (u : Rules) (st : State) (l : Bytes) (next : State) → line_step u st l ≡ going next → begun st ≡ true → begun next ≡ true
step_begun u st l next e h = by (step_went u st l next e)
  where
    by : Went u st l next → begun next ≡ true
    by (further f k) = ap (all (λ (y : Label). ltb 0 y.low)) k.seen ∙ h
    by (started x v f o k) = let q : low_label x ≡ true = label_passes low_label known_low l x v f in ap (all (λ (y : Label). ltb 0 y.low)) k.seen ∙ noted_begun x.code x st.seen q h

-- BETWEEN LINES
pub record Going (u : Given) (block : Bytes) (at : ℕ) (p : Progress) (t : List ℕ) (store : List ℤ) : Type 0 where
  pub state : State
  pub shows : Shows u.last block at p t state
  pub noticed : begun state ≡ true
  pub stored : Stored store state.geometry.rows
  pub goes : read_lines (rules_of u) start (cut block) ≡ read_lines (rules_of u) state (cut (drop at block))

start_stored : (store : List ℤ) → Stored store start.geometry.rows
unfolding start
start_stored store = stored_none store

pub going_start : (u : Given) (block : Bytes) (p : Progress) (t : List ℕ) (store : List ℤ) → p ≡ unread_yet → t ≡ filled 0 2973 [] → Going u block 0 p t store
going_start u block p t store q e = rw q (record { state = start; shows = start_shown u.last block t e; noticed = start_begun; stored = start_stored store; goes = refl })

-- all that holds before the first line, and what holds of a scratch of zeros
pub holds_start : (u : Given) (block : Bytes) (p : Progress) (t : List ℕ) (store : List ℤ) → p ≡ unread_yet
    → (0 ≤ length block) × (length store ≡ length store) × Bounded (length block) p × Flowing 0 p × (t ≡ filled 0 2973 [] → Going u block 0 p t store)
holds_start u block p t store q = (omega arith, refl, rw q (start_bounded (length block)), rw q start_flowing, going_start u block p t store q)

pub bounded_go : (size : ℕ) (r : Result Progress Told) (q : Progress) → r ≡ Ok q → BoundedTurn size r → Bounded size q
bounded_go size r q e b = rw e at b

pub flowing_go : (at : ℕ) (r : Result Progress Told) (q : Progress) → r ≡ Ok q → FlowingTurn at r → Flowing at q
flowing_go at r q e f = rw e at f

-- a line of allowed bytes, told of and cut out
pub looked_end : (block : Bytes) (at : ℕ) (r : Option ℕ) (end : ℕ) → r ≡ Some end → ShowsLooked block at r → CleanEnd block at end
looked_end block at r end e s = rw e at s

pub looked_wrong : (block : Bytes) (at : ℕ) (r : Option ℕ) → r ≡ None → ShowsLooked block at r → all allowed (line_from block at) ≡ false
looked_wrong block at r e s = rw e at s

part_is : (block : Bytes) (at end : ℕ) → LineEnd block at end → line_from block at ≡ part_of block at end
part_is block at end e = let q : line_len (drop at block) ≡ end - at = omega (arith, e.is) in ap (λ (n : ℕ). take n (drop at block)) q

pub part_clean : (block : Bytes) (at end : ℕ) → CleanEnd block at end → all allowed (part_of block at end) ≡ true
part_clean block at end e = ap (all allowed) (sym (part_is block at end e.end)) ∙ e.clean

-- a line with a byte that is not allowed
pub unclean : (u : Given) (block : Bytes) (at : ℕ) (p : Progress) (t : List ℕ) (store : List ℤ) → Going u block at p t store → at < length block → all allowed (line_from block at) ≡ false
    → (a : Told) → a ≡ record { refusal = ForbiddenByte; place = at } → read_lines (rules_of u) start (cut block) ≡ Refused (number_of a.refusal) a.place
unclean u block at p t store g more e a q =
    rw q (
    g.goes ∙ ap (read_lines (rules_of u) g.state) (cut_at block at more) ∙ read_stop (rules_of u) g.state 3 (line_from block at) (cut (drop (at + line_len (drop at block)) block)) (step_byte (rules_of u) g.state (line_from block at) e)
    ∙ ap (Refused 3) g.shows.place
    )

-- behind a line whose state before it was `old`
pub record Gone (u : Given) (block : Bytes) (at : ℕ) (p : Progress) (t : List ℕ) (old : State) : Type 0 where
  pub state : State
  pub shows : Shows u.last block at p t state
  pub noticed : begun state ≡ true
  pub grown : Grown old state
  pub goes : read_lines (rules_of u) start (cut block) ≡ read_lines (rules_of u) state (cut (drop at block))

module _ (u : Given) (block : Bytes) (at end : ℕ) (p : Progress) (t s : List ℕ) (store : List ℤ) (g : Going u block at p t store) (more : at < length block) (e : LineEnd block at end) (r : Result Progress Told)
    (sim : (st : State) → Shows u.last block at p t st → begun st ≡ true → ShowsTurn u.last block at r s (line_step (rules_of u) st (part_of block at end))) where
  high : end ≤ length block
  high = e.high (omega arith)

  cut_is : cut (drop at block) ≡ part_of block at end ∷ cut (drop end block)
  cut_is =
      cut_at block at more ∙ ap (λ (l : Bytes). l ∷ cut (drop (at + line_len (drop at block)) block)) (part_is block at end e) ∙ ap (λ (n : ℕ). part_of block at end ∷ cut (drop n block)) (sym e.is)

  on_line_lem : read_lines (rules_of u) start (cut block) ≡ read_lines (rules_of u) g.state (part_of block at end ∷ cut (drop end block))
  on_line_lem = g.goes ∙ ap (read_lines (rules_of u) g.state) cut_is

  pub went : (next : Progress) → r ≡ Ok next → Gone u block end next s g.state
  went next q = by (line_step (rules_of u) g.state (part_of block at end)) refl (rw q at (sim g.state g.shows g.noticed))
    where
      by : (turned : Turned) → line_step (rules_of u) g.state (part_of block at end) ≡ turned → ShowsTurn u.last block at (Ok next) s turned → Gone u block end next s g.state
      by (going st) f w = record {
        state = past (part_of block at end) st;
        shows = past_shown u.last block at end next s st e.low high w;
        noticed = step_begun (rules_of u) g.state (part_of block at end) st f g.noticed;
        grown = step_grown (rules_of u) g.state (part_of block at end) st f;
        goes = on_line_lem ∙ read_go (rules_of u) g.state st (part_of block at end) (cut (drop end block)) f;
      }
      by (stopping n) f w = absurd w

  pub stopped : (a : Told) → r ≡ Err a → read_lines (rules_of u) start (cut block) ≡ Refused (number_of a.refusal) a.place
  stopped a q = by (line_step (rules_of u) g.state (part_of block at end)) refl (rw q at (sim g.state g.shows g.noticed))
    where
      by : (turned : Turned) → line_step (rules_of u) g.state (part_of block at end) ≡ turned → ShowsTurn u.last block at (Err a) s turned → read_lines (rules_of u) start (cut block) ≡ Refused (number_of a.refusal) a.place
      by (going st) f w = absurd w
      by (stopping m) f w =
          on_line_lem ∙ read_stop (rules_of u) g.state m (part_of block at end) (cut (drop end block)) f ∙ ap (λ (k : ℕ). Refused k g.state.at) (sym w.0) ∙ ap (Refused (number_of a.refusal)) (g.shows.place ∙ sym w.1)

-- THE STORE OF ROWS behind a line: it has the rows where XYZ does not run; and where it runs, those before the latest one
module _ (u : Given) (block : Bytes) (at : ℕ) (p : Progress) (t : List ℕ) (store : List ℤ) (b : Bounded (length block) p) where
  pub going_on : (p.running ≡ 16 → ⊥) → (old : State) → Stored store old.geometry.rows → Gone u block at p t old → Going u block at p t store
  going_on n old w x =
      let q : x.state.geometry.rows ≡ old.geometry.rows = rows_stay old x.state x.grown (λ e. rows_code p.running b.code n (sym x.shows.running ∙ e)) in
      record { state = x.state; shows = x.shows; noticed = x.noticed; stored = rw q w; goes = x.goes }

  stored_before : (rs : List XyzRow) → Stored store rs → StoredBefore store rs
  stored_before [] w = λ room. stored_none store
  stored_before (r ∷ rs) w = λ room. stored_less store r rs room w

  grown_stored : (old new : State) → Grown old new → Stored store old.geometry.rows → StoredBefore store new.geometry.rows
  grown_stored old new (inl e) w = rw e (stored_before old.geometry.rows w)
  grown_stored old new (inr g) w = rw g.1.1 (λ room. w)

  module _ (sixteen : p.running ≡ 16) (s : List ℕ) (after : List ℤ) (r : ℕ) (placed : RowsPlaced block at p.top p.atoms t s store after r) where
    placed_going : (old : State) → Stored store old.geometry.rows → Gone u block at p t old → Going u block r p s after
    placed_going old w x =
        let y : Placed (rules_of u) u.last block at r p s after x.state =
        placed.goes (rules_of u) u.last p x.state b.counted refl refl sixteen x.shows (grown_stored old x.state x.grown w)
        in
        record { state = y.state; shows = y.shows; noticed = ap (all (λ (y : Label). ltb 0 y.low)) y.seen ∙ x.noticed; stored = y.stored; goes = x.goes ∙ y.goes }

    pub placed_on : (Zeroed : Type 0) (n : ℕ) → at ≤ length block → length store ≡ n → (Zeroed → (old : State) × Stored store old.geometry.rows × Gone u block at p t old)
        → (r ≤ length block) × (length after ≡ n) × Bounded (length block) p × Flowing r p × (Zeroed → Going u block r p s after)
    placed_on Zeroed n h l g = (placed.high h, placed.stores ∙ l, b, flowing_silent r p (Ok p) refl (ap silent sixteen), λ z. let x = g z in placed_going x.0 x.1 x.2)

-- A RUN OF QUICK ROWS, from where a line ended; what is known of a scratch of zeros stays known
module _ (u : Given) (block : Bytes) (at : ℕ) (p : Progress) (t s : List ℕ) (store : List ℤ) (r : Ran) (ran : RowsRan u.last block at p t s r) (b : Bounded (length block) p) where
  same_known : r.known ≡ recounted p r.known
  same_known = (ran.counted b.counted).1

  stays : (n : ℕ) → n < 6 → r.known.running ≡ n → (p.running ≡ n) × (r.place ≡ at)
  stays n h e = let q : p.running ≡ n = sym (ap (λ (x : Progress). x.running) same_known) ∙ e in (q, ran.still (λ f. omega arith) (λ f. omega arith))

  ran_flowing : Flowing at p → Flowing r.place r.known
  ran_flowing f = record {
    title = λ e. let q = stays 1 (omega arith) e in ap (λ (x : Progress). x.title.to) same_known ∙ f.title q.0 ∙ sym q.1;
    origin = λ e. let q = stays 3 (omega arith) e in ap (λ (x : Progress). x.origin.to) same_known ∙ f.origin q.0 ∙ sym q.1;
    owner = λ e. let q = stays 4 (omega arith) e in ap (λ (x : Progress). x.owner.to) same_known ∙ f.owner q.0 ∙ sym q.1;
  }

  ran_going : 1 ≤ u.last → Going u block at p t store → Going u block r.place r.known s store
  ran_going low g =
      let x : Reached (rules_of u) u.last block at r.place r.known s g.state = ran.goes (rules_of u) g.state refl low b.counted g.shows in
      record { state = x.state; shows = x.shows; noticed = ap (all (λ (y : Label). ltb 0 y.low)) x.seen ∙ g.noticed; stored = rw x.rows g.stored; goes = g.goes ∙ x.goes }

  pub ran_on : (Zeroed : Type 0) (n : ℕ) → 1 ≤ u.last → at ≤ length block → length store ≡ n → Flowing at p → (Zeroed → Going u block at p t store)
      → (r.place ≤ length block) × (length store ≡ n) × Bounded (length block) r.known × Flowing r.place r.known × (Zeroed → Going u block r.place r.known s store)
  ran_on Zeroed n low h w f g = (ran.high h, w, counted_bounded (length block) p (Ok r.known) (ran.counted b.counted) b, ran_flowing f, λ z. ran_going low (g z))

-- AT THE END
module _ (u : Given) (block : Bytes) (at : ℕ) (p : Progress) (t : List ℕ) (store : List ℤ) (g : Going u block at p t store) (done : length block ≤ at) (b : Bounded (length block) p) where
  ends : read_lines (rules_of u) start (cut block) ≡ ending (over g.state.running) (is_nil g.state.seen) g.state
  ends = g.goes ∙ ap (λ (s : Bytes). read_lines (rules_of u) g.state (cut s)) (drop_of_length-le block done) ∙ ap (read_lines (rules_of u) g.state) cut_nil ∙ read_end (rules_of u) g.state

  ends_as : (x y : Bool) → eqb p.running 13 ≡ x → eqb p.top 0 ≡ y → read_lines (rules_of u) start (cut block) ≡ ending x y g.state
  ends_as x y e f =
      ends ∙ ap (λ (z : Bool). ending z (is_nil g.state.seen) g.state) (ap over g.shows.running ∙ over_code p.running b.code ∙ e)
      ∙ ap (λ (z : Bool). ending x z g.state) (nil_top g.state.seen g.noticed ∙ ap (λ (n : ℕ). eqb n 0) (sym g.shows.top) ∙ f)

  pub ended : (r : Result Progress Told) → r ≡ judged_end p at → ShowsJudged u block t store r
  ended r e = rw e (by (eqb p.running 13) (eqb p.top 0) refl refl)
    where
      by : (x y : Bool) → eqb p.running 13 ≡ x → eqb p.top 0 ≡ y → ShowsJudged u block t store (end_by x y p at)
      by true y e f = record { state = g.state; is = ends_as true y e f; holding = g.shows.holding; bounded = b; stored = g.stored }
      by false true e f = ends_as false true e f
      by false false e f = ends_as false false e f ∙ ap (Refused 16) g.shows.place

-- WHAT A READING LENDS, and what it does not
module _ (u : Given) (block : Bytes) (t : List ℕ) (store : List ℤ) where
  pub judges_unlent : (ReadingLent u t → ⊥) → Judges u block t t store store (Err (record { refusal = Unlent; place = 0 }))
  judges_unlent n = record { long = refl; stores = refl; unlent = λ h. (refl, refl, refl); shows = λ g z. absurd (n (record { long = ap length z ∙ filled_length 0 2973 [] (omega arith); ruled = g })) }

  pub judges_lines : ReadingLent u t → (s : List ℕ) (after : List ℤ) (r : Result Progress Told) → (length s ≡ 2973) × (length after ≡ length store) × (t ≡ filled 0 2973 [] → ShowsJudged u block s after r)
      → Judges u block t s store after r
  judges_lines l s after r h = record { long = h.0 ∙ sym l.long; stores = h.1; unlent = λ n. absurd (n l); shows = λ g z. h.2 z }
