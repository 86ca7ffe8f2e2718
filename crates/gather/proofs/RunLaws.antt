-- Runs of quick rows: at its start a run has reached where it is, and one quick row that joins its list takes it one line on. Document 01, "Rows". Assumes nothing.
use Prim.Native.Nat.{ℕ, ◌+◌, ◌-◌, ◌*◌, ◌≤◌, ◌<◌}
use mathlib.Core.Path.{◌≡◌, refl, sym, ap, ◌∙◌, subst}
use mathlib.Core.Bool.{true, false, not}
use mathlib.Core.List.{List, [], ◌∷◌}
use mathlib.Core.Logic.{inl, inr}
use native.Mathlib.Omega.{arith}
use lib.ListN.{length, take, drop, length-drop}
use lib.Seq.{sets, length-take-le}
use borrow.Rule.Slice.PartMut.{put_mid, put_same}
use Rattle.lists.specs.Lists.{is_nil}
use Rattle.lists.proofs.Bools.{or_left}
use Rattle.format.specs.Bytes.{Bytes, cut, fields}
use Rattle.format.specs.Labels.{Bonds, XyzRows, Holds, Atoms, Rows, Xyz, Label, label, known}
use Rattle.format.specs.Structure.{isotope, mass_ok}
use Rattle.format.specs.Reading.{Rules, State, past, atom_line, row_line, line_step, read_lines}
use Rattle.format.specs.Reading.{Go as going, Stop as stopping, Turn as Turned}
use Rattle.format.proofs.ReadingLaws.{Keeps, read_go, atoms_keeps, rows_keeps, Grown, step_grown}
use Rattle.labels.specs.ShownLines.{by_code}
use Rattle.symbols.specs.ShownSymbols.{sym_of_mark}
use Rattle.rows.specs.Answers.{bond_row_of}
use Rattle.std.specs.Prelude.{Option, Some, IfSome, Result, Ok, Err}
use native.Mathlib.Nat.{add-zero}
use Rattle.elements.specs.Shown.{isotope_shown}
use Rattle.quick.specs.declared.atom.QuickAtom.{QuickAtom}
use Rattle.quick.specs.declared.bond.QuickBond.{QuickBond}
use Rattle.elements.specs.declared.Isotope.{Isotope as Answered}
use Rattle.quick.specs.Quick.{line_at, OneLine, BondIs, AtomIs}
use Rattle.quick.proofs.StepLaws.{row_step_lem, atom_step_lem}
use Rattle.sorted.specs.Regions.{top_of}
use Rattle.gather.specs.Progress.{laid, with_count, Counted}
use Rattle.gather.specs.Shows.{Shows, ShowsTurn}
use Rattle.sorted.specs.Shown.{KeptWithin, StopLeaves}
use Rattle.sorted.specs.Keyed.{RowShows, LineShows}
use Rattle.gather.specs.Runs.{Reached, AtomsRan, BondsRan, RowsRan}
use Rattle.gather.specs.declared.progress.Progress.{Progress}
use Rattle.format.specs.declared.refusal.Refusal.{Refusal}
use Rattle.sorted.specs.declared.kinds.KeyedRow.{KeyedRow}
use Rattle.sorted.specs.Steps.{row_step, atom_step}
use Rattle.sorted.specs.Regions.{kinds_region, keyed_region}
use Rattle.gather.specs.declared.runs.Run.{Run}
use Rattle.atoms.proofs.AtomLineLaws.{shows_joined, shows_values}
use Rattle.sorted.proofs.HandedLaws.{kept_shows}
use Rattle.sorted.proofs.KeyedLaws.{shows_row}
use Rattle.gather.proofs.TurnLaws.{AtomsShown, atoms_turn, rows_turn}

-- what is told of an answer, by which it is
pub some_is : {X : Type 0} (P : X → Type 0) (o : Option X) (x : X) → o ≡ Some x → IfSome o P → P x
some_is P o x e h = subst (λ q. IfSome q P) e h

pub kept_is : (limit c : ℕ) (r : Result ℕ Refusal) → r ≡ Ok c → KeptWithin limit r → c ≤ limit
kept_is limit c r e h = subst (KeptWithin limit) e h

pub left_is : (before after : List ℕ) (e : Refusal) (r : Result ℕ Refusal) → r ≡ Err e → StopLeaves before after r → after ≡ before
left_is before after e r q h = subst (StopLeaves before after) q h

-- A LINE ON: behind a line the state has its place behind it
line_length : (block : Bytes) (at next : ℕ) → at ≤ next → next ≤ length block → length (line_at block at next) ≡ next - at
line_length block at next h l = length-take-le (next - at) (drop at block) (simp length-drop (omega arith))

pub past_shown : (k : ℕ) (block : Bytes) (at next : ℕ) (p : Progress) (t : List ℕ) (st : State) → at ≤ next → next ≤ length block → Shows k block at p t st → Shows k block next p t (past (line_at block at next) st)
unfolding laid
past_shown k block at next p t st h l s = record {
  place = omega (arith, s.place, line_length block at next h l);
  running = s.running;
  top = s.top;
  holding = record {
    scratch = s.holding.scratch;
    texts = s.holding.texts;
    formula = s.holding.formula;
    formula_fine_lem = s.holding.formula_fine_lem;
    kinds = s.holding.kinds;
    listed = s.holding.listed;
    geometry = s.holding.geometry;
  };
}

atoms_apart : Atoms ≡ Xyz XyzRows → ⊥
atoms_apart e = let z : ◌≡◌ {A = ℕ} 0 1 = cc in omega arith

bonds_apart : Rows Bonds ≡ Xyz XyzRows → ⊥
bonds_apart e = let z : ◌≡◌ {A = ℕ} 0 1 = cc in omega arith

-- where XYZ does not run, its rows stay
pub rows_stay : (st next : State) → Grown st next → (next.running ≡ Xyz XyzRows → ⊥) → next.geometry.rows ≡ st.geometry.rows
rows_stay st next (inl e) other = e
rows_stay st next (inr g) other = absurd (other g.0)

module _ (u : Rules) (k : ℕ) (block : Bytes) (at place next : ℕ) (p q : Progress) (t s : List ℕ) (st : State) (r : Reached u k block at place p t st) (l : OneLine block place next)
    (other : r.state.running ≡ Xyz XyzRows → ⊥) where
  one_more_lem : (turned : Turned) → line_step u r.state (line_at block place next) ≡ turned → Keeps r.state turned → ShowsTurn k block place (Ok q) s turned → Reached u k block at next q s st
  one_more_lem (going new) e f w = record {
    state = past (line_at block place next) new;
    shows = past_shown k block place next q s new (omega (arith, l.low)) l.high w;
    seen = (f.gone new refl).seen ∙ r.seen;
    rows = rows_stay r.state new (step_grown u r.state (line_at block place next) new e) (λ q. other (sym (f.gone new refl).running ∙ q)) ∙ r.rows;
    goes = r.goes ∙ ap (read_lines u r.state) l.first ∙ read_go u r.state new (line_at block place next) (cut (drop next block)) e;
  }
  one_more_lem (stopping n) e f w = absurd w

-- ATOMS
module _ (k : ℕ) (block : Bytes) (at atoms place count : ℕ) (t₀ t : List ℕ) (ran : AtomsRan k block at atoms t₀ t (record { place = place; count = count }))
    (quick : QuickAtom) (row : AtomIs block place quick) (follows : quick.row.number ≡ count + 1)
    (i : Answered) (j : isotope_shown i ≡ isotope k (sym_of_mark quick.row.mark)) (found : i.element ≡ 0 → ⊥) (room : count < 256)
    (region : List ℕ) (put : region ≡ sets (take 768 (drop 0 t)) (3 * count) (i.element ∷ i.mass ∷ quick.row.hydrogens ∷ [])) where
  abbrev next : ℕ
  next = quick.next

  light : mass_ok (sym_of_mark quick.row.mark) ≡ true
  unfolding mass_ok
  light = or_left (not quick.row.mark.caret) _ (ap not row.plain)

  joins : (p : Progress) → p.atoms ≡ count → AtomsShown place p t region (fields (line_at block place next)) (Ok (count + 1)) k
  joins p e listed len is =
      kept_shows place kinds_region region (atom_step k listed (fields (line_at block place next))) (count + 1)
      (shows_values k count (line_at block place next) (take 768 (drop 0 t)) row.line.inked (Ok quick.row) row.shape region (Ok (count + 1)) quick.row refl
      (shows_joined k count quick.row.number quick.row.mark quick.row.hydrogens (take 768 (drop 0 t)) region light (omega (arith, row.few)) follows i j found room put) listed (len ∙ e) is)

  module _ (u : Rules) (p : Progress) (st : State) (e : u.elements ≡ k) (b : 1 ≤ k) (c : Counted p) (running : st.running ≡ Atoms) (seen : is_nil st.seen ≡ false) (h : Shows k block at p t₀ st)
      (r : Reached u k block at place (with_count 6 count p) t st) where
    counted : Counted (with_count 6 count p)
    counted = record { atoms = omega arith; bonds = c.bonds; charges = c.charges; radicals = c.radicals; centres = c.centres; pairs = c.pairs }

    atoms_run : r.state.running ≡ Atoms
    atoms_run = r.shows.running ∙ sym h.running ∙ running

    atom_line_is : line_step u r.state (line_at block place next) ≡ atom_line k r.state (fields (line_at block place next))
    atom_line_is =
        atom_step_lem u r.state block place next row.line (ap is_nil r.seen ∙ seen) atoms_run
        ∙ ap (λ (n : ℕ). atom_line n r.state (fields (line_at block place next))) e

    atom_on_lem : Reached u k block at next (with_count 6 (count + 1) p) (put_mid 0 768 t region) st
    atom_on_lem =
        one_more_lem u k block at place next (with_count 6 count p) (with_count 6 (count + 1) p) t (put_mid 0 768 t region) st r row.line (λ q. atoms_apart (sym atoms_run ∙ q))
        (atom_line k r.state (fields (line_at block place next))) atom_line_is (atoms_keeps r.state k (fields (line_at block place next)))
        (atoms_turn place (with_count 6 count p) t region (fields (line_at block place next)) (Ok (count + 1)) k (joins (with_count 6 count p) refl) b block r.state r.shows counted)

  pub atoms_more : AtomsRan k block at atoms t₀ (put_mid 0 768 t region) (record { place = next; count = count + 1 })
  atoms_more = record {
    low = omega (arith, ran.low, row.line.low);
    high = λ h. row.line.high;
    most = λ h. omega arith;
    goes = λ u p st e b c a g n h. atom_on_lem u p st e b c g n h (ran.goes u p st e b c a g n h);
  }

-- BONDS
module _ (block : Bytes) (at atoms bonds place count : ℕ) (t₀ t : List ℕ) (ran : BondsRan block at atoms bonds t₀ t (record { place = place; count = count }))
    (quick : QuickBond) (row : BondIs block place quick) (region : List ℕ) (answer : Result ℕ Refusal)
    (shown : RowShows Bonds (quick.row.first ∷ quick.row.second ∷ []) (256 * quick.row.kind) atoms count (take 1024 (drop 1410 t)) region answer) (more : ℕ) (joined : answer ≡ Ok more) where
  abbrev behind : ℕ
  behind = quick.next

  abbrev kept_row : KeyedRow
  kept_row = record { first = quick.row.first; second = Some quick.row.second; payload = 256 * quick.row.kind }

  gathers : LineShows Bonds atoms count (line_at block place behind) place (take 1024 (drop 1410 t)) region (Ok more)
  gathers rs len fi lent =
      kept_shows place (keyed_region Bonds) region (row_step Bonds atoms rs (fields (line_at block place behind))) more
      (shows_row Bonds atoms count (line_at block place behind) (take 1024 (drop 1410 t)) row.line.inked (Ok kept_row) (bond_row_of quick.row, row.shape, refl, add-zero (256 * quick.row.kind)) region (Ok more)
      kept_row refl (subst (λ (y : Result ℕ Refusal). RowShows Bonds (quick.row.first ∷ quick.row.second ∷ []) (256 * quick.row.kind) atoms count (take 1024 (drop 1410 t)) region y) joined shown) rs len fi lent)

  module _ (u : Rules) (k : ℕ) (p : Progress) (st : State) (c : Counted p) (a : p.atoms ≡ atoms) (running : st.running ≡ Rows Bonds) (seen : is_nil st.seen ≡ false) (h : Shows k block at p t₀ st)
      (few : count ≤ 512) (r : Reached u k block at place (with_count 7 count p) t st) where
    counts : Counted (with_count 7 count p)
    counts = record { atoms = c.atoms; bonds = few; charges = c.charges; radicals = c.radicals; centres = c.centres; pairs = c.pairs }

    bonds_run : r.state.running ≡ Rows Bonds
    bonds_run = r.shows.running ∙ sym h.running ∙ running

    bond_line_is : line_step u r.state (line_at block place behind) ≡ row_line Bonds r.state (fields (line_at block place behind))
    bond_line_is = row_step_lem u r.state block place behind row.line (ap is_nil r.seen ∙ seen) Bonds bonds_run

    bond_on : Reached u k block at behind (with_count 7 more p) (put_mid 1410 1024 t region) st
    bond_on =
        one_more_lem u k block at place behind (with_count 7 count p) (with_count 7 more p) t (put_mid 1410 1024 t region) st r row.line (λ q. bonds_apart (sym bonds_run ∙ q))
        (row_line Bonds r.state (fields (line_at block place behind))) bond_line_is (rows_keeps r.state Bonds (fields (line_at block place behind)))
        (rows_turn Bonds place (with_count 7 count p) t region (fields (line_at block place behind)) (Ok more)
        (subst (λ (n : ℕ). LineShows Bonds n count (line_at block place behind) place (take 1024 (drop 1410 t)) region (Ok more)) (sym a) gathers) k block r.state r.shows counts)

  pub bonds_more : count ≤ 512 → more ≤ 512 → BondsRan block at atoms bonds t₀ (put_mid 1410 1024 t region) (record { place = behind; count = more })
  bonds_more few room = record {
    low = omega (arith, ran.low, row.line.low);
    high = λ h. row.line.high;
    most = λ h. room;
    goes = λ u k p st c a b g n h. bond_on u k p st c a g n h few (ran.goes u k p st c a b g n h);
  }

-- the bonds' part of the scratch, and the scratch with it put back as long as it was
pub bonds_long : (t : List ℕ) → length t ≡ 2973 → length (take 1024 (drop 1410 t)) ≡ 1024
bonds_long t h = length-take-le 1024 (drop 1410 t) (simp length-drop (omega arith))

-- a row that does not join leaves all as it is
pub bonds_stay : (block : Bytes) (at atoms bonds : ℕ) (t₀ t region : List ℕ) (r : Run) → region ≡ take 1024 (drop 1410 t) → BondsRan block at atoms bonds t₀ t r
    → BondsRan block at atoms bonds t₀ (put_mid 1410 1024 t region) r
bonds_stay block at atoms bonds t₀ t region r e ran = subst (λ (s : List ℕ). BondsRan block at atoms bonds t₀ s r) (sym (ap (put_mid 1410 1024 t) e ∙ put_same 1410 1024 t)) ran

-- THE LIST THAT RUNS
pub seen_some : (seen : List Label) (top : ℕ) → top ≡ top_of seen → (top ≡ 0 → ⊥) → is_nil seen ≡ false
unfolding top_of
seen_some [] top e z = absurd (z e)
seen_some (x ∷ xs) top e z = refl

module _ (k : ℕ) (block : Bytes) (at : ℕ) (p : Progress) (t : List ℕ) where
  pub run_none : RowsRan k block at p t t (record { place = at; known = p })
  run_none = record {
    low = omega arith;
    high = λ h. h;
    counted = λ c. (c, refl);
    still = λ a b. refl;
    goes = λ u st e b c h. record { state = st; shows = h; seen = refl; rows = refl; goes = refl };
  }

  module _ (s : List ℕ) (begun : p.top ≡ 0 → ⊥) (r : Run) where
    held : (code : ℕ) (h : Holds) → p.running ≡ code → (by_code code known).holds ≡ h → (st : State) → Shows k block at p t st → st.running ≡ h
    held code h e f st shows = shows.running ∙ ap (λ (n : ℕ). (by_code n known).holds) e ∙ f

    pub run_atoms : p.running ≡ 6 → AtomsRan k block at p.atoms t s r → RowsRan k block at p t s (record { place = r.place; known = with_count 6 r.count p })
    unfolding by_code known label
    run_atoms six ran = record {
      low = ran.low;
      high = ran.high;
      counted = λ c. (record { atoms = ran.most c.atoms; bonds = c.bonds; charges = c.charges; radicals = c.radicals; centres = c.centres; pairs = c.pairs }, refl);
      still = λ a b. absurd (a six);
      goes = λ u st e b c h. ran.goes u p st e b c refl (held 6 Atoms six refl st h) (seen_some st.seen p.top h.top begun) h;
    }

    pub run_bonds : p.running ≡ 7 → BondsRan block at p.atoms p.bonds t s r → RowsRan k block at p t s (record { place = r.place; known = with_count 7 r.count p })
    unfolding by_code known label
    run_bonds seven ran = record {
      low = ran.low;
      high = ran.high;
      counted = λ c. (record { atoms = c.atoms; bonds = ran.most c.bonds; charges = c.charges; radicals = c.radicals; centres = c.centres; pairs = c.pairs }, refl);
      still = λ a b. absurd (b seven);
      goes = λ u st e b c h. ran.goes u k p st c refl refl (held 7 (Rows Bonds) seven refl st h) (seen_some st.seen p.top h.top begun) h;
    }

-- where nothing runs, all is as it was
pub run_still : (k : ℕ) (block : Bytes) (at : ℕ) (p : Progress) (t : List ℕ) → RowsRan k block at p t t (record { place = at; known = p })
run_still k block at p t = record {
  low = omega arith;
  high = λ h. h;
  counted = λ c. (c, refl);
  still = λ a b. refl;
  goes = λ u st e b c h. record { state = st; shows = h; seen = refl; rows = refl; goes = refl };
}
