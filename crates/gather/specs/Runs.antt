-- What a run of quick rows promises: the reading goes on from the place where it stopped, in a state that progress and scratch show there. Document 01, "Rows".
-- Assumes nothing.
use Rattle.std.specs.Prelude.{ℕ, ◌≤◌, ◌≡◌, false, List, length, drop, Ok}
use Rattle.lists.specs.Lists.{is_nil}
use Rattle.format.specs.Bytes.{Bytes, cut}
use Rattle.format.specs.Labels.{Bonds, Atoms, Rows}
use Rattle.format.specs.Reading.{Rules, State, read_lines}
use Rattle.gather.specs.Progress.{with_count, Counted, CountedTurn}
use Rattle.gather.specs.Shows.{Shows}
use Rattle.gather.specs.declared.progress.Progress.{Progress}
use Rattle.gather.specs.declared.runs.Run.{Run}
use Rattle.gather.specs.declared.Ran.{Ran}

-- the reading of the lines from `at` on, in the state st, is that of the lines from `place` on in another state, which p and t show; it has seen the same labels
-- and has the same rows of XYZ
pub record Reached (u : Rules) (k : ℕ) (block : Bytes) (at place : ℕ) (p : Progress) (t : List ℕ) (st : State) : Type 0 where
  pub state : State
  pub shows : Shows k block place p t state
  pub seen : state.seen ≡ st.seen
  pub rows : state.geometry.rows ≡ st.geometry.rows
  pub goes : read_lines u st (cut (drop at block)) ≡ read_lines u state (cut (drop place block))

-- a list's rows from `at` to the run's place were gathered
pub record AtomsRan (k : ℕ) (block : Bytes) (at atoms : ℕ) (before after : List ℕ) (r : Run) : Type 0 where
  pub low : at ≤ r.place
  pub high : at ≤ length block → r.place ≤ length block
  pub most : atoms ≤ 256 → r.count ≤ 256
  pub goes : (u : Rules) (p : Progress) (st : State) → u.elements ≡ k → 1 ≤ k → Counted p → p.atoms ≡ atoms → st.running ≡ Atoms → is_nil st.seen ≡ false
      → Shows k block at p before st → Reached u k block at r.place (with_count 6 r.count p) after st

pub record BondsRan (block : Bytes) (at atoms bonds : ℕ) (before after : List ℕ) (r : Run) : Type 0 where
  pub low : at ≤ r.place
  pub high : at ≤ length block → r.place ≤ length block
  pub most : bonds ≤ 512 → r.count ≤ 512
  pub goes : (u : Rules) (k : ℕ) (p : Progress) (st : State) → Counted p → p.atoms ≡ atoms → p.bonds ≡ bonds → st.running ≡ Rows Bonds → is_nil st.seen ≡ false
      → Shows k block at p before st → Reached u k block at r.place (with_count 7 r.count p) after st

-- WHAT IS KNOWN BEHIND A RUN: the counts alone change, and nothing where neither ATOMLIST (6) nor BONDLIST (7) runs
pub record RowsRan (k : ℕ) (block : Bytes) (at : ℕ) (p : Progress) (before after : List ℕ) (r : Ran) : Type 0 where
  pub low : at ≤ r.place
  pub high : at ≤ length block → r.place ≤ length block
  pub counted : Counted p → CountedTurn p (Ok r.known)
  pub still : (p.running ≡ 6 → ⊥) → (p.running ≡ 7 → ⊥) → r.place ≡ at
  pub goes : (u : Rules) (st : State) → u.elements ≡ k → 1 ≤ k → Counted p → Shows k block at p before st → Reached u k block at r.place r.known after st
