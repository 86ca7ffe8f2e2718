-- What the reader's progress and scratch show of the state before a line, and what a line's answer shows of its turn. Assumes nothing.
use Rattle.std.specs.Prelude.{ℕ, ◌≡◌, List, Result, Ok, Err}
use Rattle.format.specs.Bytes.{Bytes}
use Rattle.format.specs.Labels.{known}
use Rattle.format.specs.Reading.{State}
use Rattle.format.specs.Reading.{Go as going, Stop as stopping, Turn as Turned}
use Rattle.format.specs.Refusals.{number_of}
use Rattle.format.specs.declared.refusal.Refused.{Refused}
use Rattle.labels.specs.ShownLines.{by_code}
use Rattle.sorted.specs.Regions.{top_of}
use Rattle.gather.specs.Progress.{Holding}
use Rattle.gather.specs.declared.progress.Progress.{Progress}

-- the state before the line at `at`
pub record Shows (k : ℕ) (block : Bytes) (at : ℕ) (p : Progress) (t : List ℕ) (st : State) : Type 0 where
  pub place : st.at ≡ at
  pub running : st.running ≡ (by_code p.running known).holds
  pub top : p.top ≡ top_of st.seen
  pub holding : Holding k block p t st

-- a refusal has the turn's number and the place of the line
abbrev pub ShowsTurn : (k : ℕ) → Bytes → (at : ℕ) → Result Progress Refused → List ℕ → Turned → Type 0
ShowsTurn k block at (Ok p) t (going st) = Shows k block at p t st
ShowsTurn k block at (Ok p) t (stopping n) = ⊥
ShowsTurn k block at (Err e) t (going st) = ⊥
ShowsTurn k block at (Err e) t (stopping n) = (number_of e.refusal ≡ n) × (e.place ≡ at)
