-- How the machine in code is shown as the definitions' machine, which of its states have numbers no longer than their digits, and what a step promises:
-- document 01, "Rows", MOLFORM. Assumes nothing.
use Rattle.std.specs.Prelude.{ℕ, ◌^◌, ◌≤◌, ◌<◌, ◌≡◌, List, [], ◌∷◌}
use Rattle.std.specs.declared.option.Option.{Option}
use Rattle.std.specs.declared.option.Option.TheVariants.{None, Some}
use Rattle.format.specs.Formula.{Counted, counted, FState, dead, between, at_caret, in_mass, at_one, at_two, at_slash, in_count, Move, fstep}
use Rattle.symbols.specs.ShownSymbols.{sym_of_mark}
use Rattle.formula.specs.declared.entry.Entry.{Entry}
use Rattle.formula.specs.declared.State.{State}
use Rattle.formula.specs.declared.State.TheVariants.{Dead, Between, AtCaret, InMass, AtOne, AtTwo, AtSlash, InCount}
use Rattle.formula.specs.declared.Move.{Move as Step}

abbrev pub state_shown : State → FState
state_shown Dead = dead
state_shown (Between begun) = between begun
state_shown AtCaret = at_caret
state_shown (InMass n v) = in_mass n v
state_shown (AtOne c m a) = at_one c m a
state_shown (AtTwo x) = at_two (sym_of_mark x)
state_shown (AtSlash x) = at_slash (sym_of_mark x)
state_shown (InCount x n v) = in_count (sym_of_mark x) n v

abbrev pub entry_shown : Entry → Counted
entry_shown e = counted (sym_of_mark e.mark) e.count

-- the entry that a step or the end tells, if it tells one
abbrev pub told_shown : Option Entry → List Counted
told_shown None = []
told_shown (Some e) = entry_shown e ∷ []

abbrev pub move_shown : Step → Move
move_shown m = record { told = told_shown m.told; state = state_shown m.state }

-- the digits that a state has read are as many as may be, and its number has no more
abbrev pub Sized : State → Type 0
Sized Dead = Unit {0}
Sized (Between begun) = Unit {0}
Sized AtCaret = Unit {0}
Sized (InMass n v) = (n ≤ 3) × (v < 10 ^ n)
Sized (AtOne c m a) = Unit {0}
Sized (AtTwo x) = Unit {0}
Sized (AtSlash x) = Unit {0}
Sized (InCount x n v) = (n ≤ 6) × (v < 10 ^ n)

-- an answer that shows a move of the definitions' machine
pub record Moved (m : Move) (r : Step) : Type 0 where
  pub is : move_shown r ≡ m
  pub sized : Sized r.state

abbrev pub Stepped : FState → ℕ → Step → Type 0
Stepped q b r = Moved (fstep q b) r
