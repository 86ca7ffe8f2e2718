-- A line of a list, by what the running record holds: document 01, "Rows". Assumes nothing.
use Rattle.std.specs.Prelude.{ℕ, ◌≤◌, ◌≡◌, List, length, Result, Ok, Err}
use Rattle.format.specs.Bytes.{Bytes}
use Rattle.format.specs.Labels.{Holds, Text, Version, Formula, BlockId, Atoms, Rows, Xyz, Handedness, End, Skipped, known}
use Rattle.format.specs.Reading.{State, atom_line, row_line}
use Rattle.format.specs.Reading.{Go as going, Turn as Turned}
use Rattle.format.specs.declared.refusal.Refusal.TheVariants.{Unlent}
use Rattle.format.specs.declared.refusal.Refused.{Refused}
use Rattle.labels.specs.ShownLines.{by_code}
use Rattle.gather.specs.Progress.{count_for, with_count, Counted, CountedTurn}
use Rattle.gather.specs.Shows.{Shows, ShowsTurn}
use Rattle.gather.specs.declared.progress.Progress.{Progress}

abbrev pub held_line : Holds → (k : ℕ) → State → List Bytes → Turned
held_line (Text i) k st fs = going st
held_line Version k st fs = going st
held_line Formula k st fs = going st
held_line BlockId k st fs = going st
held_line Atoms k st fs = atom_line k st fs
held_line (Rows l) k st fs = row_line l st fs
held_line (Xyz x) k st fs = going st
held_line Handedness k st fs = going st
held_line End k st fs = going st
held_line Skipped k st fs = going st

abbrev pub list_line : (code k : ℕ) → State → List Bytes → Turned
list_line code k st fs = held_line (by_code code known).holds k st fs

-- the turn that an answer of the list's own line is
abbrev pub turn_of : (code : ℕ) → Progress → Result ℕ Refused → Result Progress Refused
turn_of code p (Ok c) = Ok (with_count code c p)
turn_of code p (Err e) = Err e

-- what a line of the list whose label has the code promises, k elements known
abbrev pub Gathers : (code k place : ℕ) → List Bytes → Progress → (before after : List ℕ) → Result Progress Refused → Type 0
Gathers code k place fs p before after r =
    Counted p → 1 ≤ k → 6 ≤ code → code ≤ 11
    → CountedTurn p r × ((block : Bytes) (st : State) → Shows k block place p before st → ShowsTurn k block place r after (list_line code k st fs))

-- WHAT A LINE OF THE LIST IS LENT: a scratch of its length, no more atoms than there may be, and no more rows of its own list. A code of none of the first five
-- lists counts as STEREOPAIR's.
abbrev pub of_list : (code atoms bonds charges radicals centres pairs : ℕ) → ℕ
of_list code atoms bonds charges radicals centres pairs = count_for code 6 atoms (count_for code 7 bonds (count_for code 8 charges (count_for code 9 radicals (count_for code 10 centres pairs))))

abbrev pub own_rows : (code : ℕ) → Progress → ℕ
own_rows code p = of_list code p.atoms p.bonds p.charges p.radicals p.centres p.pairs

abbrev pub own_most : (code : ℕ) → ℕ
own_most code = of_list code 256 512 64 64 128 128

pub record ListLent (code : ℕ) (p : Progress) (t : List ℕ) : Type 0 where
  pub long : length t ≡ 2973
  pub atoms : p.atoms ≤ 256
  pub rows : own_rows code p ≤ own_most code

-- what no reading lends is answered Unlent with the line's place, and the scratch is as it was
abbrev pub TurnUntouched : (place : ℕ) → (before after : List ℕ) → Result Progress Refused → Type 0
TurnUntouched place before after r = (r ≡ Err (record { refusal = Unlent; place = place })) × (after ≡ before)
