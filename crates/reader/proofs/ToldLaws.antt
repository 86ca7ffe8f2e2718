-- A refusal's number is not 0, which says "accepted": every test of a line has a number, and so have an empty block and one without END. Document 01, "Refusal
-- numbers". Assumes nothing.
use Prim.Native.Nat.{ℕ, ◌+◌, ◌-◌, ◌<◌}
use mathlib.Core.Path.{◌≡◌}
use mathlib.Core.Bool.{Bool, true, false, ◌&&◌, not}
use mathlib.Core.List.{List}
use mathlib.Core.Logic.{◌⊎◌, inl, inr}
use native.Mathlib.Omega.{arith}
use lib.ListN.{length}
use Rattle.lists.specs.Lists.{is_nil, all}
use Rattle.format.specs.Bytes.{Bytes, allowed}
use Rattle.format.specs.Labels.{Line, Plain, Unparted, Labelled, line_of, title_line, misplaced}
use Rattle.format.specs.Reading.{Rules, State, Turn, Stop, if◌stop◌else◌, over, opened, line_turn, line_step, Refused, ending, read_lines}
use Rattle.format.proofs.ReadingLaws.{stop_keeps, value_keeps, further_keeps, StoppedAt, Unended, stopped}

abbrev Telling : Turn → Type 0
Telling t = (n : ℕ) → t ≡ Stop n → 0 < n

if_telling : (b : Bool) (m : ℕ) (t : Turn) → 0 < m → Telling t → Telling (if b stop m else t)
if_telling true m t h k = λ n e. let q : m ≡ n = cc in omega arith
if_telling false m t h k = k

module _ (u : Rules) (st : State) (l : Bytes) where
  line_telling : (k : Line) → Telling (line_turn u st l k)
  unfolding line_turn
  line_telling Plain = (further_keeps st u st.running l).refuses
  line_telling Unparted = (stop_keeps st 5 (omega arith)).refuses
  line_telling (Labelled x v) =
      if_telling (misplaced st.seen x) 6 _ (omega arith) (if_telling (over st.running) 17 _ (omega arith) (value_keeps (opened st x) u x.holds (st.at + (length l - length v)) v).refuses)

  step_telling : Telling (line_step u st l)
  unfolding line_step
  step_telling = if_telling (not (all allowed l)) 3 _ (omega arith) (if_telling (is_nil st.seen && not (title_line l)) 4 _ (omega arith) (line_telling (line_of l)))

ending_told : (e : Bool) (st : State) (n place : ℕ) → ending false e st ≡ Refused n place → 0 < n
ending_told true st n place q = let z : 4 ≡ n = cc in omega arith
ending_told false st n place q = let z : 16 ≡ n = cc in omega arith

pub refused_told : (u : Rules) (st : State) (ls : List Bytes) (n place : ℕ) → read_lines u st ls ≡ Refused n place → 0 < n
refused_told u st ls n place h = go (stopped u ls st n place h)
  where
    go : StoppedAt u st ls n place ⊎ Unended u st ls n place → 0 < n
    go (inl x) = step_telling u x.met x.line n x.stops
    go (inr x) = ending_told (is_nil x.met.seen) x.met n place x.ends
