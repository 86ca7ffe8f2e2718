-- `groups::pointers::stand_alone` meets its contract. Assumes nothing.
use Prim.Native.Nat.{ℕ, ◌≤◌, ◌<◌}
use mathlib.Core.Path.{◌≡◌}
use lib.ListN.{length, get_or}
use Rattle.groups.proofs.pointers.stand_alone.Given as goal

abbrev pub invariant-loop-i : goal.invariant-loop-i
invariant-loop-i l = (l.i ≤ length l.pointers) × (length l.pointers ≡ length l.initial.pointers) × ((j : ℕ) → j < l.i → get_or l.pointers j 0 ≡ j)
