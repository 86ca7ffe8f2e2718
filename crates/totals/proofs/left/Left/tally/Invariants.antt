-- `totals::Left::tally` meets its contract. Assumes nothing.
use Prim.Native.Nat.{ℕ, ◌≤◌}
use mathlib.Core.Path.{◌≡◌}
use lib.ListN.{get_or}
use Rattle.totals.specs.Left.{left_in, Tallied}
use Rattle.totals.proofs.left.Left.tally.Given as goal

abbrev pub invariant-loop-i : goal.invariant-loop-i
invariant-loop-i l = ((n : ℕ) → l.i ≤ n → get_or l.self.masses n 0 ≡ 0) × Tallied l.kinds l.atoms l.i (left_in l.self)
