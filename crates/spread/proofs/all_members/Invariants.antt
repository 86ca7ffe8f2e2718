-- `spread::all_members` meets its contract. Assumes nothing.
use Rattle.std.proofs.Common.{◌≡◌, Bool, ℕ, ◌≤◌, ◌-◌, length, drop}
use Rattle.lists.specs.Lists.{all}
use Rattle.format.specs.Bytes.{fields}
use Rattle.spread.specs.Members.{passes}
use Rattle.spread.proofs.all_members.Given as goal

abbrev pub invariant-loop-test : goal.invariant-loop-test
invariant-loop-test g l =
    (l.at ≤ length l.line)
    × ((p : ℕ → Bool) → ((n : ℕ) (b : Bool) → g.F.Fn.post l.fn.test (n, tt) b → b ≡ p n) → all (passes p) (fields (drop l.fn.at l.line)) ≡ all (passes p) (fields (drop l.at l.line)))

abbrev pub decreases-loop-test : goal.decreases-loop-test
decreases-loop-test g l = length l.line - l.at
