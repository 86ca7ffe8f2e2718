-- `spread::claim_members` meets its contract. Assumes nothing.
use Prim.Native.Nat.{◌-◌, ◌≤◌}
use mathlib.Core.Bool.{true}
use mathlib.Core.Path.{◌≡◌}
use lib.ListN.{length, drop}
use Rattle.lists.specs.Lists.{all}
use Rattle.format.specs.Bytes.{within, fields}
use Rattle.spread.specs.Members.{members_in, claims}
use Rattle.spread.proofs.claim_members.Given as goal

abbrev pub invariant-loop-member : goal.invariant-loop-member
invariant-loop-member l =
    (l.at ≤ length l.line) × (length l.region ≡ 321) × (all (within 1 256) (members_in (fields (drop l.at l.line))) ≡ true)
    × (claims l.number (members_in (fields (drop l.fn.at l.line))) l.initial.region ≡ claims l.number (members_in (fields (drop l.at l.line))) l.region)

abbrev pub decreases-loop-member : goal.decreases-loop-member
decreases-loop-member l = length l.line - l.at
