-- `numbering::order_of` meets its contract. Assumes nothing.
use Prim.Native.Nat.{◌+◌, ◌≤◌}
use mathlib.Core.Path.{◌≡◌}
use lib.ListN.{drop}
use Rattle.numbering.specs.Numbering.{numbered}
use Rattle.numbering.proofs.order_of.Given as goal

abbrev pub invariant-loop-member : goal.invariant-loop-member
invariant-loop-member l = (l.next ≤ l.member-index + 1) × (numbered 1 l.members l.initial.order ≡ numbered l.next (drop l.member-index l.members) l.order)
