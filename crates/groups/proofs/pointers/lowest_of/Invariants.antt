-- `groups::pointers::lowest_of` meets its contract. Assumes nothing.
use Rattle.groups.proofs.PointerLaws.{Following}
use Rattle.groups.proofs.pointers.lowest_of.Given as goal

abbrev pub invariant-loop-up : goal.invariant-loop-up
invariant-loop-up l = Following l.initial.pointers l.atom l.pointers l.at l.up

abbrev pub decreases-loop-up : goal.decreases-loop-up
decreases-loop-up l = l.at
