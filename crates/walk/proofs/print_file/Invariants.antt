-- The lines of a file: each piece ends behind its place, so the loop ends. Nothing else has to hold from turn to turn. Assumes nothing.
use Rattle.std.proofs.Common.{◌-◌, length}
use Rattle.walk.proofs.print_file.Given as goal

abbrev pub invariant-loop-place : goal.invariant-loop-place
invariant-loop-place g l = Unit {0}

abbrev pub decreases-loop-place : goal.decreases-loop-place
decreases-loop-place g l = length l.file - l.place
