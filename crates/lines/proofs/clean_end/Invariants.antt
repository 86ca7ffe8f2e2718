-- `lines::clean_end` meets its contract: where the line ends and whether its bytes are allowed stay the same from byte to byte. Assumes nothing.
use Rattle.lines.specs.Looks.{Looking}
use Rattle.lines.proofs.clean_end.Given as goal

abbrev pub invariant-loop-i : goal.invariant-loop-i
invariant-loop-i l = Looking l.block l.at l.i
