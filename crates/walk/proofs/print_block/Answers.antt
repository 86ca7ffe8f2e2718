-- The line of a block: the place of a refusal lies in its block, so the sum fits. Assumes nothing.
use Rattle.std.proofs.Common.{arith}
use Rattle.reader.proofs.PlacedLaws.{place_fits}
use Rattle.walk.proofs.print_block.Goals as goal

pub overflow_add-start : goal.overflow_add-start
overflow_add-start g c = omega (arith, c.requires.0, c.requires.1, c.requires.2, place_fits _ _ _ _ _ _ c.read.ensures.result c.in-Err.is)
