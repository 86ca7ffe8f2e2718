-- `printing::Sheet::each` meets its contract. Assumes nothing.
use Rattle.printing.proofs.PrintLaws.{printed_none, printed_on}
use Rattle.printing.proofs.Sheet.each.Goals as goal

pub loop-byte-init : goal.loop-byte-init
loop-byte-init c = printed_none

pub loop-byte-preserved : goal.loop-byte-preserved
loop-byte-preserved c = printed_on _ _ c.loop-byte-test.true c.loop-byte.invariant c.byte.ensures
