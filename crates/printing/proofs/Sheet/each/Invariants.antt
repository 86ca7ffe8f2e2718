-- `printing::Sheet::each` meets its contract. Assumes nothing.
use lib.ListN.{take}
use Rattle.printing.specs.Printing.{Printed}
use Rattle.printing.proofs.Sheet.each.Given as goal

abbrev pub invariant-loop-byte : goal.invariant-loop-byte
invariant-loop-byte l = Printed l.initial.self (take l.byte-index l.text) l.self
