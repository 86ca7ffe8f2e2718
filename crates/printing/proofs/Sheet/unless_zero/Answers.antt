-- `printing::Sheet::unless_zero` meets its contract. Assumes nothing.
use Rattle.printing.proofs.PrintLaws.{printed_none, printed_as}
use Rattle.printing.proofs.NumberLaws.{zero_left_out, unless_zero_lem}
use Rattle.printing.proofs.Sheet.unless_zero.Goals as goal

pub returns-then-number-ne0 : goal.returns-then-number-ne0
returns-then-number-ne0 c = printed_as (unless_zero_lem _ _ c.if-number-ne0.true) c.behind.ensures

pub returns-else-number-ne0 : goal.returns-else-number-ne0
returns-else-number-ne0 c = printed_as (zero_left_out _ _ c.if-number-ne0.false) printed_none
