-- `printing::Sheet::digits` meets its contract. Assumes nothing.
use native.Mathlib.Omega.{arith}
use Rattle.printing.proofs.PrintLaws.{printed_none, printed_then, printed_as}
use Rattle.printing.proofs.NumberLaws.{digits_none, digits_one, digits_more}
use Rattle.printing.proofs.Sheet.+digits.Goals.{then-number-ge10, else-number-ge10}
use Rattle.printing.proofs.Sheet.+digits.Goals as goal

pub returns-then-most-eq0 : goal.returns-then-most-eq0
returns-then-most-eq0 t c = printed_as (digits_none _ _ c.if-most-eq0.true) printed_none

pub returns : goal.returns
returns t c = elim c.if-number-ge10.branch [
  | then-number-ge10 w ↦ printed_as (digits_more _ _ c.if-most-eq0.false (omega arith)) (printed_then w.digits.ensures (rw w.self-is at c.byte.ensures))
  | else-number-ge10 w ↦ printed_as (digits_one _ _ c.if-most-eq0.false (omega arith)) (rw w.self-is at c.byte.ensures)
]
