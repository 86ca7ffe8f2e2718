-- `totals::Left::take_formula` meets its contract. Assumes nothing.
use Rattle.format.specs.Formula.{formula_shape}
use Rattle.formula.specs.Machine.{Sized}
use Rattle.totals.specs.Left.{left_in}
use Rattle.totals.specs.Taking.{Owing}
use Rattle.totals.proofs.left.Left.take_formula.Given as goal

abbrev pub invariant-loop-byte : goal.invariant-loop-byte
invariant-loop-byte l = Sized l.state × Owing l.last (left_in l.fn.self) (left_in l.self) (formula_shape l.formula) l.byte-items l.state l.byte-index
