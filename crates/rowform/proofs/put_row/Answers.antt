-- `rowform::put_row` meets its contract. Assumes nothing.
use native.Mathlib.Omega.{arith}
use Rattle.rowform.proofs.RowLaws.{row_led}
use Rattle.rowform.proofs.put_row.Goals as goal

pub returns-in-Bond-clause-printed : goal.returns-in-Bond-clause-printed
returns-in-Bond-clause-printed c = let front = c.in-Some.ensures.cases in row_led c.args.list _ c.in-Bond.is c.args.table.now _ c.args.i front.same front.enough (omega arith) c.put_bond.ensures.printed

pub returns-in-Charge-clause-printed : goal.returns-in-Charge-clause-printed
returns-in-Charge-clause-printed c = let front = c.in-Some.ensures.cases in row_led c.args.list _ c.in-Charge.is c.args.table.now _ c.args.i front.same front.enough (omega arith) c.put_charge.ensures.printed

pub returns-in-Radical-clause-printed : goal.returns-in-Radical-clause-printed
returns-in-Radical-clause-printed c = let front = c.in-Some.ensures.cases in row_led c.args.list _ c.in-Radical.is c.args.table.now _ c.args.i front.same front.enough (omega arith) c.put_radical.ensures.printed

pub returns-in-Centre-clause-printed : goal.returns-in-Centre-clause-printed
returns-in-Centre-clause-printed c = let front = c.in-Some.ensures.cases in row_led c.args.list _ c.in-Centre.is c.args.table.now _ c.args.i front.same front.enough (omega arith) c.put_centre.ensures.printed

pub returns-in-Pair-clause-printed : goal.returns-in-Pair-clause-printed
returns-in-Pair-clause-printed c = let front = c.in-Some.ensures.cases in row_led c.args.list _ c.in-Pair.is c.args.table.now _ c.args.i front.same front.enough (omega arith) c.put_pair.ensures.printed
