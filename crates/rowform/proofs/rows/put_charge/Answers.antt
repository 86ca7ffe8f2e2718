-- `rowform::rows::put_charge` meets its contract. Assumes nothing.
use native.Mathlib.Omega.{arith}
use Rattle.printing.proofs.PrintLaws.{printed_then}
use Rattle.rowform.proofs.LineLaws.{printed_lent}
use Rattle.rowform.proofs.RowLaws.{charge_printed}
use Rattle.rowform.proofs.rows.put_charge.Goals as goal

pub returns-clause-printed : goal.returns-clause-printed
returns-clause-printed c = charge_printed c.args.table.now (omega arith) c.args.i _ c.charge.ensures c.put_signed.ensures c.put_members.ensures

pub returns-clause-lent : goal.returns-clause-lent
returns-clause-lent c = printed_lent (printed_then c.put_signed.ensures c.put_members.ensures)
