-- `rowform::rows::put_radical` meets its contract. Assumes nothing.
use native.Mathlib.Omega.{arith}
use Rattle.printing.proofs.PrintLaws.{printed_then}
use Rattle.rowform.proofs.LineLaws.{printed_lent}
use Rattle.rowform.proofs.RowLaws.{radical_printed}
use Rattle.rowform.proofs.rows.put_radical.Goals as goal

pub returns-clause-printed : goal.returns-clause-printed
returns-clause-printed c = radical_printed c.args.table.now (omega arith) c.args.i _ c.radical.ensures _ c.cell.ensures c.number.ensures c.put_members.ensures

pub returns-clause-lent : goal.returns-clause-lent
returns-clause-lent c = printed_lent (printed_then c.number.ensures c.put_members.ensures)
