-- `rowform::rows::put_member` meets its contract. Assumes nothing.
use Rattle.printing.proofs.PrintLaws.{printed_none, printed_as}
use Rattle.rowform.proofs.RowLaws.{member_none}
use Rattle.rowform.proofs.rows.put_member.Goals as goal

pub returns-else-cell-j : goal.returns-else-cell-j
returns-else-cell-j c = printed_as (member_none _ _ _ _ c.cell.ensures c.if-cell-j.false) printed_none
