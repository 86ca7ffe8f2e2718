-- `rowform::rows::put_mark` meets its contract. Assumes nothing.
use Rattle.rowform.proofs.LineLaws.{printed_lent, mark_alone, mark_grouped}
use Rattle.rowform.proofs.rows.put_mark.Goals as goal

pub returns-then-group-eq0-clause-printed : goal.returns-then-group-eq0-clause-printed
returns-then-group-eq0-clause-printed c = mark_alone _ _ c.if-group-eq0.true c.bytes.ensures

pub returns-else-group-eq0-clause-printed : goal.returns-else-group-eq0-clause-printed
returns-else-group-eq0-clause-printed c = mark_grouped _ _ c.if-group-eq0.false (rw c.to_le_bytes.ensures at c.bytes-else-group-eq0.ensures)

pub returns-then-group-eq0-clause-lent : goal.returns-then-group-eq0-clause-lent
returns-then-group-eq0-clause-lent c = printed_lent c.bytes.ensures

pub returns-else-group-eq0-clause-lent : goal.returns-else-group-eq0-clause-lent
returns-else-group-eq0-clause-lent c = printed_lent c.bytes-else-group-eq0.ensures
