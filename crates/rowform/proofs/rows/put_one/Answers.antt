-- `rowform::rows::put_one` meets its contract. Assumes nothing.
use Rattle.rowform.proofs.LineLaws.{lent_then, printed_lent, one_printed}
use Rattle.rowform.proofs.rows.put_one.Goals as goal

pub returns-clause-printed : goal.returns-clause-printed
returns-clause-printed c = one_printed _ _ _ c.number.ensures c.put_mark.ensures.printed

pub returns-clause-lent : goal.returns-clause-lent
returns-clause-lent c = lent_then (printed_lent c.number.ensures) c.put_mark.ensures.lent
