-- `rowform::rows::put_two` meets its contract. Assumes nothing.
use Rattle.printing.proofs.PrintLaws.{printed_then}
use Rattle.rowform.proofs.LineLaws.{lent_then, printed_lent, two_printed}
use Rattle.rowform.proofs.rows.put_two.Goals as goal

pub returns-clause-printed : goal.returns-clause-printed
returns-clause-printed c = two_printed _ _ _ _ c.number.ensures c.behind.ensures c.put_mark.ensures.printed

pub returns-clause-lent : goal.returns-clause-lent
returns-clause-lent c = lent_then (printed_lent (printed_then c.number.ensures c.behind.ensures)) c.put_mark.ensures.lent
