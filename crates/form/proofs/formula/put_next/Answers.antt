-- `form::formula::put_next` meets its contract. Assumes nothing.
use Rattle.printing.proofs.PrintLaws.{printed_then}
use Rattle.form.proofs.formula.put_next.Goals as goal

pub returns : goal.returns
returns c = printed_then c.put_parted.ensures c.put_entry.ensures
