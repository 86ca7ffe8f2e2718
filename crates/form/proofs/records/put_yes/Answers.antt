-- `form::records::put_yes` meets its contract. Assumes nothing.
use Rattle.format.specs.Bytes.{bytes}
use Rattle.format.specs.Writing.{valued, print_record}
use Rattle.printing.proofs.PrintLaws.{printed_none, printed_as}
use Rattle.form.proofs.RecordLaws.{yes_some, yes_none}
use Rattle.form.proofs.records.put_yes.Goals as goal

pub returns-then-flag-eq1 : goal.returns-then-flag-eq1
unfolding bytes valued print_record
returns-then-flag-eq1 c = printed_as (yes_some _ c.if-flag-eq1.true) c.text.ensures

pub returns-else-flag-eq1 : goal.returns-else-flag-eq1
returns-else-flag-eq1 c = printed_as (yes_none _ c.if-flag-eq1.false) printed_none
