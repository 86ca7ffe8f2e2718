-- `form::records::put_id` meets its contract. Assumes nothing.
use Rattle.format.specs.Bytes.{bytes}
use Rattle.printing.proofs.PrintLaws.{printed_none, printed_as}
use Rattle.form.proofs.RecordLaws.{id_none, id_laid}
use Rattle.form.proofs.records.put_id.Goals as goal

pub returns-then-id-ne0 : goal.returns-then-id-ne0
unfolding bytes
returns-then-id-ne0 c = id_laid _ c.if-id-ne0.true c.text.ensures c.behind.ensures c.byte.ensures

pub returns-else-id-ne0 : goal.returns-else-id-ne0
returns-else-id-ne0 c = printed_as (id_none _ c.if-id-ne0.false) printed_none
