-- `form::records::put_record` meets its contract. Assumes nothing.
use Rattle.std.proofs.Common.{rules}
use Rattle.form.proofs.RecordLaws.{record_bare, record_full}
use Rattle.form.proofs.records.put_record.Goals.{then-not-is_empty, else-not-is_empty}
use Rattle.form.proofs.records.put_record.Goals as goal

pub returns : goal.returns
returns c = elim c.if-not-is_empty.branch [
  | then-not-is_empty w ↦ record_full _ c.args.value.now (search rules) c.text.ensures w.byte.ensures w.text-then-not-is_empty.ensures (rw w.sheet-is at c.byte-2.ensures)
  | else-not-is_empty w ↦ record_bare _ c.args.value.now (search rules) c.text.ensures (rw w.sheet-is at c.byte-2.ensures)
]
