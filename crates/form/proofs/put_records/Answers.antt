-- `form::put_records` meets its contract. Assumes nothing.
use Rattle.format.specs.Bytes.{bytes}
use Rattle.format.specs.Table.{text_place}
use Rattle.format.specs.Writing.{valued, print_record}
use Rattle.form.proofs.FormLaws.{form_laid}
use Rattle.form.proofs.put_records.Goals as goal

pub returns : goal.returns
unfolding bytes valued print_record text_place
returns c = let lent = c.args in form_laid lent.table.now lent.bytes.now lent.entries.now _ _ c.cell.ensures c.cell-2.ensures c.put_span.ensures c.text.ensures c.put_span-2.ensures c.put_span-3.ensures c.put_id.ensures c.put_formula.ensures c.text-2.ensures c.put_atoms.ensures c.put_lists.ensures c.put_yes.ensures c.text-3.ensures
