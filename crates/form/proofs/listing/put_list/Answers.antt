-- `form::listing::put_list` meets its contract. Assumes nothing.
use Rattle.rowform.specs.Lines.{list_of}
use Rattle.form.proofs.ListingLaws.{list_none, list_some}
use Rattle.form.proofs.listing.put_list.Goals as goal

pub returns-then-count-ne0 : goal.returns-then-count-ne0
returns-then-count-ne0 c = list_some (list_of c.args.list) c.args.table.now _ c.row_count-count.ensures.0 c.if-count-ne0.true c.put_label.ensures c.put_rows.ensures

pub returns-else-count-ne0 : goal.returns-else-count-ne0
returns-else-count-ne0 c = list_none (list_of c.args.list) c.args.table.now _ c.row_count-count.ensures.0 c.if-count-ne0.false
