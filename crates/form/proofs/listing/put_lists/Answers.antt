-- `form::listing::put_lists` meets its contract. Assumes nothing.
use Rattle.form.proofs.ListingLaws.{lists_laid}
use Rattle.form.proofs.listing.put_lists.Goals as goal

pub returns : goal.returns
returns c = lists_laid c.args.table.now c.put_list.ensures c.put_list-2.ensures c.put_list-3.ensures c.put_list-4.ensures c.put_list-5.ensures
