-- `form::listing::put_label` meets its contract. Assumes nothing.
use Rattle.format.specs.Bytes.{bytes}
use Rattle.format.specs.Writing.{valued, print_record}
use Rattle.rowform.specs.declared.Listed.TheVariants.{Bond, Charge, Radical, Centre, Pair}
use Rattle.form.proofs.ListingLaws.{label_as}
use Rattle.form.proofs.listing.put_label.Goals as goal

pub returns-in-Bond : goal.returns-in-Bond
unfolding bytes valued print_record
returns-in-Bond c = label_as _ Bond c.in-Bond.is c.text.ensures

pub returns-in-Charge : goal.returns-in-Charge
unfolding bytes valued print_record
returns-in-Charge c = label_as _ Charge c.in-Charge.is c.text-in-Charge.ensures

pub returns-in-Radical : goal.returns-in-Radical
unfolding bytes valued print_record
returns-in-Radical c = label_as _ Radical c.in-Radical.is c.text-in-Radical.ensures

pub returns-in-Centre : goal.returns-in-Centre
unfolding bytes valued print_record
returns-in-Centre c = label_as _ Centre c.in-Centre.is c.text-in-Centre.ensures

pub returns-in-Pair : goal.returns-in-Pair
unfolding bytes valued print_record
returns-in-Pair c = label_as _ Pair c.in-Pair.is c.text-in-Pair.ensures
