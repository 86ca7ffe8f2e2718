-- `form::listing::row_count` meets its contract. Assumes nothing.
use native.Mathlib.Omega.{arith}
use mathlib.Core.Path.{sym, ◌∙◌}
use Rattle.rowform.specs.declared.Listed.TheVariants.{Bond, Charge, Radical, Centre, Pair}
use Rattle.rowform.proofs.PlaceLaws.{bonds_many, charges_many, radicals_many, centres_many, pairs_many}
use Rattle.form.proofs.ListingLaws.{count_as}
use Rattle.form.proofs.listing.row_count.Goals as goal

pub returns-in-Bond : goal.returns-in-Bond
returns-in-Bond c = (count_as c.args.table.now _ _ Bond c.in-Bond.is (c.count_at.ensures.0 ∙ sym (bonds_many c.args.table.now)), omega (arith, c.count_at.ensures.1))

pub returns-in-Charge : goal.returns-in-Charge
returns-in-Charge c = (count_as c.args.table.now _ _ Charge c.in-Charge.is (c.count_at-in-Charge.ensures.0 ∙ sym (charges_many c.args.table.now (omega arith))), omega (arith, c.count_at-in-Charge.ensures.1))

pub returns-in-Radical : goal.returns-in-Radical
returns-in-Radical c = (count_as c.args.table.now _ _ Radical c.in-Radical.is (c.count_at-in-Radical.ensures.0 ∙ sym (radicals_many c.args.table.now (omega arith))), omega (arith, c.count_at-in-Radical.ensures.1))

pub returns-in-Centre : goal.returns-in-Centre
returns-in-Centre c = (count_as c.args.table.now _ _ Centre c.in-Centre.is (c.count_at-in-Centre.ensures.0 ∙ sym (centres_many c.args.table.now)), omega (arith, c.count_at-in-Centre.ensures.1))

pub returns-in-Pair : goal.returns-in-Pair
returns-in-Pair c = (count_as c.args.table.now _ _ Pair c.in-Pair.is (c.count_at-in-Pair.ensures.0 ∙ sym (pairs_many c.args.table.now)), omega (arith, c.count_at-in-Pair.ensures.1))
