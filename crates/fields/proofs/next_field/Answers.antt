-- `fields::next_field` meets its contract. Assumes nothing.
use Rattle.fields.proofs.NextFieldLaws.{next_is}
use Rattle.fields.proofs.next_field.Goals as goal

pub returns : goal.returns
returns c = next_is _ _ _ c.run_end-from.ensures.is c.run_end-to.ensures.is
