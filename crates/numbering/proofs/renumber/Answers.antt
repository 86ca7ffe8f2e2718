-- `numbering::renumber` meets its contract. Assumes nothing.
use Rattle.numbering.proofs.NumberedLaws.{renumbers}
use Rattle.numbering.proofs.renumber.Goals as goal

pub returns : goal.returns
returns c = λ long few most whole all s rs n f r o v. renumbers rs _ _ (c.order_of.ensures s rs n f r o) (c.sorted_values.ensures rs n r (c.order_of.ensures s rs n f r o) v)
