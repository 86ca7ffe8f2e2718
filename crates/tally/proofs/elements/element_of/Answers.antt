-- `tally::elements::element_of` meets its contract. Assumes nothing.
use Rattle.tally.proofs.RankLaws.{elements, element_told}
use Rattle.tally.proofs.elements.element_of.Goals as goal

pub returns-in-1 : goal.returns-in-1
unfolding elements
returns-in-1 c = element_told _ 1 c.in-1.is

pub returns-in-2 : goal.returns-in-2
unfolding elements
returns-in-2 c = element_told _ 2 c.in-2.is

pub returns-in-55 : goal.returns-in-55
unfolding elements
returns-in-55 c = element_told _ 55 c.in-55.is

pub returns-in-63 : goal.returns-in-63
unfolding elements
returns-in-63 c = element_told _ 63 c.in-63.is
