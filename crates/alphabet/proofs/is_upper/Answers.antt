-- `alphabet::is_upper` meets its contract. Assumes nothing.
use Rattle.format.specs.Bytes.{within}
use borrow.Author.Tests.{le-leb, lt-leb}
use Rattle.alphabet.proofs.is_upper.Goals as goal

pub returns-then-b-ge65 : goal.returns-then-b-ge65
unfolding within
returns-then-b-ge65 c = simp (le-leb _ _ c.if-b-ge65.true)

pub returns-else-b-ge65 : goal.returns-else-b-ge65
unfolding within
returns-else-b-ge65 c = simp (lt-leb _ _ c.if-b-ge65.false)
