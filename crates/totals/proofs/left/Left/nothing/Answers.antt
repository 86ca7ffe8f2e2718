-- `totals::Left::nothing` meets its contract. Assumes nothing.
use Rattle.totals.proofs.LeftLaws.{zeros_blank}
use Rattle.totals.proofs.left.Left.nothing.Goals as goal

pub returns : goal.returns
returns c = (zeros_blank 104, zeros_blank 256)
