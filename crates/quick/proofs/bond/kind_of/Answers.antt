-- `quick::bond::kind_of` meets its contract. Assumes nothing.
use Rattle.quick.proofs.PieceLaws.{kind_is}
use Rattle.quick.proofs.bond.kind_of.Goals as goal

pub returns : goal.returns
returns c = kind_is c.args.letter c.if-letter-lt65.false c.if-letter-gt84.false _ c.from-shift.ensures c.if-kind-eq0.false
