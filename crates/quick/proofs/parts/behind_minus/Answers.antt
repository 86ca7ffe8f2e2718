-- `quick::parts::behind_minus` meets its contract. Assumes nothing.
use Rattle.quick.proofs.SignedLaws.{minus_there, minus_absent}
use Rattle.quick.proofs.parts.behind_minus.Goals as goal

pub returns-then-block-at-eq45 : goal.returns-then-block-at-eq45
returns-then-block-at-eq45 c = minus_there c.args.block.now _ c.if-block-at-eq45.true

pub returns : goal.returns
returns c = minus_absent c.args.block.now _ c.if-block-at-eq45.false
