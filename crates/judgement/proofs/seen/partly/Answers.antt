-- `judgement::seen::partly` meets its contract. Assumes nothing.
use Rattle.judgement.proofs.SeenLaws.{partly_second, partly_third}
use Rattle.judgement.proofs.seen.partly.Goals as goal

pub returns-then-factor-greatest : goal.returns-then-factor-greatest
returns-then-factor-greatest c = λ labels e. partly_second _ labels e c.if-factor-greatest.true

pub returns : goal.returns
returns c = λ labels e. partly_third _ labels e c.if-factor-greatest.false
