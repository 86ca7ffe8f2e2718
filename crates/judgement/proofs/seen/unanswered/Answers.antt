-- `judgement::seen::unanswered` meets its contract. Assumes nothing.
use Rattle.judgement.proofs.SeenLaws.{answered, unanswered_told}
use Rattle.judgement.proofs.seen.unanswered.Goals as goal

pub returns-then-handed : goal.returns-then-handed
returns-then-handed c = λ labels e. answered labels _ c.if-handed.true

pub returns : goal.returns
returns c = λ labels e. unanswered_told _ labels _ e c.if-handed.false
