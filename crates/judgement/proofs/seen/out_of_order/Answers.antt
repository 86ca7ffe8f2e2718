-- `judgement::seen::out_of_order` meets its contract. Assumes nothing.
use Rattle.judgement.proofs.SeenLaws.{seen_again, order_told}
use Rattle.judgement.proofs.seen.out_of_order.Goals as goal

pub returns-then-seen-code-ne0 : goal.returns-then-seen-code-ne0
returns-then-seen-code-ne0 c = λ labels e t. seen_again _ labels _ c.requires.1 e c.if-seen-code-ne0.true

pub returns : goal.returns
returns c = λ labels e t. order_told _ labels _ _ _ c.requires.1 e t c.if-seen-code-ne0.false c.high_of.ensures
