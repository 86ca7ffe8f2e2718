-- A line that is looked at and starts there: each return is one case of the test. Assumes nothing.
use Rattle.transfer.proofs.SkipLaws.{start_other, start_first, start_behind}
use Rattle.transfer.proofs.skips.starts_at.Goals as goal

pub returns-then-i-at : goal.returns-then-i-at
returns-then-i-at g c = start_first _ _ _ _ _ c.heeded.ensures c.if-heeded.true c.if-i-at.true

pub returns-else-i-at : goal.returns-else-i-at
returns-else-i-at g c = start_behind _ _ _ _ _ c.heeded.ensures c.if-heeded.true c.if-i-at.false

pub returns-else-heeded : goal.returns-else-heeded
returns-else-heeded g c = start_other _ _ _ _ _ c.heeded.ensures c.if-heeded.false
