-- `sorted::keyed::is_ordered` meets its contract. Assumes nothing.
use mathlib.Core.Path.{◌∙◌}
use native.Mathlib.Omega.{arith}
use borrow.Author.Tests.{le-ltb}
use Rattle.sorted.proofs.KeyedLaws.{order_unlisted, order_wrong, order_is}
use Rattle.sorted.proofs.keyed.is_ordered.Goals as goal

pub returns-then-first-eq0 : goal.returns-then-first-eq0
returns-then-first-eq0 c = order_unlisted _ _ _ (omega arith)

pub returns-then-first-second : goal.returns-then-first-second
returns-then-first-second c = order_is _ _ _ (omega arith) (omega arith)

pub returns-else-first-second : goal.returns-else-first-second
returns-else-first-second c = le-ltb _ _ (omega arith) ∙ order_wrong _ _ _ (omega arith)
