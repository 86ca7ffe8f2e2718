-- `sorted::keyed::is_listed` meets its contract. Assumes nothing.
use mathlib.Core.Path.{◌∙◌}
use borrow.Author.Tests.{le-ltb}
use native.Mathlib.Omega.{arith}
use Rattle.sorted.proofs.KeyedLaws.{zero_unlisted, listed_is}
use Rattle.sorted.proofs.keyed.is_listed.Goals as goal

pub returns-then-atom-gt0 : goal.returns-then-atom-gt0
returns-then-atom-gt0 c = listed_is _ _ (omega arith)

pub returns-else-atom-gt0 : goal.returns-else-atom-gt0
returns-else-atom-gt0 c = le-ltb _ _ c.if-atom-gt0.false ∙ zero_unlisted _ _ (omega arith)
