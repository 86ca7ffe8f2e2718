-- `alphabet::is_allowed` meets its contract. Assumes nothing.
use Rattle.format.specs.Bytes.{allowed, within}
use mathlib.Core.Path.{sym, ◌∙◌}
use borrow.Author.Tests.{le-leb, lt-leb}
use Rattle.alphabet.proofs.is_allowed.Goals as goal

pub returns-then-is_gap : goal.returns-then-is_gap
unfolding allowed within
returns-then-is_gap c = simp (sym c.is_gap.ensures ∙ c.if-is_gap.true)

pub returns-then-b-ge32 : goal.returns-then-b-ge32
unfolding allowed within
returns-then-b-ge32 c = simp (sym c.is_gap.ensures ∙ c.if-is_gap.false, le-leb _ _ c.if-b-ge32.true)

pub returns-else-b-ge32 : goal.returns-else-b-ge32
unfolding allowed within
returns-else-b-ge32 c = simp (sym c.is_gap.ensures ∙ c.if-is_gap.false, lt-leb _ _ c.if-b-ge32.false)
