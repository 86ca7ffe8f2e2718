-- The title's part packed: each return is one case of it. Assumes nothing.
use mathlib.Core.Path.{sym, ◌∙◌}
use borrow.Author.Tests.{eqb-true, eqb-false}
use Rattle.host.proofs.PackLaws.{title_long, title_none, title_packed}
use Rattle.host.proofs.galebonnet_name.Goals as goal

pub returns-then-block-gt-LONGEST : goal.returns-then-block-gt-LONGEST
returns-then-block-gt-LONGEST c = title_long _ c.if-block-gt-LONGEST.true

pub returns-then-is_empty : goal.returns-then-is_empty
returns-then-is_empty c = title_none _ _ c.if-block-gt-LONGEST.false c.title-title.ensures (eqb-true _ _ (sym c.is_empty.ensures ∙ c.if-is_empty.true))

pub returns : goal.returns
returns c = c.packed.ensures ∙ title_packed _ _ c.if-block-gt-LONGEST.false c.title-title.ensures (eqb-false _ _ (sym c.is_empty.ensures ∙ c.if-is_empty.false))
