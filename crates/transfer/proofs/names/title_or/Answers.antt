-- The title or the stand-in: the name from the title's part. Assumes nothing.
use mathlib.Core.Path.{sym, ◌∙◌}
use borrow.Author.Tests.{eqb-true, eqb-false}
use Rattle.transfer.proofs.NameLaws.{name_empty, name_shown}
use Rattle.transfer.proofs.names.title_or.Goals as goal

pub returns-then-is_empty : goal.returns-then-is_empty
returns-then-is_empty c = name_empty _ _ _ c.title-part.ensures (eqb-true _ _ (sym c.is_empty.ensures ∙ c.if-is_empty.true))

pub returns : goal.returns
returns c = name_shown _ _ _ c.title-part.ensures (eqb-false _ _ (sym c.is_empty.ensures ∙ c.if-is_empty.false))
