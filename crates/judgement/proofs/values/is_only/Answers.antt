-- `judgement::values::is_only` meets its contract. Assumes nothing.
use mathlib.Core.Path.{sym, ◌∙◌}
use borrow.Author.Tests.{not-true, not-false}
use Rattle.judgement.proofs.ValueLaws.{same_words, only_other, only_alone}
use Rattle.judgement.proofs.values.is_only.Goals as goal

pub returns-then-ne : goal.returns-then-ne
returns-then-ne c = only_other _ _ _ c.next_field-first.ensures _ (same_words _ _) (not-true _ (sym c.ne.ensures ∙ c.if-ne.true))

pub returns : goal.returns
returns c = only_alone _ _ _ c.next_field-first.ensures _ (same_words _ _) _ (not-false _ (sym c.ne.ensures ∙ c.if-ne.false)) c.blank.ensures
