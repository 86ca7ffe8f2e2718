-- The title: each return is one case of the first line. Assumes nothing.
use mathlib.Core.Path.{sym, ◌∙◌}
use Rattle.transfer.proofs.NameLaws.{title_other, title_kept}
use Rattle.transfer.proofs.names.title.Goals as goal

pub returns-then-not-is_title_line : goal.returns-then-not-is_title_line
returns-then-not-is_title_line c = title_other _ _ c.line_end-end.ensures.is (sym c.is_title_line.ensures ∙ c.if-not-is_title_line.true)

pub returns : goal.returns
returns c = title_kept _ _ c.line_end-end.ensures.is (sym c.is_title_line.ensures ∙ c.if-not-is_title_line.false) _ _ c.value_at-from.ensures c.text_end-to.ensures _ c.trimmed-kept.ensures
