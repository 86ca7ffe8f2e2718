-- `header::put_text` meets its contract. Assumes nothing.
use mathlib.Core.Path.{ap, ◌∙◌}
use Rattle.filling.specs.Filled.{placed}
use Rattle.header.proofs.HeaderLaws.{text_empty, text_full}
use Rattle.header.proofs.put_text.Goals as goal

pub returns-then-kept : goal.returns-then-kept
returns-then-kept c = c.put_all.ensures ∙ ap (placed c.args.part.now c.args.at) (text_empty c.args.block.now c.args.text _ c.requires.1 c.trimmed-kept.ensures c.if-kept.true)

pub returns : goal.returns
returns c = c.put_all-2.ensures ∙ ap (placed c.args.part.now c.args.at) (text_full c.args.block.now c.args.text _ c.requires.1 c.trimmed-kept.ensures c.requires.2 c.if-kept.false)
