-- `labels::line_kind` meets its contract. Assumes nothing.
use mathlib.Core.Path.{◌∙◌}
use native.Mathlib.Omega.{arith}
use Rattle.labels.proofs.LabelLaws.{onward_hit, onward_end, line_plain, line_label, shows_plain, shows_unparted, shows_labelled, onward_next}
use Rattle.labels.proofs.line_kind.Goals as goal

pub returns-then-not-starts_with : goal.returns-then-not-starts_with
returns-then-not-starts_with c = shows_plain _ (line_plain _ _ c.starts_with.ensures.value c.if-not-starts_with.true)

pub loop-i-init : goal.loop-i-init
loop-i-init c = line_label _ _ c.starts_with.ensures.value c.if-not-starts_with.false

pub returns-then-b-eq61 : goal.returns-then-b-eq61
returns-then-b-eq61 c = shows_labelled _ _ _ _ (c.loop-i.invariant ∙ onward_hit _ _ _ c.loop-i-test.true c.if-b-eq61.true) c.code_of.ensures.0 c.code_of.ensures.1 (omega arith)

pub loop-i-preserved : goal.loop-i-preserved
loop-i-preserved c = onward_next _ _ _ _ c.loop-i-test.true c.if-b-eq61.false c.loop-i.invariant c.next_key-key.ensures

pub returns : goal.returns
returns c = shows_unparted _ (c.loop-i.invariant ∙ onward_end _ _ _ c.loop-i-test.false)
