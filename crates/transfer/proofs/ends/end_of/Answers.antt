-- Where it ends: the place stays the same from one line that is looked at to the next. Assumes nothing.
use mathlib.Core.Path.{sym, ap, ◌∙◌}
use Rattle.std.specs.Prelude.{Some}
use Rattle.transfer.proofs.EndLaws.{ending_skip, ending_line, ending_end}
use Rattle.transfer.proofs.ends.end_of.Goals as goal

pub loop-i-init : goal.loop-i-init
loop-i-init g c = ending_skip _ _ c.requires _ _ _ c.skip_to_label-i.ensures

pub returns-in-Some-Before : goal.returns-in-Some-Before
returns-in-Some-Before g c = sym (c.loop-i.invariant ∙ ending_line _ _ _ _ c.loop-i-test.true c.line_end-next.ensures.is _ (sym c.tells.ensures ∙ c.in-Some-Before.is ∙ ap (λ x. Some x) c.in-Some-Before.field-0-is))

pub returns-in-Some-Behind : goal.returns-in-Some-Behind
returns-in-Some-Behind g c = sym (c.loop-i.invariant ∙ ending_line _ _ _ _ c.loop-i-test.true c.line_end-next.ensures.is _ (sym c.tells.ensures ∙ c.in-Some-Behind.is ∙ ap (λ x. Some x) c.in-Some-Behind.field-0-is))

pub loop-i-preserved : goal.loop-i-preserved
loop-i-preserved g c =
    c.loop-i.invariant ∙ ending_line _ _ _ _ c.loop-i-test.true c.line_end-next.ensures.is _ (sym c.tells.ensures ∙ c.in-None.is)
    ∙ ending_skip _ _ c.requires _ _ _ c.skip_to_label-i-in-None.ensures

pub returns : goal.returns
returns g c = sym (c.loop-i.invariant ∙ ending_end _ _ _ c.loop-i-test.false)
