-- `molform::formula_verdict` meets its contract. Assumes nothing.
use mathlib.Core.Path.{sym, ◌∙◌}
use Rattle.molform.specs.Verdicts.{refusal_with}
use Rattle.molform.proofs.PassLaws.{pass_on, pass_end, lead_whole}
use Rattle.molform.proofs.formula_verdict.Goals as goal

pub loop-byte-init : goal.loop-byte-init
loop-byte-init c = (tt, lead_whole (refusal_with c.args.last) _ _ c.judged_lead-lead.ensures)

pub loop-byte-preserved : goal.loop-byte-preserved
loop-byte-preserved c =
    let j = c.judged_step-pass.ensures c.loop-byte.invariant.0 in (j.sized, c.loop-byte.invariant.1 ∙ pass_on (refusal_with c.args.last) _ _ _ _ c.loop-byte-test.true j)

pub returns : goal.returns
returns c = c.judged_end.ensures ∙ sym (c.loop-byte.invariant.1 ∙ pass_end (refusal_with c.args.last) _ _ c.loop-byte.pass c.loop-byte-test.false)
