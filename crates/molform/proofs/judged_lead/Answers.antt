-- `molform::judged_lead` meets its contract. Assumes nothing.
use Rattle.molform.specs.Verdicts.{refusal_with}
use Rattle.molform.proofs.PassLaws.{lead_start, lead_on}
use Rattle.molform.proofs.VerdictLaws.{refusal_told}
use Rattle.molform.proofs.judged_lead.Goals as goal

pub loop-quick-init : goal.loop-quick-init
loop-quick-init c = lead_start (refusal_with c.args.last) _

pub loop-quick-preserved : goal.loop-quick-preserved
loop-quick-preserved c =
    let x = c.args in lead_on (refusal_with x.last) _ _ _ _ _ c.loop-quick.invariant c.in-Some.ensures (refusal_told x.last _ _ _ _ c.entry_verdict.ensures c.lower_refusal.ensures)
