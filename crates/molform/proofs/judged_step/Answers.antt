-- `molform::judged_step` meets its contract. Assumes nothing.
use mathlib.Core.Path.{ap}
use Rattle.format.proofs.FormulaLaws.{join_nil}
use Rattle.molform.specs.Verdicts.{refusal_with}
use Rattle.molform.proofs.PassLaws.{stepped}
use Rattle.molform.proofs.VerdictLaws.{refusal_told}
use Rattle.molform.proofs.judged_step.Goals as goal

pub returns-in-Some : goal.returns-in-Some
returns-in-Some c =
    let x = c.args in stepped (refusal_with x.last) _ _ _ _ _ c.formula_step-step.ensures (λ r. rw c.in-Some.is (refusal_told x.last _ _ _ _ c.entry_verdict.ensures c.lower_refusal-held.ensures r))

pub returns-in-None : goal.returns-in-None
returns-in-None c =
    let x = c.args in stepped (refusal_with x.last) _ _ _ _ _ c.formula_step-step.ensures (λ r. rw c.in-None.is (ap (refusal_with x.last x.pass.held) (join_nil r)))
