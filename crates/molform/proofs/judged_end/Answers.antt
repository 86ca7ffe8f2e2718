-- `molform::judged_end` meets its contract. Assumes nothing.
use mathlib.Core.Path.{◌∙◌}
use Rattle.std.specs.declared.option.Option.TheVariants.{None, Some}
use Rattle.molform.specs.Verdicts.{refusal_with}
use Rattle.molform.proofs.PassLaws.{ended}
use Rattle.molform.proofs.VerdictLaws.{refusal_nothing}
use Rattle.molform.proofs.judged_end.Goals as goal

pub returns-in-Some-None : goal.returns-in-Some-None
returns-in-Some-None c =
    let x = c.args in refusal_nothing x.last _ ∙ ended (refusal_with x.last) x.pass.held x.pass.state _ (Some None) c.formula_end.ensures (cc)
