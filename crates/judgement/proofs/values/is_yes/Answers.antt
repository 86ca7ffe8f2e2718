-- `judgement::values::is_yes` meets its contract. Assumes nothing.
use mathlib.Core.Path.{◌∙◌}
use Rattle.format.specs.Bytes.{fields}
use Rattle.judgement.proofs.ValueLaws.{yes_only}
use Rattle.judgement.proofs.values.is_yes.Goals as goal

pub returns : goal.returns
returns c = c.is_only.ensures ∙ yes_only (fields c.args.line.now)
