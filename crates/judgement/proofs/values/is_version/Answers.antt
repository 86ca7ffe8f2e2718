-- `judgement::values::is_version` meets its contract. Assumes nothing.
use mathlib.Core.Path.{◌∙◌}
use Rattle.format.specs.Bytes.{fields}
use Rattle.judgement.proofs.ValueLaws.{version_only}
use Rattle.judgement.proofs.values.is_version.Goals as goal

pub returns : goal.returns
returns c = c.is_only.ensures ∙ version_only (fields c.args.line.now)
