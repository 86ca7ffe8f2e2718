-- `judgement::line::version_turn` meets its contract. Assumes nothing.
use mathlib.Core.Path.{refl}
use Rattle.format.specs.declared.refusal.Refusal.TheVariants.{Version}
use Rattle.judgement.proofs.LineTurnLaws.{go_shown, stop_told, version_good, version_bad}
use Rattle.judgement.proofs.line.version_turn.Goals as goal

pub returns-then-is_version : goal.returns-then-is_version
returns-then-is_version c = (refl, λ k block t st h. go_shown k block _ _ t st _ (version_good st _ _ c.is_version.ensures c.if-is_version.true) h)

pub returns : goal.returns
returns c = (tt, λ k block t st h. stop_told k block _ t Version _ c.at.ensures _ (version_bad st _ _ c.is_version.ensures c.if-is_version.false))
