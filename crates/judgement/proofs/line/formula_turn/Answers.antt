-- `judgement::line::formula_turn` meets its contract. Assumes nothing.
use mathlib.Core.Path.{refl}
use Rattle.judgement.proofs.LineTurnLaws.{go_shown, stop_told, formula_refused, formula_taken, formula_shown, formula_bounded}
use Rattle.judgement.proofs.line.formula_turn.Goals as goal

pub returns-in-Err : goal.returns-in-Err
returns-in-Err c = (tt, tt, λ t st h. stop_told c.args.last c.args.block.now c.args.at t _ _ c.at.ensures _ (formula_refused _ st _ _ _ c.formula_verdict.ensures c.in-Err.is))

pub returns : goal.returns
returns c = (formula_bounded _ _ _ _ c.requires.1 c.requires.2 c.requires.0, refl, λ t st h. go_shown _ _ _ _ t _ _ (formula_taken _ st _ _ c.formula_verdict.ensures c.in_default.is) (formula_shown _ _ _ _ _ _ _ t st c.requires.3 c.formula_verdict.ensures c.in_default.is h))
