-- `judgement::line::id_turn` meets its contract. Assumes nothing.
use mathlib.Core.Path.{refl}
use Rattle.judgement.proofs.LineTurnLaws.{go_shown, stop_told, id_good_lem, id_bad, id_bounded, id_shown}
use Rattle.judgement.proofs.line.id_turn.Goals as goal

pub returns-in-Ok : goal.returns-in-Ok
returns-in-Ok c = (λ size b. id_bounded _ size _ (id_good_lem _ _ c.block_id.ensures _ c.in-Ok.is).1 b, refl, λ k block t st h. go_shown k block _ _ t _ _ ((id_good_lem _ _ c.block_id.ensures _ c.in-Ok.is).0 st) (id_shown _ k block _ _ t st h))

pub returns-in-Err : goal.returns-in-Err
returns-in-Err c = (λ size b. tt, tt, λ k block t st h. stop_told k block _ t _ _ c.at.ensures _ (id_bad _ _ c.block_id.ensures _ c.in-Err.is st))
