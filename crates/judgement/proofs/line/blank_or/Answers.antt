-- `judgement::line::blank_or` meets its contract. Assumes nothing.
use mathlib.Core.Path.{refl}
use Rattle.judgement.proofs.LineTurnLaws.{go_shown, stop_told, blank_good, blank_bad}
use Rattle.judgement.proofs.line.blank_or.Goals as goal

pub returns-then-blank : goal.returns-then-blank
returns-then-blank c = (refl, λ k block t st h. go_shown k block _ _ t st _ (blank_good _ st _ _ c.blank.ensures c.if-blank.true) h)

pub returns : goal.returns
returns c = (tt, λ k block t st h. stop_told k block _ t _ _ c.at.ensures _ (blank_bad _ st _ _ c.blank.ensures c.if-blank.false))
