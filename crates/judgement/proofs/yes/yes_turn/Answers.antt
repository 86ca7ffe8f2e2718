-- `judgement::yes::yes_turn` meets its contract. Assumes nothing.
use mathlib.Core.Path.{refl, sym, ◌∙◌}
use Rattle.format.specs.declared.refusal.Refusal.TheVariants.{Shape}
use Rattle.judgement.proofs.ValueLaws.{fields_blank}
use Rattle.judgement.proofs.LineTurnLaws.{go_shown, stop_told}
use Rattle.judgement.proofs.YesTurnLaws.{yes_blank, yes_again, yes_other, yes_taken, yes_bounded, yes_shown}
use Rattle.judgement.proofs.yes.yes_turn.Goals as goal

pub returns-then-blank : goal.returns-then-blank
returns-then-blank c = (λ size b. b, refl, λ k block t st h. go_shown k block _ _ t st _ (yes_blank st _ (fields_blank _ ∙ sym c.blank.ensures ∙ c.if-blank.true)) h)

pub returns-then-p : goal.returns-then-p
returns-then-p c = (λ size b. tt, tt, λ k block t st h. stop_told k block _ t Shape _ c.at.ensures _ (yes_again st _ (fields_blank _ ∙ sym c.blank.ensures ∙ c.if-blank.false) (h.holding.listed.handed ∙ c.if-p.true)))

pub returns-then-not-is_yes : goal.returns-then-not-is_yes
returns-then-not-is_yes c = (λ size b. tt, tt, λ k block t st h. stop_told k block _ t Shape _ c.at-then-not-is_yes.ensures _ (yes_other st _ (fields_blank _ ∙ sym c.blank.ensures ∙ c.if-blank.false) (h.holding.listed.handed ∙ c.if-p.false) (sym c.is_yes.ensures ∙ c.if-not-is_yes.true)))

pub returns : goal.returns
returns c = (λ size b. yes_bounded size _ b, refl, λ k block t st h. go_shown k block _ _ t _ _ (yes_taken st _ (fields_blank _ ∙ sym c.blank.ensures ∙ c.if-blank.false) (h.holding.listed.handed ∙ c.if-p.false) (sym c.is_yes.ensures ∙ c.if-not-is_yes.false)) (yes_shown k block _ _ t st h))
