-- `judgement::seen::lacking` meets its contract. Assumes nothing.
use mathlib.Core.Path.{sym, ◌∙◌}
use borrow.Author.Tests.{eq-eqb, ne_eqb}
use Rattle.judgement.proofs.SeenLaws.{lacking_is, or_fourth}
use Rattle.judgement.proofs.seen.lacking.Goals as goal

pub returns-then-seen-eq0 : goal.returns-then-seen-eq0
returns-then-seen-eq0 c = λ labels e. sym (lacking_is _ labels e ∙ simp (eq-eqb _ _ c.if-seen-eq0.true))

pub returns-then-seen-eq0-2 : goal.returns-then-seen-eq0-2
returns-then-seen-eq0-2 c = λ labels e. sym (lacking_is _ labels e ∙ simp (ne_eqb _ _ c.if-seen-eq0.false, eq-eqb _ _ c.if-seen-eq0-2.true))

pub returns-then-seen-eq0-3 : goal.returns-then-seen-eq0-3
returns-then-seen-eq0-3 c = λ labels e. sym (lacking_is _ labels e ∙ simp (ne_eqb _ _ c.if-seen-eq0.false, ne_eqb _ _ c.if-seen-eq0-2.false, eq-eqb _ _ c.if-seen-eq0-3.true))

pub returns : goal.returns
returns c = λ labels e. sym (lacking_is _ labels e ∙ or_fourth _ _ _ _ (ne_eqb _ _ c.if-seen-eq0.false) (ne_eqb _ _ c.if-seen-eq0-2.false) (ne_eqb _ _ c.if-seen-eq0-3.false))
