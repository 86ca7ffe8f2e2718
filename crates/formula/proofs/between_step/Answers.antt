-- `formula::between_step` meets its contract. Assumes nothing.
use mathlib.Core.Path.{sym, ◌∙◌}
use borrow.Author.Tests.{eq-eqb, ne_eqb}
use Rattle.format.proofs.FormulaLaws.{between_upper, between_caret, between_gap}
use Rattle.formula.proofs.StepLaws.{between_other, between_next, between_early}
use Rattle.formula.proofs.MoveLaws.{stays}
use Rattle.formula.proofs.between_step.Goals.{else-byte-eq42-via-then-byte-eq42+else-begun, else-byte-eq42-via-else-byte-eq42}
use Rattle.formula.proofs.between_step.Goals as goal

pub returns-then-is_upper : goal.returns-then-is_upper
returns-then-is_upper c = stays _ _ _ c.still.ensures (between_upper _ _ (sym c.is_upper.ensures ∙ c.if-is_upper.true)) tt

pub returns-then-byte-eq94 : goal.returns-then-byte-eq94
returns-then-byte-eq94 c =
    stays _ _ _ c.still-then-byte-eq94.ensures (between_caret _ _ (sym c.is_upper.ensures ∙ c.if-is_upper.false) (eq-eqb _ _ c.if-byte-eq94.true)) tt

pub returns-then-is_gap : goal.returns-then-is_gap
returns-then-is_gap c =
    stays _ _ _ c.still-then-is_gap.ensures (between_gap _ _ (sym c.is_upper.ensures ∙ c.if-is_upper.false) (ne_eqb _ _ c.if-byte-eq94.false) (sym c.is_gap.ensures ∙ c.if-is_gap.true)) tt

pub returns-then-begun : goal.returns-then-begun
returns-then-begun c =
    stays _ _ _ c.still-then-begun.ensures (between_next _ _ (sym c.is_upper.ensures ∙ c.if-is_upper.false) c.if-byte-eq94.false (sym c.is_gap.ensures ∙ c.if-is_gap.false) c.if-byte-eq42.true c.if-begun.true) tt

pub returns : goal.returns
returns c =
    stays _ _ _ c.still-2.ensures
    (elim c.else-byte-eq42.branch [
      | else-byte-eq42-via-then-byte-eq42+else-begun w ↦ between_early _ _ (sym c.is_upper.ensures ∙ c.if-is_upper.false) c.if-byte-eq94.false (sym c.is_gap.ensures ∙ c.if-is_gap.false) w.if-byte-eq42.true w.if-begun.false
      | else-byte-eq42-via-else-byte-eq42 w ↦ between_other _ _ (sym c.is_upper.ensures ∙ c.if-is_upper.false) c.if-byte-eq94.false (sym c.is_gap.ensures ∙ c.if-is_gap.false) w.if-byte-eq42.false
    ])
    tt
