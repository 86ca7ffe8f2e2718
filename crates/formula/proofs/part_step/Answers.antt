-- `formula::part_step` meets its contract. Assumes nothing.
use mathlib.Core.Path.{sym, ◌∙◌}
use borrow.Author.Tests.{eq-eqb, ne_eqb}
use Rattle.format.proofs.FormulaLaws.{part_gap, part_star, part_dead}
use Rattle.formula.proofs.MoveLaws.{stays, told}
use Rattle.formula.proofs.part_step.Goals as goal

pub returns-then-is_gap : goal.returns-then-is_gap
returns-then-is_gap c = told _ _ _ (part_gap _ _ (sym c.is_gap.ensures ∙ c.if-is_gap.true)) tt

pub returns-then-byte-eq42 : goal.returns-then-byte-eq42
returns-then-byte-eq42 c = told _ _ _ (part_star _ _ (sym c.is_gap.ensures ∙ c.if-is_gap.false) (eq-eqb _ _ c.if-byte-eq42.true)) tt

pub returns : goal.returns
returns c = stays _ _ _ c.still.ensures (part_dead _ _ (sym c.is_gap.ensures ∙ c.if-is_gap.false) (ne_eqb _ _ c.if-byte-eq42.false)) tt
