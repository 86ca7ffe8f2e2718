-- `formula::leave_step` meets its contract. Assumes nothing.
use mathlib.Core.Path.{sym, ◌∙◌}
use Rattle.format.proofs.FormulaLaws.{leave_upper, leave_part}
use Rattle.formula.proofs.MoveLaws.{told, renamed}
use Rattle.formula.proofs.leave_step.Goals as goal

pub returns-then-not-is_upper : goal.returns-then-not-is_upper
returns-then-not-is_upper c = renamed _ _ _ (leave_part _ _ (sym c.is_upper.ensures ∙ c.if-not-is_upper.true)) c.part_step.ensures

pub returns : goal.returns
returns c = told _ _ _ (leave_upper _ _ (sym c.is_upper.ensures ∙ c.if-not-is_upper.false)) tt
