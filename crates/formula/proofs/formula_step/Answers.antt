-- `formula::formula_step` meets its contract. Assumes nothing.
use Rattle.format.proofs.FormulaLaws.{dead_stays}
use Rattle.formula.proofs.MoveLaws.{stays, at_state}
use Rattle.formula.proofs.formula_step.Goals as goal

pub returns-in-Dead : goal.returns-in-Dead
returns-in-Dead c = at_state _ _ _ _ c.in-Dead.is (λ h. stays _ _ _ c.still.ensures (dead_stays _) tt)
