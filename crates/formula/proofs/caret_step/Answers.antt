-- `formula::caret_step` meets its contract. Assumes nothing.
use Rattle.alphabet.proofs.DigitLaws.{digit_some, digit_none}
use Rattle.format.proofs.FormulaLaws.{caret_dead}
use Rattle.formula.proofs.MoveLaws.{stays, mass_starts}
use Rattle.formula.proofs.caret_step.Goals as goal

pub returns-in_default : goal.returns-in_default
returns-in_default c = stays _ _ _ c.still.ensures (caret_dead _ (digit_none _ _ c.digit.ensures c.in_default.is)) tt

pub returns : goal.returns
returns c = mass_starts _ _ (digit_some _ _ c.digit.ensures _ c.in-Some.is) _ c.still-2.ensures
