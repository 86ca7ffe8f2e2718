-- `formula::slash_step` meets its contract. Assumes nothing.
use Rattle.alphabet.proofs.DigitLaws.{digit_some, digit_none}
use Rattle.format.proofs.FormulaLaws.{slash_digit, slash_dead}
use Rattle.formula.proofs.MoveLaws.{stays, count_starts}
use Rattle.formula.proofs.slash_step.Goals as goal

pub returns-in_default : goal.returns-in_default
returns-in_default c = stays _ _ _ c.still.ensures (slash_dead _ _ (digit_none _ _ c.digit.ensures c.in_default.is)) tt

pub returns : goal.returns
returns c = let d = digit_some _ _ c.digit.ensures _ c.in-Some.is in count_starts _ _ d _ _ _ (slash_digit _ _ d.0) c.still-2.ensures
