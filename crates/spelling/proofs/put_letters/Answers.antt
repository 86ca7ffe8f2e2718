-- `spelling::put_letters` meets its contract. Assumes nothing.
use Rattle.printing.proofs.PrintLaws.{printed_then, printed_as}
use Rattle.spelling.proofs.SpellLaws.{letter_one, letter_two}
use Rattle.spelling.proofs.put_letters.Goals as goal

pub returns-then-letters-ne0 : goal.returns-then-letters-ne0
returns-then-letters-ne0 c = printed_as (letter_two _ _ c.if-letters-ne0.true) (printed_then c.byte.ensures c.byte-then-letters-ne0.ensures)

pub returns-else-letters-ne0 : goal.returns-else-letters-ne0
returns-else-letters-ne0 c = printed_as (letter_one _ _ c.if-letters-ne0.false) c.byte.ensures
