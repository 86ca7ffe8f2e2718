-- `spelling::put_mass` meets its contract. Assumes nothing.
use Rattle.printing.proofs.PrintLaws.{printed_none, printed_then, printed_as}
use Rattle.spelling.proofs.SpellLaws.{mass_none, mass_some}
use Rattle.spelling.proofs.put_mass.Goals as goal

pub returns-then-mass-ne0 : goal.returns-then-mass-ne0
returns-then-mass-ne0 c = printed_as (mass_some _ c.if-mass-ne0.true) (printed_then c.byte.ensures c.number.ensures)

pub returns-else-mass-ne0 : goal.returns-else-mass-ne0
returns-else-mass-ne0 c = printed_as (mass_none _ c.if-mass-ne0.false) printed_none
