-- `spelling::put_symbol` meets its contract. Assumes nothing.
use Rattle.printing.proofs.PrintLaws.{printed_as}
use Rattle.spelling.proofs.SpellLaws.{deuterium, tritium, plain}
use Rattle.spelling.proofs.put_symbol.Goals.{in_default-via-in-1+in_default, in_default-via-in_default}
use Rattle.spelling.proofs.put_symbol.Goals as goal

pub returns-in-1-eq2 : goal.returns-in-1-eq2
returns-in-1-eq2 c = printed_as (deuterium _ _ c.in-1-eq2.is-0 c.in-1-eq2.is-1) c.byte.ensures

pub returns-in-1-eq3 : goal.returns-in-1-eq3
returns-in-1-eq3 c = printed_as (tritium _ _ c.in-1-eq3.is-0 c.in-1-eq3.is-1) c.byte-in-1-eq3.ensures

pub returns-in_default : goal.returns-in_default
returns-in_default c = elim c.in_default.branch [
  | in_default-via-in-1+in_default w ↦ printed_as (plain _ _ (λ _. (w.in_default.is-1.0.1, w.in_default.is-1.1))) c.put_plain.ensures
  | in_default-via-in_default w ↦ printed_as (plain _ _ (λ e. absurd (w.in_default.is-0.1 e))) c.put_plain.ensures
]
