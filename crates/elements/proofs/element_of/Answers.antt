-- `elements::element_of` meets its contract. Assumes nothing.
use native.Mathlib.Omega.{arith}
use Rattle.elements.proofs.ElementLaws.{unlettered, one_letter, two_letters}
use Rattle.elements.proofs.element_of.Goals as goal

pub returns-in_default-eq0 : goal.returns-in_default-eq0
returns-in_default-eq0 c = one_letter _ _ _ _ _ c.among.ensures c.in_default-eq0.is-1 c.letter_element.ensures

pub returns-in-65-to-90-97-to-122 : goal.returns-in-65-to-90-97-to-122
returns-in-65-to-90-97-to-122 c =
    two_letters _ _ _ (omega arith) (omega arith) _ _ c.among-in-65-to-90-97-to-122.ensures (omega arith) (omega arith) _ (omega arith) c.entry_at.ensures

pub returns-in_default : goal.returns-in_default
returns-in_default c = let x = c.args in unlettered x.first x.second x.last (omega arith) (λ l h m k. omega arith)

pub returns-in_default-2 : goal.returns-in_default-2
returns-in_default-2 c = let x = c.args in unlettered x.first x.second x.last (omega arith) (λ l h m k. omega arith)

pub returns-in_default-3 : goal.returns-in_default-3
returns-in_default-3 c = let x = c.args in unlettered x.first x.second x.last (omega arith) (λ l h m k. omega arith)

pub returns-in_default-4 : goal.returns-in_default-4
returns-in_default-4 c = let x = c.args in unlettered x.first x.second x.last (omega arith) (λ l h m k. omega arith)
