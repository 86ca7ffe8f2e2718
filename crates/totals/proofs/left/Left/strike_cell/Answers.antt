-- `totals::Left::strike_cell` meets its contract. Assumes nothing.
use native.Mathlib.Omega.{arith}
use Rattle.totals.proofs.LeftLaws.{takes_none}
use Rattle.totals.proofs.StrikeLaws.{cell_mass, cell_element, cell_own, cell_struck}
use Rattle.totals.proofs.left.Left.strike_cell.Goals as goal

pub returns-then-self-place-clause-held : goal.returns-then-self-place-clause-held
returns-then-self-place-clause-held c = let l = c.args.self.now in cell_mass l.elements l.masses _ _ _ c.if-self-place.true

pub returns-then-self-place-clause-taken : goal.returns-then-self-place-clause-taken
returns-then-self-place-clause-taken c = λ z. takes_none _ _

pub returns-then-self-place-2-clause-held : goal.returns-then-self-place-2-clause-held
returns-then-self-place-2-clause-held c = let l = c.args.self.now in cell_element l.elements l.masses _ _ _ c.if-self-place-2.true

pub returns-then-self-place-2-clause-taken : goal.returns-then-self-place-2-clause-taken
returns-then-self-place-2-clause-taken c = λ z. takes_none _ _

pub returns-clause-held : goal.returns-clause-held
returns-clause-held c = let l = c.args.self.now in cell_own l.elements l.masses _ _ _ c.if-self-place.false c.if-self-place-2.false

pub returns-clause-taken : goal.returns-clause-taken
returns-clause-taken c =
    let l = c.args.self.now in λ z. cell_struck l.elements l.masses _ _ _ c.if-self-place.false c.if-self-place-2.false (omega (arith, l.elements_long)) (omega (arith, l.masses_long)) z l.counts
