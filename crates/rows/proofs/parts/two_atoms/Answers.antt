-- `rows::parts::two_atoms` meets its contract. Assumes nothing.
use Rattle.rows.proofs.PartLaws.{two_first, two_second, two_are}
use Rattle.rows.proofs.parts.two_atoms.Goals as goal

pub returns-in_err-first : goal.returns-in_err-first
returns-in_err-first c = rw c.from_residual.ensures (two_first _ c.in_err-first.ensures)

pub returns-in_err-second : goal.returns-in_err-second
returns-in_err-second c = rw c.from_residual-in_err-second.ensures (two_second _ _ c.in_ok-first.ensures c.in_err-second.ensures)

pub returns : goal.returns
returns c = two_are _ _ c.in_ok-first.ensures _ c.in_ok-second.ensures
