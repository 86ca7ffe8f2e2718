-- `quick::bond::quick_bond` meets its contract. Assumes nothing.
use native.Mathlib.Omega.{arith}
use Rattle.quick.proofs.RowLaws.{bond_row}
use Rattle.quick.proofs.bond.quick_bond.Goals as goal

pub returns : goal.returns
returns c = bond_row _ _ _ _ _ _ c.in_ok-first.ensures c.in_ok-second.ensures c.in_ok-kind.ensures c.in_ok-next.ensures (omega arith)
