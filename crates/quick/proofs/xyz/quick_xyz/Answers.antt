-- `quick::xyz::quick_xyz` meets its contract. Assumes nothing.
use native.Mathlib.Omega.{arith}
use Rattle.quick.proofs.RowLaws.{xyz_row}
use Rattle.quick.proofs.xyz.quick_xyz.Goals as goal

pub returns : goal.returns
returns c = xyz_row _ _ _ _ _ _ _ c.in_ok-atom.ensures c.in_ok-x.ensures c.in_ok-y.ensures c.in_ok-z.ensures c.in_ok-next.ensures (omega arith)
