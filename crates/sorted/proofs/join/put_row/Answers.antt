-- `sorted::join::put_row` meets its contract. Assumes nothing.
use native.Mathlib.Omega.{arith}
use lib.ListN.{length-set}
use Rattle.sorted.proofs.GapLaws.{row_stored}
use Rattle.sorted.proofs.join.put_row.Goals as goal

pub returns : goal.returns
returns c = (simp length-set (omega arith), row_stored _ _ _ _ _ _ c.requires.0 c.requires.1 c.open_gap.ensures.1)
