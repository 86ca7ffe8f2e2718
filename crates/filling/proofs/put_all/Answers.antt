-- `filling::put_all` meets its contract. Assumes nothing.
use native.Mathlib.Omega.{arith}
use Rattle.filling.proofs.FillLaws.{placed_none, placed_more}
use Rattle.filling.proofs.put_all.Goals as goal

pub returns-then-part-at : goal.returns-then-part-at
returns-then-part-at c = placed_none _ _ _ (omega arith)

pub loop-i-preserved : goal.loop-i-preserved
loop-i-preserved c = placed_more _ _ _ _ _ _ c.loop-i-test.true c.loop-i.invariant c.put.ensures
