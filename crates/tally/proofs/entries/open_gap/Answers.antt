-- `tally::entries::open_gap` meets its contract. Assumes nothing.
use native.Mathlib.Omega.{arith}
use Rattle.tally.proofs.GapLaws.{opened_start, opened_turn, opened_whole}
use Rattle.tally.proofs.entries.open_gap.Goals as goal

pub loop-i-init : goal.loop-i-init
loop-i-init c = (omega arith, omega arith, opened_start _ _)

pub loop-i-preserved : goal.loop-i-preserved
loop-i-preserved c = (omega arith, omega arith, opened_turn _ _ _ _ _ (omega arith) c.loop-i.invariant.1 (omega arith) c.loop-i.invariant.2)

pub returns : goal.returns
returns c = opened_whole _ _ _ _ _ (omega arith) c.loop-i.invariant.2
