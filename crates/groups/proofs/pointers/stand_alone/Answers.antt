-- `groups::pointers::stand_alone` meets its contract. Assumes nothing.
use native.Mathlib.Omega.{arith}
use Rattle.groups.proofs.PointerLaws.{alone_all}
use Rattle.groups.proofs.pointers.stand_alone.Goals as goal

pub returns : goal.returns
returns c = alone_all _ _ _ (omega (arith, c.loop-i-test.false, c.loop-i.invariant.1)) c.loop-i.invariant.1 c.loop-i.invariant.2
