-- `groups::pointers::settle` meets its contract. Assumes nothing.
use mathlib.Core.Path.{refl}
use native.Mathlib.Omega.{arith}
use lib.ListN.{length-set}
use Rattle.groups.proofs.PointerLaws.{settled_more, settled_low, settled_all}
use Rattle.groups.proofs.pointers.settle.Goals as goal

pub loop-i-preserved : goal.loop-i-preserved
loop-i-preserved c = let l = c.loop-i in rw c.from-up.ensures (simp length-set (omega arith), settled_more _ _ c.requires _ (omega (arith, c.loop-i-test.true, l.invariant.1.long)) l.invariant.1 _ _ refl refl, settled_low _ _ c.requires _ (omega (arith, c.loop-i-test.true, l.invariant.1.long)) l.invariant.1 _ _ refl refl l.invariant.2)

pub returns : goal.returns
returns c = ((c.loop-i.invariant.1.long, c.loop-i.invariant.2), settled_all _ _ _ (omega (arith, c.loop-i-test.false, c.loop-i.invariant.1.long)) c.loop-i.invariant.1)
