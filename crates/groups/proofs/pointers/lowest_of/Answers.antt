-- `groups::pointers::lowest_of` meets its contract. Assumes nothing.
use mathlib.Core.Path.{refl}
use Rattle.groups.proofs.PointerLaws.{follow_on, follow_end}
use Rattle.groups.proofs.pointers.lowest_of.Goals as goal

pub loop-up-preserved : goal.loop-up-preserved
loop-up-preserved c = rw c.from-up-in-loop-up.ensures (rw c.from-at.ensures (follow_on _ _ _ _ _ c.loop-up.invariant c.loop-up-test.true _ refl _ refl))

pub returns : goal.returns
returns c = follow_end _ _ _ _ _ c.loop-up.invariant c.loop-up-test.false
