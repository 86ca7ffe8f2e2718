-- `groups::pointers::join` meets its contract. Assumes nothing.
use Rattle.groups.proofs.PointerLaws.{join_lower, join_higher, join_same}
use Rattle.groups.proofs.pointers.join.Goals as goal

pub returns-then-a-b : goal.returns-then-a-b
returns-then-a-b c = join_lower _ _ _ _ _ _ _ c.lowest_of-a.ensures c.lowest_of-b.ensures c.if-a-b.true

pub returns-then-b-a : goal.returns-then-b-a
returns-then-b-a c = join_higher _ _ _ _ _ _ _ c.lowest_of-a.ensures c.lowest_of-b.ensures c.if-b-a.true

pub returns-else-b-a : goal.returns-else-b-a
returns-else-b-a c = join_same _ _ _ _ _ _ _ c.lowest_of-a.ensures c.lowest_of-b.ensures c.if-a-b.false c.if-b-a.false
