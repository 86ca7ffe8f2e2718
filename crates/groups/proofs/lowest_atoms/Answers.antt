-- `groups::lowest_atoms` meets its contract. Assumes nothing.
use native.Mathlib.Omega.{arith}
use Rattle.groups.proofs.GroupLaws.{started, ended}
use Rattle.groups.proofs.lowest_atoms.Goals as goal

pub join_bonds-requires : goal.join_bonds-requires
join_bonds-requires c =
    started _ _ _ c.stand_alone.ensures (omega (arith, c.requires.0, c.is_one_group.ensures.0)) c.requires.1

pub returns : goal.returns
returns c =
    ended _ _ c.is_one_group.ensures.0 _ _ _ c.settle.new.pointers c.stand_alone.ensures c.join_bonds.ensures c.settle.ensures.0 c.settle.ensures.1
