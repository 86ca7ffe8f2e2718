-- `gather::runs::bond_run` meets its contract. Assumes nothing.
use borrow.Author.Rules.{rules}
use Rattle.quick.specs.Quick.{BondIs}
use Rattle.gather.proofs.RunLaws.{some_is, kept_is, left_is, bonds_more, bonds_long, bonds_stay}
use Rattle.gather.proofs.runs.bond_run.Goals as goal

pub returns-in_default-joined : goal.returns-in_default-joined
returns-in_default-joined c = bonds_stay _ _ _ _ _ _ _ _ (left_is _ _ _ _ c.in_default-joined.is c.bond_joined-joined.ensures.1) c.loop-place.invariant.1

pub loop-place-preserved : goal.loop-place-preserved
loop-place-preserved c =
    let row = some_is (BondIs c.args.block.now c.loop-place.place) _ _ c.in-Some.is c.quick_bond.ensures in
    let s = c.bond_joined-joined.ensures.2 (bonds_long c.loop-place.scratch (search rules)) c.loop-place.invariant.0 c.if-atoms-gt-ATOMS.false row.small in
    let few = kept_is _ _ _ c.in-Ok.is s.0 in (few, bonds_more _ _ _ _ _ _ _ _ c.loop-place.invariant.1 _ row _ _ s.1 _ c.in-Ok.is c.loop-place.invariant.0 few)
