-- `groups::pointers::join_bonds` meets its contract. Assumes nothing.
use native.Mathlib.Omega.{arith}
use Rattle.groups.proofs.BondLaws.{joins_none, joins_more, place_within, joins_all}
use Rattle.groups.proofs.pointers.join_bonds.Goals as goal

pub loop-i-init : goal.loop-i-init
loop-i-init c = (omega arith, joins_none c.args.table.now _ _ c.requires.0 c.requires.3)

pub join_bond-requires : goal.join_bond-requires
join_bond-requires c = (c.loop-i.invariant.1.0.1, omega (arith, c.loop-i.invariant.1.0.0, c.requires.1), place_within c.args.table.now c.args.bonds c.args.pointers.now _ _ c.loop-i-test.true c.loop-i.invariant.0 c.requires.2 c.bond.ensures)

pub loop-i-preserved : goal.loop-i-preserved
loop-i-preserved c = (omega arith, joins_more c.args.table.now c.args.bonds c.args.pointers.now _ _ c.loop-i.pointers _ c.loop-i-test.true c.loop-i.invariant.0 c.requires.2 c.bond.ensures c.loop-i.invariant.1 c.join_bond.ensures)

pub returns : goal.returns
returns c = joins_all c.args.table.now c.args.bonds c.args.pointers.now _ c.loop-i.pointers c.loop-i-test.false c.loop-i.invariant.1
