-- `groups::marks::mark_bonds` meets its contract. Assumes nothing.
use mathlib.Core.Path.{refl}
use native.Mathlib.Omega.{arith}
use Rattle.groups.proofs.MarkLaws.{flag_is, flag_most, marks_none, marks_more}
use Rattle.groups.proofs.marks.mark_bonds.Goals as goal

pub loop-i-init : goal.loop-i-init
loop-i-init c = (omega arith, marks_none c.args.rows.now _ _, omega arith, omega arith)

pub loop-i-preserved : goal.loop-i-preserved
loop-i-preserved c =
    let b = c.mark_bond.ensures in
    let flag = c.from-count.ensures in (
      omega arith,
      marks_more c.args.rows.now c.args.bonds c.args.marks.now _ _ c.loop-i.marks _ c.loop-i-test.true c.loop-i.invariant.0 refl c.loop-i.invariant.1 b.0,
      omega (arith, b.1, flag, flag_is c.mark_bond.result, c.loop-i.invariant.2),
      omega (arith, flag, flag_most c.mark_bond.result, c.loop-i.invariant.3, c.loop-i-test.true),
    )
