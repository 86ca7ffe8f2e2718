-- `lines::clean_end` meets its contract: where the line ends and whether its bytes are allowed stay the same from byte to byte. Assumes nothing.
use mathlib.Core.Path.{sym, ◌∙◌}
use native.Mathlib.Omega.{arith}
use lib.ListN.{length}
use borrow.Author.Tests.{le-leb}
use Rattle.lines.specs.Looks.{Looking}
use Rattle.lines.proofs.LineLaws.{at_top, looked_all, looked_feed, looked_wrong, looks_on, looks_past}
use Rattle.lines.proofs.clean_end.Goals as goal

pub loop-i-init : goal.loop-i-init
loop-i-init c = c.plain_to-from.ensures

pub loop-i-preserved-then-b-le126 : goal.loop-i-preserved-then-b-le126
loop-i-preserved-then-b-le126 c = looks_past _ _ _ c.loop-i.invariant (search arith) c.if-b-ge32.true (le-leb _ _ c.if-b-le126.true)

pub returns-then-b-eq10 : goal.returns-then-b-eq10
returns-then-b-eq10 c = looked_feed _ _ _ c.loop-i.invariant (search arith) c.if-b-eq10.true

pub returns-then-not-is_allowed : goal.returns-then-not-is_allowed
returns-then-not-is_allowed c = looked_wrong _ _ _ c.loop-i.invariant (search arith) c.if-b-eq10.false (sym c.is_allowed.ensures ∙ c.if-not-is_allowed.true)

pub loop-i-preserved : goal.loop-i-preserved
loop-i-preserved c = looks_on _ _ _ c.loop-i.invariant (search arith) c.if-b-eq10.false (sym c.is_allowed.ensures ∙ c.if-not-is_allowed.false)

pub returns : goal.returns
returns c =
    let k = at_top (Looking c.args.block.now c.args.at) c.plain_to-from.result (length c.args.block.now) c.loop-i.i c.plain_to-from.ensures c.loop-i.invariant c.loop-i.auto.i-end c.loop-i-test.false in
    rw c.max.ensures (looked_all _ _ _ k (omega arith))
