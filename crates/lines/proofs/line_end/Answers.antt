-- `lines::line_end` meets its contract. Assumes nothing.
use Prim.Native.Nat.{◌+◌}
use mathlib.Core.Path.{◌≡◌, sym, ◌∙◌}
use native.Mathlib.Omega.{arith}
use lib.ListN.{length, drop}
use Rattle.format.specs.Bytes.{line_len}
use Rattle.lines.proofs.LineLaws.{at_top, ends}
use Rattle.format.proofs.CutLaws.{len_at_hit, len_at_miss, len_at_end}
use Rattle.lines.proofs.line_end.Goals as goal

pub loop-i-init : goal.loop-i-init
loop-i-init c = c.plain_to-from.ensures.0

pub returns-then-block-i-eq10 : goal.returns-then-block-i-eq10
returns-then-block-i-eq10 c = ends _ _ _ (sym (c.loop-i.invariant ∙ len_at_hit _ _ (search arith) c.if-block-i-eq10.true))

pub loop-i-preserved : goal.loop-i-preserved
loop-i-preserved c = c.loop-i.invariant ∙ len_at_miss _ _ (search arith) c.if-block-i-eq10.false

pub returns : goal.returns
returns c =
    let k = at_top (λ n. c.args.at + line_len (drop c.args.at c.args.block.now) ≡ n + line_len (drop n c.args.block.now)) c.plain_to-from.result (length c.args.block.now) c.loop-i.i c.plain_to-from.ensures.0 c.loop-i.invariant c.loop-i.auto.i-end c.loop-i-test.false in
    rw c.max.ensures (ends _ _ _ (sym (k ∙ len_at_end _ _ (omega arith))))
