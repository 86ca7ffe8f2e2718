-- The next line that is looked at: what is left to skip is by the laws of `skipped` at an index. Assumes nothing.
use mathlib.Core.Path.{◌≡◌, sym, ◌∙◌}
use mathlib.Core.Bool.{true}
use native.Mathlib.Omega.{arith}
use Prim.Native.Nat.{◌+◌}
use lib.ListN.{length, drop}
use Rattle.lines.proofs.LineLaws.{at_top}
use Rattle.transfer.specs.Skipping.{skipped, fresh_at}
use Rattle.transfer.proofs.SkipLaws.{skip_start, skip_at_hit, skip_at_miss, skip_at_end}
use Rattle.transfer.proofs.skips.skip_to_label.Goals as goal

pub loop-i-init : goal.loop-i-init
loop-i-init g c = skip_start _ _ _

pub returns-then-starts_at : goal.returns-then-starts_at
returns-then-starts_at g c = sym (c.loop-i.invariant ∙ skip_at_hit _ _ _ _ c.loop-i-test.true (sym c.starts_at.ensures ∙ c.if-starts_at.true))

pub loop-i-preserved : goal.loop-i-preserved
loop-i-preserved g c = c.loop-i.invariant ∙ skip_at_miss _ _ _ _ c.loop-i.auto.i c.loop-i-test.true (sym c.starts_at.ensures ∙ c.if-starts_at.false)

pub returns : goal.returns
returns g c =
    let kind = g.K.Kind.holds in
    let s = c.args.file.now in
    let from = c.args.at in
    let k = at_top (λ n. from + skipped kind true (drop from s) ≡ n + skipped kind (fresh_at s from n) (drop n s)) from (length s) c.loop-i.i (skip_start kind s from) c.loop-i.invariant c.loop-i.auto.i-end c.loop-i-test.false in
    c.max.ensures ∙ sym (k ∙ skip_at_end _ _ _ _ (omega arith))
