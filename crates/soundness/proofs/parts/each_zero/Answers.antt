-- `soundness::parts::each_zero` meets its contract. Assumes nothing.
use Prim.Native.Nat.{◌<◌, ◌^◌}
use mathlib.Core.Path.{sym, ◌∙◌}
use lib.ListN.{get_or}
use lib.IntN.{pos}
use lib.Signed.{mag}
use Rattle.std.proofs.Common.{rules}
use Rattle.soundness.proofs.TestLaws.{bits_of, unused_whole, zeros_kept, zeros_end}
use Rattle.soundness.proofs.parts.each_zero.Goals as goal

pub loop-number-init : goal.loop-number-init
loop-number-init c = unused_whole _ 0

pub loop-number-preserved : goal.loop-number-preserved
loop-number-preserved c =
    let l = c.loop-number in
    let b : mag (get_or c.args.part.now l.number-index (pos 0)) < 2 ^ 31 = search rules in
    l.invariant ∙ zeros_kept c.args.part.now _ c.loop-number-test.true l.any-bits l.auto.any b

pub returns : goal.returns
returns c = let l = c.loop-number in sym (l.invariant ∙ zeros_end c.args.part.now _ c.loop-number-test.false _ ∙ bits_of l.any-bits l.auto.any)
