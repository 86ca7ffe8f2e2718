-- `soundness::parts::four_zero` meets its contract. Assumes nothing.
use Prim.Native.Nat.{◌<◌, ◌^◌}
use mathlib.Core.Path.{sym, ◌∙◌}
use lib.Signed.{mag}
use Rattle.std.proofs.Common.{rules}
use Rattle.soundness.specs.Sounding.{number_at}
use Rattle.soundness.proofs.ZeroLaws.{four_whole, four_kept, four_end}
use Rattle.soundness.proofs.TestLaws.{bits_of}
use Rattle.soundness.proofs.parts.four_zero.Goals as goal

pub loop-i-init : goal.loop-i-init
loop-i-init c = four_whole _ _ _ _

pub loop-i-preserved : goal.loop-i-preserved
loop-i-preserved c =
    let a = c.args in
    let i = c.loop-i.i in
    let e : mag (number_at a.first.now i) < 2 ^ 31 = search rules in
    let f : mag (number_at a.second.now i) < 2 ^ 31 = search rules in
    let g : mag (number_at a.third.now i) < 2 ^ 31 = search rules in
    let h : mag (number_at a.fourth.now i) < 2 ^ 31 = search rules in
    c.loop-i.invariant ∙ four_kept a.first.now a.second.now a.third.now a.fourth.now _ _ c.requires.0 c.requires.1 c.requires.2 c.requires.3 c.loop-i-test.true c.loop-i.any-bits c.loop-i.auto.any e f g h

pub returns : goal.returns
returns c = sym (c.loop-i.invariant ∙ four_end c.args.first.now c.args.second.now c.args.third.now c.args.fourth.now _ _ c.requires.0 c.requires.1 c.requires.2 c.requires.3 c.loop-i-test.false _ ∙ bits_of c.loop-i.any-bits c.loop-i.auto.any)
