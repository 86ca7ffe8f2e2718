-- `totals::Left::take` meets its contract. Assumes nothing.
use native.Mathlib.Omega.{arith}
use Rattle.totals.proofs.LeftLaws.{take_light, take_short}
use Rattle.totals.proofs.left.Left.take.Goals as goal

pub returns-then-before-count : goal.returns-then-before-count
returns-then-before-count c =
    let l = c.args.self.now in λ h. record { is = take_short l.counts l.elements l.masses _ _ _ c.if-mass-ne0.false c.if-before-count.true }

pub returns : goal.returns
returns c =
    let l = c.args.self.now in λ h. record { is = take_light l.counts l.elements l.masses _ _ _ c.if-mass-ne0.false (omega (arith, l.counts_long)) c.if-before-count.false }
