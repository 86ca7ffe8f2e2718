-- `totals::Left::strike` meets its contract. Assumes nothing.
use native.Mathlib.Omega.{arith}
use Rattle.totals.proofs.StrikeLaws.{strike_starts, strike_goes, strike_ends}
use Rattle.totals.proofs.left.Left.strike.Goals as goal

pub loop-place-init : goal.loop-place-init
loop-place-init c = (omega arith, λ h. strike_starts _ _ _)

pub loop-place-preserved : goal.loop-place-preserved
loop-place-preserved c =
    let k = c.strike_cell-owed.ensures in (omega arith, λ h. strike_goes _ _ _ _ _ _ (c.loop-place.invariant.1 h) h c.loop-place.invariant.0 _ _ (omega arith) (omega arith) k.kept.1 k.kept.2 k.held (k.taken h))

pub returns : goal.returns
returns c = λ h. strike_ends _ _ _ _ _ _ (c.loop-place.invariant.1 h) h c.loop-place.invariant.0 (omega arith)
