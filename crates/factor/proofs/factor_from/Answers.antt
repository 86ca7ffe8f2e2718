-- `factor::factor_from` meets its contract. Assumes nothing.
use Rattle.factor.proofs.FactorLaws.{digits_exact, from_is}
use Rattle.factor.proofs.factor_from.Goals as goal

pub quotient-value-requires : goal.quotient-value-requires
quotient-value-requires c = rw c.from.ensures (digits_exact _ c.ranges.digits.fits)

pub returns : goal.returns
returns c = let e = c.quotient-value.ensures in from_is _ _ _ c.ranges.digits.fits (rw c.from.ensures at e)
