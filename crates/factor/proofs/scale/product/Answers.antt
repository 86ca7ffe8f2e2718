-- `factor::scale::product` meets its contract. Assumes nothing.
use Rattle.factor.proofs.QuotientLaws.{lowered_held, product_held, product_read}
use Rattle.factor.proofs.scale.product.Goals as goal

pub overflow_sub-result : goal.overflow_sub-result
overflow_sub-result c = rw c.from.ensures (lowered_held _ c.requires)

pub overflow_mul-result : goal.overflow_mul-result
overflow_mul-result c = rw (c.from.ensures, c.from-2.ensures) (product_held _ c.requires _ c.ranges.digits.fits)

pub returns : goal.returns
returns c = rw (c.from.ensures, c.from-2.ensures) (product_read _ c.requires _ c.ranges.digits.fits)
