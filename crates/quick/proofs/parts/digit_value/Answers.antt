-- `quick::parts::digit_value` meets its contract. Assumes nothing.
use native.Mathlib.Omega.{arith}
use Rattle.format.proofs.ByteLaws.{digit_bounds}
use Rattle.quick.proofs.parts.digit_value.Goals as goal

pub overflow_sub-byte : goal.overflow_sub-byte
overflow_sub-byte c = (digit_bounds _ c.requires).0

pub returns : goal.returns
returns c = (c.from.ensures, omega (arith, (digit_bounds _ c.requires).1, c.from.ensures))
