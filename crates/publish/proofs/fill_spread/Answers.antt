-- `publish::fill_spread` meets its contract. Assumes nothing.
use native.Mathlib.Omega.{arith}
use Rattle.publish.proofs.PublishLaws.{spread_whole}
use Rattle.publish.proofs.fill_spread.Goals as goal

pub returns : goal.returns
returns c = spread_whole c.args.p c.requires.1 c.args.part.now _ _ _ _ c.requires.0 (c.fill_values.ensures.0 (omega arith, omega arith, omega arith)) (c.fill_values-2.ensures.0 (omega arith, omega arith, omega arith))
