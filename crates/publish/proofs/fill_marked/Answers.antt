-- `publish::fill_marked` meets its contract. Assumes nothing.
use native.Mathlib.Omega.{arith}
use Rattle.publish.proofs.PublishLaws.{marked_whole}
use Rattle.publish.proofs.fill_marked.Goals as goal

pub returns : goal.returns
returns c = marked_whole c.args.p c.requires.1 c.args.part.now _ _ c.args.scratch.now c.requires.0 (c.fill_centres.ensures.0 (omega arith, omega arith, omega arith)) (c.fill_pairs.ensures.0 (omega arith, omega arith, omega arith))
