-- `publish::put_structure` meets its contract. Assumes nothing.
use native.Mathlib.Omega.{arith}
use Rattle.publish.proofs.PublishLaws.{from_nothing, publishes}
use Rattle.publish.proofs.put_structure.Goals as goal

pub returns : goal.returns
returns c =
    publishes c.args.table.now _ _ _ c.args.p c.args.scratch.now _ _ _ _ (omega arith) c.requires.1
    (from_nothing c.nothing-charges.ensures.0 c.nothing-charges.ensures.1 c.number.ensures) (from_nothing c.nothing-radicals.ensures.0 c.nothing-radicals.ensures.1 c.number-2.ensures) c.fill_table.ensures
