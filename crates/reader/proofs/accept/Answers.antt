-- `reader::accept` meets its contract. Assumes nothing.
use mathlib.Core.Path.{refl}
use Rattle.reader.proofs.LentLaws.{accepts}
use Rattle.reader.proofs.accept.Goals as goal

pub returns : goal.returns
returns c = accepts c.args.block.now c.args.p c.args.scratch.now c.args.table.now c.publish.new.table c.args.positions.now c.fill.new.positions _ _ _ refl refl refl c.factor_from-factor.result c.factor_from-factor.ensures c.fill.ensures (λ k st l b h o. c.publish.ensures.1 k st c.requires.1 c.requires.0 l b h o)
