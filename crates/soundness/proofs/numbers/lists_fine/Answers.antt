-- `soundness::numbers::lists_fine` meets its contract. Assumes nothing.
use native.Mathlib.Omega.{arith}
use Rattle.soundness.proofs.RegionTests.{few, charges_up, radicals_up}
use Rattle.soundness.proofs.numbers.lists_fine.Goals as goal

pub list_fine-requires : goal.list_fine-requires
list_fine-requires c = omega (arith, (few _ c.args.headed.fine).bonds)

pub spread_fine-requires : goal.spread_fine-requires
spread_fine-requires c = (omega arith, omega arith, omega arith, (few _ c.args.headed.fine).charges, charges_up _ c.requires)

pub spread_fine-requires-then-spread_fine : goal.spread_fine-requires-then-spread_fine
spread_fine-requires-then-spread_fine c = (omega arith, omega arith, omega arith, (few _ c.args.headed.fine).radicals, radicals_up _ c.requires)

pub list_fine-requires-then-spread_fine-2 : goal.list_fine-requires-then-spread_fine-2
list_fine-requires-then-spread_fine-2 c = omega (arith, (few _ c.args.headed.fine).centres)

pub list_fine-requires-then-list_fine-2 : goal.list_fine-requires-then-list_fine-2
list_fine-requires-then-list_fine-2 c = omega (arith, (few _ c.args.headed.fine).pairs)
