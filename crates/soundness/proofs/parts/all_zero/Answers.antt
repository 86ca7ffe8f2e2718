-- `soundness::parts::all_zero` meets its contract. Assumes nothing.
use Prim.Native.Nat.{◌/◌}
use native.Mathlib.Omega.{arith}
use lib.ListN.{length}
use Rattle.soundness.proofs.ZeroLaws.{parts_out, parts_rest}
use Rattle.soundness.proofs.parts.all_zero.Goals as goal

pub returns-then-four_zero : goal.returns-then-four_zero
returns-then-four_zero c = let e = parts_rest c.args.part.now (length c.args.part.now / 4) c.four_zero.result c.four_zero.ensures c.each_zero.result c.each_zero.ensures in grind (arith, e)

pub returns-else-four_zero : goal.returns-else-four_zero
returns-else-four_zero c = let e = parts_out c.args.part.now (length c.args.part.now / 4) c.four_zero.result c.four_zero.ensures in grind (arith, e)
