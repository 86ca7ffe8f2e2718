-- `soundness::keyed::records_fine` meets its contract. Assumes nothing.
use Prim.Native.Nat.{◌*◌, ◌≤◌}
use mathlib.Core.Path.{refl}
use native.Mathlib.Nat.{mul-le-mul_left}
use native.Mathlib.Omega.{arith}
use Rattle.soundness.specs.Sounding.{record_key}
use Rattle.soundness.proofs.TestLaws.{records_is, keys_turn, keys_end}
use Rattle.soundness.proofs.keyed.records_fine.Goals as goal

pub loop-i-init : goal.loop-i-init
loop-i-init c = let s = c.args.list in records_is c.args.table.now s.first s.members s.low s.high s.grouped s.width c.args.atoms c.args.rows

pub overflow_mul-at : goal.overflow_mul-at
overflow_mul-at c = let k : c.args.list.width * c.loop-i.i ≤ c.args.list.width * c.args.rows = mul-le-mul_left c.args.list.width (omega arith) in omega (arith, c.args.list.inside)

pub overflow_add-at : goal.overflow_add-at
overflow_add-at c = let k : c.args.list.width * c.loop-i.i ≤ c.args.list.width * c.args.rows = mul-le-mul_left c.args.list.width (omega arith) in omega (arith, c.args.list.inside)

pub returns-then-key-last : goal.returns-then-key-last
returns-then-key-last c = let s = c.args.list in let i = c.loop-i.i in
    grind (arith, c.loop-i.invariant, keys_turn c.args.table.now c.told-table s.first s.width c.args.rows i c.loop-i-test.true _ refl (record_key s.members s.low s.high s.grouped c.args.atoms) c.loop-i.last)

pub loop-i-preserved : goal.loop-i-preserved
loop-i-preserved c = let s = c.args.list in let i = c.loop-i.i in
    grind (arith, c.loop-i.invariant, keys_turn c.args.table.now c.told-table s.first s.width c.args.rows i c.loop-i-test.true _ refl (record_key s.members s.low s.high s.grouped c.args.atoms) c.loop-i.last)

pub returns : goal.returns
returns c = let s = c.args.list in grind (arith, c.loop-i.invariant, keys_end c.args.table.now s.first s.width c.args.rows c.loop-i.i c.loop-i-test.false (record_key s.members s.low s.high s.grouped c.args.atoms) c.loop-i.last)
