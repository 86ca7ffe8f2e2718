-- `filling::records::fill_values` meets its contract. Assumes nothing.
use native.Mathlib.Omega.{arith}
use Rattle.std.proofs.Common.{rules}
use Rattle.filling.proofs.AtomLaws.{values_none, values_more}
use Rattle.filling.proofs.records.fill_values.Goals as goal

pub loop-i-init : goal.loop-i-init
loop-i-init c = values_none _ _ _ (omega arith) (c.fill.ensures.after (λ y h. h))

pub loop-i-preserved : goal.loop-i-preserved
loop-i-preserved c = values_more _ _ _ _ (omega arith) (search rules) c.loop-i.invariant
