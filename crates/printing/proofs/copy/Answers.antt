-- `printing::copy` meets its contract. Assumes nothing.
use mathlib.Core.Path.{refl}
use native.Mathlib.Omega.{arith}
use Rattle.printing.proofs.CopyLaws.{copied_more, copied_all}
use Rattle.printing.proofs.copy.Goals as goal

pub loop-i-init : goal.loop-i-init
loop-i-init c = refl

pub loop-i-preserved : goal.loop-i-preserved
loop-i-preserved c = copied_more _ _ _ _ c.loop-i.invariant (omega arith) (omega arith)

pub returns : goal.returns
returns c = copied_all c.args.text.now c.args.part.now _ c.loop-i.i c.loop-i.invariant (omega arith) (omega arith)
