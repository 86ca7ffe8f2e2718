-- `printing::next_place` meets its contract. Assumes nothing.
use Rattle.printing.proofs.PrintLaws.{next_in, next_out}
use native.Mathlib.Omega.{arith}
use Rattle.printing.proofs.next_place.Goals as goal

pub returns-then-at-le-BLOCK : goal.returns-then-at-le-BLOCK
returns-then-at-le-BLOCK c = next_in _ (omega arith)

pub returns : goal.returns
returns c = next_out c.args.at (omega arith)
