-- `tally::front_of` meets its contract. Assumes nothing.
use native.Mathlib.Omega.{arith}
use Rattle.tally.proofs.AtomLaws.{front_atom}
use Rattle.tally.proofs.front_of.Goals as goal

pub returns : goal.returns
returns c i b = front_atom c.args.table.now _ i (omega (arith, c.min-end.ensures)) b
