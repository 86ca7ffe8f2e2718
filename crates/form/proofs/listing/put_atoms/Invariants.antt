-- `form::listing::put_atoms` meets its contract. Assumes nothing.
use Prim.Native.Nat.{◌+◌}
use lib.ListN.{drop}
use Rattle.format.specs.Table.{decode}
use Rattle.format.specs.Writing.{print_atoms}
use Rattle.printing.specs.Printing.{Rests}
use Rattle.form.proofs.listing.put_atoms.Given as goal

abbrev pub invariant-loop-i : goal.invariant-loop-i
invariant-loop-i l = Rests l.initial.sheet (print_atoms 1 (decode l.table).atoms) l.sheet (print_atoms (l.i + 1) (drop l.i (decode l.table).atoms))
