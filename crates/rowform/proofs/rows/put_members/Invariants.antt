-- `rowform::rows::put_members` meets its contract. Assumes nothing.
use Prim.Native.Nat.{◌+◌}
use lib.ListN.{drop}
use Rattle.format.specs.Table.{atom_records}
use Rattle.printing.specs.Printing.{Rests}
use Rattle.rowform.proofs.RowLaws.{members_text}
use Rattle.rowform.proofs.rows.put_members.Given as goal

abbrev pub invariant-loop-i : goal.invariant-loop-i
invariant-loop-i l = Rests l.initial.sheet (members_text l.which l.j 1 (atom_records l.table)) l.sheet (members_text l.which l.j (l.i + 1) (drop l.i (atom_records l.table)))
