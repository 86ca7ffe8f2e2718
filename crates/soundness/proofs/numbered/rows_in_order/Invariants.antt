-- `soundness::numbered::rows_in_order` meets its contract. Assumes nothing.
use Prim.Native.Nat.{◌≤◌}
use mathlib.Core.Path.{◌≡◌}
use lib.ListN.{drop}
use Rattle.soundness.specs.Numbered.{column_of, in_turn}
use Rattle.soundness.proofs.numbered.rows_in_order.Given as goal

abbrev pub invariant-loop-i : goal.invariant-loop-i
invariant-loop-i l = (l.met ≤ l.i) × (in_turn 0 l.rows (column_of l.column l.atoms l.table) ≡ in_turn l.met l.rows (drop l.i (column_of l.column l.atoms l.table)))
