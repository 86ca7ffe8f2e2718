-- `soundness::keyed::records_fine` meets its contract. Assumes nothing.
use mathlib.Core.Path.{◌≡◌}
use mathlib.Core.List.{◌∷◌}
use lib.ListN.{drop}
use lib.Dec.{ltb}
use Rattle.lists.specs.Lists.{rows_from}
use Rattle.lists.specs.Order.{ascends}
use Rattle.soundness.specs.Sounding.{record_key, records_fine}
use Rattle.soundness.proofs.keyed.records_fine.Given as goal

abbrev pub invariant-loop-i : goal.invariant-loop-i
invariant-loop-i l = records_fine l.list.members l.list.low l.list.high l.list.grouped l.list.width l.atoms l.rows (drop l.list.first l.table) ≡ ascends ltb (l.last ∷ drop l.i (rows_from l.list.width (record_key l.list.members l.list.low l.list.high l.list.grouped l.atoms) l.rows (drop l.list.first l.table)))
