-- `coordinates::fill::fill` meets its contract. Assumes nothing.
use mathlib.Core.Path.{◌≡◌}
use mathlib.Core.List.{◌++◌}
use lib.ListN.{drop}
use Rattle.factor.specs.ShownFactors.{factor_of}
use Rattle.coordinates.specs.KeptRows.{rows_in}
use Rattle.coordinates.specs.Filled.{scaled_table}
use Rattle.coordinates.proofs.fill.fill.Given as goal

abbrev pub invariant-loop-index : goal.invariant-loop-index
invariant-loop-index l = l.positions ≡ scaled_table (factor_of l.factor) (rows_in l.index l.store) ++ drop 1024 l.initial.positions
