-- `totals::all_zero` meets its contract. Assumes nothing.
use mathlib.Core.Path.{◌≡◌}
use mathlib.Core.Bool.{◌&&◌}
use lib.ListN.{drop}
use Rattle.lists.specs.Lists.{all}
use Rattle.totals.specs.Left.{is_zero}
use Rattle.totals.proofs.all_zero.Given as goal

abbrev pub invariant-loop-cell : goal.invariant-loop-cell
invariant-loop-cell l = all is_zero l.cells ≡ (is_zero l.seen && all is_zero (drop l.cell-index l.cells))
