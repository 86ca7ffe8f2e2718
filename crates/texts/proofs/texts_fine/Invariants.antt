-- `texts::texts_fine` meets its contract. Assumes nothing.
use mathlib.Core.Path.{◌≡◌}
use lib.ListN.{drop}
use Rattle.lists.specs.Lists.{all}
use Rattle.format.specs.Table.{spans_of, text_ok}
use Rattle.texts.proofs.texts_fine.Given as goal

abbrev pub invariant-loop-index : goal.invariant-loop-index
invariant-loop-index l = all (text_ok l.bytes) (spans_of l.table) ≡ all (text_ok l.bytes) (drop l.index (spans_of l.table))
