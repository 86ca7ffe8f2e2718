-- `soundness::parts::values_fine` meets its contract. Assumes nothing.
use mathlib.Core.Path.{◌≡◌}
use Rattle.soundness.specs.Sounding.{value_fine}
use lib.ListN.{drop}
use Rattle.lists.specs.Lists.{all}
use Rattle.soundness.proofs.parts.values_fine.Given as goal

abbrev pub invariant-loop-value : goal.invariant-loop-value
invariant-loop-value l = all (value_fine l.signed) l.part ≡ all (value_fine l.signed) (drop l.value-index l.part)
