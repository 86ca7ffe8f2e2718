-- `soundness::parts::none_negative` meets its contract. Assumes nothing.
use mathlib.Core.Path.{◌≡◌}
use mathlib.Core.Bool.{not}
use Rattle.cells.specs.Signs.{negative}
use lib.ListN.{drop}
use Rattle.lists.specs.Lists.{all}
use Rattle.soundness.proofs.parts.none_negative.Given as goal

abbrev pub invariant-loop-number : goal.invariant-loop-number
invariant-loop-number l = all (λ z. not (negative z)) l.part ≡ all (λ z. not (negative z)) (drop l.number-index l.part)
