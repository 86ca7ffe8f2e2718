-- `soundness::parts::each_zero` meets its contract. Assumes nothing.
use mir.Syntax.{w32}
use mir.Val.{of_z}
use mathlib.Core.Path.{◌≡◌}
use mathlib.Core.Bool.{◌&&◌}
use lib.ListN.{drop}
use lib.Dec.{eqb}
use Rattle.lists.specs.Lists.{all}
use Rattle.format.specs.Structure.{ranging}
use Rattle.soundness.specs.Sounding.{unused}
use Rattle.soundness.proofs.parts.each_zero.Given as goal

abbrev pub invariant-loop-number : goal.invariant-loop-number
invariant-loop-number l = unused l.part ≡ (eqb (of_z w32 l.any) 0 && all (ranging 0 0) (drop l.number-index l.part))
