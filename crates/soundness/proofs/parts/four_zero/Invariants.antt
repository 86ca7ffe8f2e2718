-- `soundness::parts::four_zero` meets its contract. Assumes nothing.
use mir.Syntax.{w32}
use mir.Val.{of_z}
use mathlib.Core.Path.{◌≡◌}
use mathlib.Core.Bool.{◌&&◌}
use lib.Dec.{eqb}
use Rattle.soundness.specs.Sounding.{unused}
use Rattle.soundness.proofs.ZeroLaws.{four_zeros}
use Rattle.soundness.proofs.parts.four_zero.Given as goal

abbrev pub invariant-loop-i : goal.invariant-loop-i
invariant-loop-i l = (unused l.first && (unused l.second && (unused l.third && unused l.fourth))) ≡ (eqb (of_z w32 l.any) 0 && four_zeros l.first l.second l.third l.fourth l.i)
