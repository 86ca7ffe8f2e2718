-- `totals::Left::strike` meets its contract. Assumes nothing.
use Prim.Native.Nat.{◌<◌, ◌≤◌}
use Rattle.format.specs.Structure.{isotope_of}
use Rattle.totals.proofs.StrikeLaws.{Striking}
use Rattle.totals.proofs.left.Left.strike.Given as goal

abbrev pub invariant-loop-place : goal.invariant-loop-place
invariant-loop-place l = (l.owed ≤ l.count) × (0 < l.mass → Striking l.initial.self (isotope_of l.element l.mass) l.count l.self l.owed l.place)
