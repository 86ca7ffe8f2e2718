-- `numbering::sorted_values` meets its contract. Assumes nothing.
use Prim.Native.Nat.{◌+◌, ◌-◌}
use mathlib.Core.Path.{◌≡◌}
use lib.ListN.{take, drop}
use Rattle.numbering.specs.Numbering.{through}
use Rattle.numbering.proofs.sorted_values.Given as goal

abbrev pub invariant-loop-i : goal.invariant-loop-i
invariant-loop-i l = through l.order 0 (take l.rows (drop 256 l.region)) l.initial.values ≡ through l.order l.i (take (l.rows - l.i) (drop (256 + l.i) l.region)) l.values
