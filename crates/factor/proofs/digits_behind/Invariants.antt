-- `factor::digits_behind` meets its contract. Assumes nothing.
use Prim.Native.Nat.{◌+◌, ◌-◌, ◌^◌, ◌<◌}
use mathlib.Core.Path.{◌≡◌}
use lib.ListN.{length, drop}
use Rattle.format.specs.Rows.{number_from}
use Rattle.factor.proofs.digits_behind.Given as goal

abbrev pub invariant-loop-d : goal.invariant-loop-d
invariant-loop-d l = (l.n < 10 ^ (9 - length l.part + l.d-index)) × (number_from l.before l.part ≡ number_from l.n (drop l.d-index l.part))
