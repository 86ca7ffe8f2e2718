-- `numbers::digits` meets its contract. Assumes nothing.
use Prim.Native.Nat.{◌^◌, ◌<◌}
use mathlib.Core.Path.{◌≡◌}
use lib.ListN.{drop}
use Rattle.format.specs.Rows.{digits_of, number_from}
use Rattle.numbers.proofs.digits.Given as goal

abbrev pub invariant-loop-d : goal.invariant-loop-d
invariant-loop-d l = (l.n < 10 ^ l.d-index) × (digits_of l.most l.word ≡ number_from l.n (drop l.d-index l.word))
