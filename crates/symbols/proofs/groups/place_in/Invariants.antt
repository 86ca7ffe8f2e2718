-- `symbols::groups::place_in` meets its contract. Assumes nothing.
use Prim.Native.Nat.{◌+◌}
use mathlib.Core.Path.{◌≡◌}
use lib.ListN.{drop}
use Rattle.format.specs.Rows.{place_in}
use Rattle.symbols.proofs.groups.place_in.Given as goal

abbrev pub invariant-loop-i : goal.invariant-loop-i
invariant-loop-i l = place_in l.first l.word l.letters ≡ place_in (l.first + l.i) l.word (drop l.i l.letters)
