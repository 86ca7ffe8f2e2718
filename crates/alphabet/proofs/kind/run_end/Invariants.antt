-- `alphabet::kind::run_end` meets its contract. Assumes nothing.
use Prim.Native.Nat.{◌+◌}
use mathlib.Core.Path.{◌≡◌}
use lib.ListN.{drop}
use Rattle.lists.specs.Lists.{span}
use Rattle.alphabet.proofs.kind.run_end.Given as goal

abbrev pub invariant-loop-i : goal.invariant-loop-i
invariant-loop-i g l = l.at + span g.K.Kind.holds (drop l.at l.line) ≡ l.i + span g.K.Kind.holds (drop l.i l.line)
