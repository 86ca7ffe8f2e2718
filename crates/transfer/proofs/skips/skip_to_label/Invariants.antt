-- The next line that is looked at: what is left to skip is by the laws of `skipped` at an index. Assumes nothing.
use Prim.Native.Nat.{◌+◌}
use mathlib.Core.Path.{◌≡◌}
use mathlib.Core.Bool.{true}
use lib.ListN.{drop}
use Rattle.transfer.specs.Skipping.{skipped, fresh_at}
use Rattle.transfer.proofs.skips.skip_to_label.Given as goal

abbrev pub invariant-loop-i : goal.invariant-loop-i
invariant-loop-i g l = l.at + skipped g.K.Kind.holds true (drop l.at l.file) ≡ l.i + skipped g.K.Kind.holds (fresh_at l.file l.at l.i) (drop l.i l.file)
