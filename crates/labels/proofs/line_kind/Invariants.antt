-- `labels::line_kind` meets its contract. Assumes nothing.
use mathlib.Core.Path.{◌≡◌}
use lib.ListN.{drop}
use Rattle.format.specs.Labels.{line_of, parts}
use Rattle.labels.proofs.LabelLaws.{onward}
use Rattle.labels.proofs.line_kind.Given as goal

abbrev pub invariant-loop-i : goal.invariant-loop-i
invariant-loop-i l = line_of l.line ≡ onward l.key (parts (drop l.i l.line))
