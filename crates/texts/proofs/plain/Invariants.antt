-- `texts::plain` meets its contract. Assumes nothing.
use mathlib.Core.Path.{◌≡◌}
use lib.ListN.{drop}
use Rattle.texts.specs.Spans.{plain_text}
use Rattle.texts.proofs.plain.Given as goal

abbrev pub invariant-loop-at : goal.invariant-loop-at
invariant-loop-at l = plain_text l.text ≡ plain_text (drop l.at l.text)
