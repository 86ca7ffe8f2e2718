-- `texts::fine` meets its contract. Assumes nothing.
use native.Mathlib.Omega.{arith}
use Rattle.texts.proofs.TextSpanLaws.{fine_turn}
use Rattle.texts.proofs.fine.Goals as goal

pub returns-then-text-kept : goal.returns-then-text-kept
returns-then-text-kept c = grind (arith, fine_turn c.args.text.now c.trimmed-kept.result c.trimmed-kept.ensures)

pub returns-else-text-kept : goal.returns-else-text-kept
returns-else-text-kept c = grind (arith, fine_turn c.args.text.now c.trimmed-kept.result c.trimmed-kept.ensures)
