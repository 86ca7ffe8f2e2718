-- Where a line's value starts: each kind of line has its own place. Assumes nothing.
use Rattle.transfer.proofs.LabelTests.{value_told}
use Rattle.transfer.proofs.names.value_at.Goals as goal

pub returns-in-Labelled : goal.returns-in-Labelled
returns-in-Labelled c = value_told _ _ _ c.line_kind.ensures c.in-Labelled.is
