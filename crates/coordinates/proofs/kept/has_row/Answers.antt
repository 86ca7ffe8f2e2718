-- `coordinates::kept::has_row` meets its contract. Assumes nothing.
use Rattle.coordinates.proofs.KeptLaws.{row_by}
use Rattle.coordinates.proofs.kept.has_row.Goals as goal

pub returns : goal.returns
returns c = row_by _ _
