-- `coordinates::kept::is_modest` meets its contract. Assumes nothing.
use Rattle.coordinates.proofs.KeptLaws.{modest_by}
use Rattle.coordinates.proofs.kept.is_modest.Goals as goal

pub returns : goal.returns
returns c = rw (c.max-3.ensures, c.max.ensures, c.max-2.ensures) (modest_by c.args.row)
