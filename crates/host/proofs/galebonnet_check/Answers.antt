-- The check is the reader's. Assumes nothing.
use Rattle.host.proofs.galebonnet_check.Goals as goal

pub returns : goal.returns
returns c = c.check.ensures
