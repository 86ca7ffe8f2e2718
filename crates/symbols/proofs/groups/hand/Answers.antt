-- `symbols::groups::hand` meets its contract. Assumes nothing.
use Rattle.format.specs.Bytes.{bytes}
use Rattle.symbols.proofs.groups.hand.Goals as goal

pub returns-clause-says : goal.returns-clause-says
unfolding bytes
returns-clause-says c = c.place_in.ensures.says
