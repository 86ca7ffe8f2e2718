-- `numbers::number` meets its contract. Assumes nothing.
use Rattle.std.proofs.Common.{rules}
use Rattle.format.specs.Rows.{number}
use Rattle.numbers.proofs.number.Goals as goal

pub returns-clause-says : goal.returns-clause-says
unfolding number
returns-clause-says c = search rules
