-- `spread::is_ranged` meets its contract. Assumes nothing.
use Rattle.std.proofs.Common.{rules}
use Rattle.format.specs.Structure.{ranged, ranging}
use Rattle.format.specs.Bytes.{within}
use Rattle.spread.proofs.is_ranged.Goals as goal

pub returns-in-minus99-to-minus1 : goal.returns-in-minus99-to-minus1
unfolding ranged ranging within
returns-in-minus99-to-minus1 c = search rules

pub returns-in-minus99-to-minus1-2 : goal.returns-in-minus99-to-minus1-2
unfolding ranged ranging within
returns-in-minus99-to-minus1-2 c = search rules

pub returns-in_default : goal.returns-in_default
unfolding ranged ranging within
returns-in_default c = search rules

pub returns-in_default-2 : goal.returns-in_default-2
unfolding ranged ranging within
returns-in_default-2 c = search rules

pub returns-in_default-3 : goal.returns-in_default-3
unfolding ranged ranging within
returns-in_default-3 c = search rules

pub returns-in-1-to-15 : goal.returns-in-1-to-15
unfolding ranged ranging within
returns-in-1-to-15 c = search rules

pub returns-in_default-matches : goal.returns-in_default-matches
unfolding ranged ranging within
returns-in_default-matches c = search rules

pub returns-in_default-matches-2 : goal.returns-in_default-matches-2
unfolding ranged ranging within
returns-in_default-matches-2 c = search rules
