-- `tally::elements::rank_of` meets its contract. Assumes nothing.
use native.Mathlib.Omega.{arith}
use mathlib.Core.Path.{refl}
use Rattle.tally.proofs.RankLaws.{ranks, rank_told}
use Rattle.tally.proofs.elements.rank_of.Goals as goal

pub returns-in-1 : goal.returns-in-1
unfolding ranks
returns-in-1 c = rank_told _ 1 (omega arith) (omega arith) c.in-1.is

pub returns-in-6 : goal.returns-in-6
unfolding ranks
returns-in-6 c = rank_told _ 6 (omega arith) (omega arith) c.in-6.is

pub returns-in-7 : goal.returns-in-7
unfolding ranks
returns-in-7 c = rank_told _ 7 (omega arith) (omega arith) c.in-7.is

pub returns-in-8 : goal.returns-in-8
unfolding ranks
returns-in-8 c = rank_told _ 8 (omega arith) (omega arith) c.in-8.is

pub returns-in_default : goal.returns-in_default
unfolding ranks
returns-in_default c = rw c.from.ensures (rank_told _ c.args.element c.requires.0 c.requires.1 refl)
