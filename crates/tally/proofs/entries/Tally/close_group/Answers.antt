-- `tally::entries::Tally::close_group` meets its contract. Assumes nothing.
use native.Mathlib.Omega.{arith}
use Rattle.tally.proofs.GatherLaws.{closed_none, closed_added}
use Rattle.tally.proofs.entries.Tally.close_group.Goals as goal

pub returns-then-hydrogens-eq0-clause-shows : goal.returns-then-hydrogens-eq0-clause-shows
returns-then-hydrogens-eq0-clause-shows c = closed_none _ _ _ c.if-hydrogens-eq0.true

pub returns-clause-shows : goal.returns-clause-shows
returns-clause-shows c = closed_added c.args.group _ _ c.if-hydrogens-eq0.false _ _ _ (omega (arith, c.from.ensures)) c.find-place.ensures.place c.add.ensures.shows
