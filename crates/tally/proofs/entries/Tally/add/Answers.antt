-- `tally::entries::Tally::add` meets its contract. Assumes nothing.
use Rattle.tally.proofs.AddLaws.{raised_at, add_put}
use Rattle.tally.proofs.entries.Tally.add.Goals as goal

pub returns-then-stands_at-clause-shows : goal.returns-then-stands_at-clause-shows
returns-then-stands_at-clause-shows c =
    raised_at c.self.inside.entries c.self.inside.count c.args.self.now c.args.place c.args.key c.args.more c.self.view_is c.stands_at.result c.stands_at.ensures c.if-stands_at.true

pub returns-clause-shows : goal.returns-clause-shows
returns-clause-shows c = rw c.insert.ensures (add_put _ _ _ _ _ c.stands_at.ensures c.if-stands_at.false c.requires.0)
