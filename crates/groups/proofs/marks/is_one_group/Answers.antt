-- `groups::marks::is_one_group` meets its contract. Assumes nothing.
use Rattle.groups.proofs.MarkLaws.{one}
use Rattle.groups.proofs.marks.is_one_group.Goals as goal

pub returns : goal.returns
returns c = one _ _ c.args.table.now c.requires c.if-table-lt-SIZE.false _ _ (c.fill.ensures.after (λ y e. e)) c.mark_bonds-count.ensures.0 _ _ c.mark_bonds-count.ensures.1 c.if-count-labels.false (c.fill-2.ensures.after (λ y e. e))
