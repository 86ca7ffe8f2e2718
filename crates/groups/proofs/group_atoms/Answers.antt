-- `groups::group_atoms` meets its contract. Assumes nothing.
use Rattle.groups.proofs.GroupLaws.{grouped}
use Rattle.groups.proofs.group_atoms.Goals as goal

pub returns : goal.returns
returns c =
    let g = grouped c.args.table.now c.args.labels.now c.lowest_atoms.new.labels _ _ c.count_at-atoms.ensures c.count_at-bonds.ensures.0 c.if-labels-lt-ATOMS.false c.lowest_atoms.ensures in
    record { few = g.0; grouped = g.1 }
