-- `geometry::run::xyz_run` meets its contract. Assumes nothing.
use Rattle.geometry.proofs.RunLaws.{xyz_more}
use Rattle.geometry.proofs.run.xyz_run.Goals as goal

pub loop-quick-preserved : goal.loop-quick-preserved
loop-quick-preserved c =
    let l = c.loop-quick.invariant in
    xyz_more _ _ _ _ _ _ _ _ l.0 l.1 _ c.in-Some.ensures c.if-atoms-row.false c.if-row-region.false _ _ c.put_row.ensures c.keep.ensures
