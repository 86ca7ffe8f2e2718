-- `writer::gather_groups` meets its contract. Assumes nothing.
use native.Mathlib.Omega.{arith}
use Rattle.writer.proofs.SoundLaws.{groups_gathered}
use Rattle.writer.proofs.gather_groups.Goals as goal

pub returns : goal.returns
returns c =
    let g = c.group_atoms in
    record { within = c.gather.ensures.within; holds = groups_gathered c.args.table.now g.new.labels _ _ _ (omega arith) (g.ensures.grouped (omega arith)) c.gather.ensures.holds }
