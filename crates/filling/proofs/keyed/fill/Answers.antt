-- `filling::keyed::fill` meets its contract. Assumes nothing.
use Prim.Native.Nat.{◌*◌}
use lib.ListN.{drop}
use native.Mathlib.Omega.{arith}
use Rattle.filling.proofs.FillLaws.{copied_none, copied_more, cell_drop, row_first, record_room}
use Rattle.filling.proofs.keyed.fill.Goals as goal

pub loop-i-init : goal.loop-i-init
loop-i-init g c = copied_none 2 g.row.WIDTH g.L.Keyed.out g.met.L.Keyed.wide _ _ _ _ (omega arith) (c.fill.ensures.after (λ y h. h))

pub loop-i-preserved : goal.loop-i-preserved
loop-i-preserved g c = copied_more 2 g.row.WIDTH g.L.Keyed.out g.met.L.Keyed.wide _ _ _ _ _ _ (record_room _ _ _ (omega arith)) (c.record.ensures (drop (2 * c.loop-i.i) c.args.region.now) (row_first c.loop-i.i _) (cell_drop 0 (2 * c.loop-i.i) 1 _)) c.loop-i.invariant c.put_all.ensures
