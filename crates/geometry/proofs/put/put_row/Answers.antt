-- `geometry::put::put_row` meets its contract. Assumes nothing.
use Rattle.geometry.proofs.CellLaws.{put_is}
use Rattle.geometry.proofs.put.put_row.Goals as goal

pub returns : goal.returns
returns c = put_is _ _ _ _ c.wrapping_add_u32-count.ensures.value c.largest_by-largest.ensures
