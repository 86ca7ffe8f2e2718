-- `sorted::join::place_of` meets its contract. Assumes nothing.
use native.Mathlib.Omega.{arith}
use lib.Dec.{ltb}
use Rattle.std.proofs.Common.{◌≤◌, get_or, rules}
use Rattle.std.proofs.lemmas.List.Sorted.{IsPartitionPoint-from_clause}
use Rattle.sorted.proofs.SearchLaws.{rows_counted, rows_parted, rows_between}
use Rattle.sorted.proofs.join.place_of.Goals as goal

pub returns : goal.returns
returns c =
    let counted = rows_counted c.args.region.now c.args.count c.args.key c.requires.0 _ c.as_chunks.ensures.front in
    let few : c.partition_point.result ≤ c.args.count = omega (arith, c.partition_point.ensures.bound, counted) in (
      few,
      λ up. rows_between _ _ _ c.requires.0 _ c.as_chunks.ensures.front _
          (IsPartitionPoint-from_clause (λ r. ltb (get_or r 0 0) c.args.key) _ _ c.partition_point.ensures.partitioned (rows_parted _ _ _ c.requires.0 _ c.as_chunks.ensures.front up) (λ a r q k. search rules)) few,
    )
