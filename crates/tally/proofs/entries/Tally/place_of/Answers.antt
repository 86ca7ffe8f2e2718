-- `tally::entries::Tally::place_of` meets its contract. Assumes nothing.
use mathlib.Core.Path.{◌≡◌, subst}
use lib.Dec.{ltb}
use lib.ListN.{length}
use Rattle.std.proofs.Common.{rules, of_calls, IsTrue}
use Rattle.std.specs.Option.{MatchOption}
use Rattle.std.proofs.lemmas.List.Sorted.{IsPartitionPoint-from_clause}
use Rattle.tally.specs.Gathering.{KeysAscend, PlaceOf}
use Rattle.tally.proofs.SearchLaws.{behind_last, last_lower, parted, parted_at}
use Rattle.tally.proofs.entries.Tally.place_of.Goals as goal

pub returns-then-is_none_or-clause-place : goal.returns-then-is_none_or-clause-place
returns-then-is_none_or-clause-place c =
    let t = c.entries-entries.result.now in
    let m : MatchOption c.last.result (IsTrue c.is_none_or.result) (λ x. c.is_none_or.result ≡ ltb x.now.key c.args.key) = search (rules, of_calls) in
    subst (λ l. KeysAscend l → PlaceOf c.args.key l (length t)) c.entries-entries.ensures
    (λ up. behind_last t c.args.key up (last_lower t c.args.key c.last.result c.is_none_or.result c.last.ensures.item m c.if-is_none_or.true))

pub returns-clause-place : goal.returns-clause-place
returns-clause-place c =
    let t = c.entries-entries.result.now in
    subst (λ l. KeysAscend l → PlaceOf c.args.key l c.partition_point.result) c.entries-entries.ensures
    (λ up. parted_at t c.args.key c.partition_point.result c.partition_point.ensures.bound
    (IsPartitionPoint-from_clause (λ e. ltb e.key c.args.key) t c.partition_point.result c.partition_point.ensures.partitioned (parted t c.args.key up) (λ a r f k. search (rules, of_calls))))
