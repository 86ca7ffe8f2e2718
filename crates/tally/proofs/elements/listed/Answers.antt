-- `tally::elements::listed` meets its contract. Assumes nothing.
use mathlib.Core.Path.{◌≡◌}
use Rattle.std.proofs.Common.{rules, of_calls}
use Rattle.std.specs.Option.{MatchOption}
use Rattle.tally.proofs.RankLaws.{elements, looked_up}
use Rattle.tally.proofs.elements.listed.Goals as goal

pub returns : goal.returns
unfolding elements
returns c =
    let m : MatchOption c.get.result (c.map_or.result ≡ 0) (λ x. c.map_or.result ≡ x.now) = search (rules, of_calls) in
    looked_up c.args.rank c.map_or.result c.get.result c.get.ensures.lookup m
