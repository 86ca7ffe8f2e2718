-- A line that is looked at: each return is one case of its first byte. Assumes nothing.
use mathlib.Core.Path.{◌≡◌, ◌∙◌}
use lib.ListN.{get_or}
use Rattle.std.proofs.Common.{rules}
use Rattle.transfer.proofs.SkipLaws.{heeded_not, heeded_third}
use Rattle.transfer.proofs.skips.heeded.Goals as goal

pub returns-then-rest-eq35 : goal.returns-then-rest-eq35
returns-then-rest-eq35 g c = let e : c.unwrap_or.result ≡ get_or c.args.rest.now 2 0 = search rules in c.has.ensures ∙ heeded_third _ _ c.requires _ c.if-rest-eq35.true e

pub returns-else-rest-eq35 : goal.returns-else-rest-eq35
returns-else-rest-eq35 g c = heeded_not _ _ c.requires c.if-rest-eq35.false
