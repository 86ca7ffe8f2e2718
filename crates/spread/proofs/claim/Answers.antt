-- `spread::claim` meets its contract. Assumes nothing.
use mathlib.Core.Path.{refl, ◌∙◌}
use lib.ListN.{length-set}
use Rattle.spread.proofs.MemberLaws.{met_some, met_none, listed_right, void_free, void_taken, claimed_none, claimed_same, shows_some, shows_none}
use Rattle.spread.proofs.claim.Goals as goal

pub returns-then-region-ne0 : goal.returns-then-region-ne0
returns-then-region-ne0 c = (c.requires.0, shows_none _ _ (claimed_none c.args.line.now c.args.at c.args.number c.args.region.now (met_none c.args.line.now c.args.at _ _ c.member_at.ensures c.in-Ok-None.is c.in-Ok-None.field-0-is) ∙ void_taken c.args.number c.args.region.now c.if-region-ne0.true))

pub returns-else-region-ne0 : goal.returns-else-region-ne0
returns-else-region-ne0 c = (simp length-set c.requires.0, shows_some _ _ _ (claimed_none c.args.line.now c.args.at c.args.number c.args.region.now (met_none c.args.line.now c.args.at _ _ c.member_at.ensures c.in-Ok-None.is c.in-Ok-None.field-0-is) ∙ void_free c.args.number c.args.region.now c.if-region-ne0.false) refl)

pub returns-in-Ok-Some : goal.returns-in-Ok-Some
returns-in-Ok-Some c = (c.claim_members.ensures.0, claimed_same _ _ _ _ _ _ (met_some c.args.line.now c.args.at _ _ _ c.member_at.ensures c.in-Ok-Some.is c.in-Ok-Some.field-0-is) _ _ c.claim_members.ensures.1)

pub returns-in-Err : goal.returns-in-Err
returns-in-Err c = (c.requires.0, listed_right c.args.line.now c.args.at 256 _ _ c.member_at.ensures c.in-Err.is c.requires.2)
