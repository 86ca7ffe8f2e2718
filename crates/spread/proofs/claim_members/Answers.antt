-- `spread::claim_members` meets its contract. Assumes nothing.
use mathlib.Core.Path.{refl, ◌∙◌}
use lib.ListN.{length-set}
use Rattle.spread.proofs.MemberLaws.{met_some, met_none, listed_parts, listed_right, member_place, claim_nil, claim_taken, claim_free, shows_some, shows_none}
use Rattle.spread.proofs.claim_members.Goals as goal

pub overflow_sub-place : goal.overflow_sub-place
overflow_sub-place c = (listed_parts _ _ 256 _ _ (met_some c.args.line.now c.loop-member.at _ _ _ c.member_at.ensures c.in-Ok-Some.is c.in-Ok-Some.field-0-is) c.loop-member.invariant.2).0

pub bounds-region-place : goal.bounds-region-place
bounds-region-place c = member_place c.args.line.now c.loop-member.at _ _ (met_some c.args.line.now c.loop-member.at _ _ _ c.member_at.ensures c.in-Ok-Some.is c.in-Ok-Some.field-0-is) c.loop-member.invariant.2 c.loop-member.region c.loop-member.invariant.1

pub returns-then-region-place-ne0 : goal.returns-then-region-place-ne0
returns-then-region-place-ne0 c =
    (c.loop-member.invariant.1, shows_none _ _ (c.loop-member.invariant.3 ∙ claim_taken _ _ _ _ _ _ (met_some c.args.line.now c.loop-member.at _ _ _ c.member_at.ensures c.in-Ok-Some.is c.in-Ok-Some.field-0-is) c.if-region-place-ne0.true))

pub bounds-region-place-in-Ok-Some : goal.bounds-region-place-in-Ok-Some
bounds-region-place-in-Ok-Some c = member_place c.args.line.now c.loop-member.at _ _ (met_some c.args.line.now c.loop-member.at _ _ _ c.member_at.ensures c.in-Ok-Some.is c.in-Ok-Some.field-0-is) c.loop-member.invariant.2 c.loop-member.region c.loop-member.invariant.1

pub loop-member-preserved : goal.loop-member-preserved
loop-member-preserved c =
    let m = met_some c.args.line.now c.loop-member.at _ _ _ c.member_at.ensures c.in-Ok-Some.is c.in-Ok-Some.field-0-is in
    let l = c.loop-member.invariant in
    (m.high, simp length-set l.1, (listed_parts _ _ 256 _ _ m l.2).2, l.3 ∙ claim_free _ _ _ _ _ _ m c.if-region-place-ne0.false)

pub returns-in-Ok-None : goal.returns-in-Ok-None
returns-in-Ok-None c = (c.loop-member.invariant.1, shows_some _ _ _ (c.loop-member.invariant.3 ∙ claim_nil c.args.line.now c.loop-member.at c.args.number c.loop-member.region (met_none c.args.line.now c.loop-member.at _ _ c.member_at.ensures c.in-Ok-None.is c.in-Ok-None.field-0-is)) refl)

pub returns-in-Err : goal.returns-in-Err
returns-in-Err c = (c.loop-member.invariant.1, listed_right c.args.line.now c.loop-member.at 256 _ _ c.member_at.ensures c.in-Err.is c.loop-member.invariant.2)
