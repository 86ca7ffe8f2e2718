-- `spread::all_members` meets its contract. Assumes nothing.
use mathlib.Core.Path.{sym, ◌∙◌}
use Rattle.spread.proofs.MemberLaws.{passes_none, passes_wrong, passes_step, passes_failed, met_some, met_none, met_wrong}
use Rattle.spread.proofs.all_members.Goals as goal

pub returns-in-Ok-None : goal.returns-in-Ok-None
returns-in-Ok-None g c = λ p h. sym (c.loop-test.invariant.1 p h ∙ passes_none p c.args.line.now c.loop-test.at (met_none c.args.line.now c.loop-test.at _ _ c.member_at.ensures c.in-Ok-None.is c.in-Ok-None.field-0-is))

pub returns-in-Err : goal.returns-in-Err
returns-in-Err g c = λ p h. let m = met_wrong c.args.line.now c.loop-test.at _ _ c.member_at.ensures c.in-Err.is in sym (c.loop-test.invariant.1 p h ∙ passes_wrong p c.args.line.now c.loop-test.at _ _ m.2 m.3)

pub returns-then-not-test : goal.returns-then-not-test
returns-then-not-test g c = λ p h.
    let m = met_some c.args.line.now c.loop-test.at _ _ _ c.member_at.ensures c.in-Ok-Some.is c.in-Ok-Some.field-0-is in
    sym (c.loop-test.invariant.1 p h ∙ passes_failed p _ _ _ _ m (sym (h _ _ c.test.ensures) ∙ c.if-not-test.true))

pub loop-test-preserved : goal.loop-test-preserved
loop-test-preserved g c =
    let m = met_some c.args.line.now c.loop-test.at _ _ _ c.member_at.ensures c.in-Ok-Some.is c.in-Ok-Some.field-0-is in
    (m.high, λ p h. c.loop-test.invariant.1 p h ∙ passes_step p _ _ _ _ m (sym (h _ _ c.test.ensures) ∙ c.if-not-test.false))
