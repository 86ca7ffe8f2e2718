-- `judgement::values::block_id` meets its contract. Assumes nothing.
use Rattle.judgement.proofs.ValueLaws.{id_wrong, id_more, id_zero, id_taken}
use Rattle.judgement.proofs.values.block_id.Goals as goal

pub returns-in_default : goal.returns-in_default
returns-in_default c = id_wrong _ _ c.next_field-word.ensures _ c.number.ensures.says c.number.ensures.small c.in_default.is

pub returns-then-not-blank : goal.returns-then-not-blank
returns-then-not-blank c = id_more _ _ c.next_field-word.ensures _ c.number.ensures.says c.number.ensures.small _ c.in-Some.is _ c.blank.ensures c.if-not-blank.true

pub returns-then-id-eq0 : goal.returns-then-id-eq0
returns-then-id-eq0 c = id_zero _ _ c.next_field-word.ensures _ c.number.ensures.says c.number.ensures.small _ c.in-Some.is _ c.blank.ensures c.if-not-blank.false c.if-id-eq0.true

pub returns : goal.returns
returns c = id_taken _ _ c.next_field-word.ensures _ c.number.ensures.says c.number.ensures.small _ c.in-Some.is _ c.blank.ensures c.if-not-blank.false c.if-id-eq0.false
