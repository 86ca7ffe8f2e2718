-- `judgement::line::label_turn` meets its contract. Assumes nothing.
use Rattle.judgement.proofs.LabelTurnLaws.{label_bounded, label_misplaced, label_over, label_value}
use Rattle.judgement.proofs.line.label_turn.Goals as goal

pub returns-then-out_of_order : goal.returns-then-out_of_order
returns-then-out_of_order c = rw c.at.ensures (label_misplaced c.args.block.now c.args.at c.args.from c.args.end c.args.code c.args.u.rules c.args.p c.args.scratch.now c.requires.0 c.requires.3 c.out_of_order.result c.out_of_order.ensures c.if-out_of_order.true)

pub returns-then-p-eq-END : goal.returns-then-p-eq-END
returns-then-p-eq-END c = rw c.at-then-p-eq-END.ensures (label_over c.args.block.now c.args.at c.args.from c.args.end c.args.code c.args.u.rules c.args.p c.args.scratch.now c.requires.0 c.requires.3 c.out_of_order.result c.out_of_order.ensures c.if-out_of_order.false c.if-p-eq-END.true)

pub value_turn-requires : goal.value_turn-requires
value_turn-requires c = (label_bounded _ _ _ _ c.requires.3 c.requires.0, c.requires.1, c.requires.2)

pub returns : goal.returns
returns c = label_value c.args.block.now c.args.at c.args.from c.args.end c.args.code c.args.u.rules c.args.p c.args.scratch.now c.requires.0 c.requires.3 c.out_of_order.result c.out_of_order.ensures c.if-out_of_order.false c.if-p-eq-END.false c.note-top.new.seen c.note-top.result c.note-top.ensures.1 c.value_turn.result c.value_turn.new.scratch c.value_turn.ensures
