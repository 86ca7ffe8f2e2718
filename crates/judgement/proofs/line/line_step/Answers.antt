-- `judgement::line::line_step` meets its contract. Assumes nothing.
use native.Mathlib.Omega.{arith}
use Rattle.judgement.proofs.LabelTurnLaws.{plain_first, unparted_first, label_first, plain_step, unparted_step, label_step, value_low}
use Rattle.judgement.proofs.line.line_step.Goals as goal

pub returns-then-p-eq0 : goal.returns-then-p-eq0
returns-then-p-eq0 c = rw c.at.ensures (plain_first c.args.block.now c.args.at c.args.end c.args.u.rules c.args.p c.args.scratch.now c.requires.2 c.requires.3 c.requires.4 c.line_kind.result c.line_kind.ensures c.in-Plain.is c.if-p-eq0.true)

pub returns-then-p-eq0-2 : goal.returns-then-p-eq0-2
returns-then-p-eq0-2 c = rw c.at-then-p-eq0-2.ensures (unparted_first c.args.block.now c.args.at c.args.end c.args.u.rules c.args.p c.args.scratch.now c.requires.2 c.requires.3 c.requires.4 c.line_kind.result c.line_kind.ensures c.in-Unparted.is c.if-p-eq0-2.true)

pub returns-then-untitled : goal.returns-then-untitled
returns-then-untitled c = rw c.at-then-untitled.ensures (label_first c.args.block.now c.args.at c.args.end c.args.u.rules c.args.p c.args.scratch.now c.requires.2 c.requires.3 c.requires.4 c.line_kind.result c.line_kind.ensures _ _ c.in-Labelled.is c.untitled.result c.untitled.ensures c.if-untitled.true)

pub overflow_add-at : goal.overflow_add-at
overflow_add-at c = omega (arith, value_low c.args.block.now c.args.at c.args.end c.args.u.rules c.args.p c.args.scratch.now c.requires.2 c.requires.3 c.requires.4 c.line_kind.result c.line_kind.ensures _ _ c.in-Labelled.is)

pub label_turn-requires : goal.label_turn-requires
label_turn-requires c = (c.requires.0, value_low c.args.block.now c.args.at c.args.end c.args.u.rules c.args.p c.args.scratch.now c.requires.2 c.requires.3 c.requires.4 c.line_kind.result c.line_kind.ensures _ _ c.in-Labelled.is, c.requires.3, c.line_kind.ensures.code _ _ c.in-Labelled.is)

pub returns-else-p-eq0 : goal.returns-else-p-eq0
returns-else-p-eq0 c = plain_step c.args.block.now c.args.at c.args.end c.args.u.rules c.args.p c.args.scratch.now c.requires.2 c.requires.3 c.requires.4 c.line_kind.result c.line_kind.ensures c.further_turn.result c.further_turn.new.scratch c.in-Plain.is c.if-p-eq0.false c.further_turn.ensures

pub returns-else-p-eq0-2 : goal.returns-else-p-eq0-2
returns-else-p-eq0-2 c = rw c.at-in-Unparted.ensures (unparted_step c.args.block.now c.args.at c.args.end c.args.u.rules c.args.p c.args.scratch.now c.requires.2 c.requires.3 c.requires.4 c.line_kind.result c.line_kind.ensures c.in-Unparted.is c.if-p-eq0-2.false)

pub returns-else-untitled : goal.returns-else-untitled
returns-else-untitled c = label_step c.args.block.now c.args.at c.args.end c.args.u.rules c.args.p c.args.scratch.now c.requires.2 c.requires.3 c.requires.4 c.line_kind.result c.line_kind.ensures _ _ c.in-Labelled.is c.untitled.result c.untitled.ensures c.label_turn.result c.label_turn.new.scratch c.if-untitled.false c.label_turn.ensures
