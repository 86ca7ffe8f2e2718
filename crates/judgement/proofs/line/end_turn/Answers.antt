-- `judgement::line::end_turn` meets its contract. Assumes nothing.
use mathlib.Core.Path.{sym, ◌∙◌}
use Rattle.format.specs.Bytes.{fields}
use Rattle.gather.specs.Progress.{part_of}
use Rattle.gather.proofs.ListLineLaws.{turn_shown}
use Rattle.format.specs.declared.refusal.Refusal.TheVariants.{Clash, Missing, Shape}
use Rattle.judgement.proofs.ValueLaws.{fields_blank}
use Rattle.judgement.proofs.LineTurnLaws.{stop_told}
use Rattle.judgement.proofs.EndTurnLaws.{end_lacking, end_atomless, end_valued, end_unanswered, end_twice, end_later}
use Rattle.judgement.proofs.line.end_turn.Goals as goal

pub returns-then-lacking : goal.returns-then-lacking
returns-then-lacking c = (tt, λ st h. stop_told c.args.u.rules.last c.args.block.now c.args.at c.args.scratch.now Missing _ c.at.ensures _ (end_lacking c.args.u.rules c.args.block.now c.args.at c.args.p c.args.scratch.now st c.requires.0.counted h (fields (part_of c.args.block.now c.args.from c.args.to)) c.lacking.result c.lacking.ensures c.if-lacking.true))

pub returns-then-p-eq0 : goal.returns-then-p-eq0
returns-then-p-eq0 c = (tt, λ st h. stop_told c.args.u.rules.last c.args.block.now c.args.at c.args.scratch.now Missing _ c.at-then-p-eq0.ensures _ (end_atomless c.args.u.rules c.args.block.now c.args.at c.args.p c.args.scratch.now st c.requires.0.counted h (fields (part_of c.args.block.now c.args.from c.args.to)) c.lacking.result c.lacking.ensures c.if-lacking.false c.if-p-eq0.true))

pub returns-then-not-blank : goal.returns-then-not-blank
returns-then-not-blank c = (tt, λ st h. stop_told c.args.u.rules.last c.args.block.now c.args.at c.args.scratch.now Shape _ c.at-then-not-blank.ensures _ (end_valued c.args.u.rules c.args.block.now c.args.at c.args.p c.args.scratch.now st c.requires.0.counted h (fields (part_of c.args.block.now c.args.from c.args.to)) c.lacking.result c.lacking.ensures c.if-lacking.false c.if-p-eq0.false (fields_blank _ ∙ sym c.blank.ensures ∙ c.if-not-blank.true)))

pub returns-then-unanswered : goal.returns-then-unanswered
returns-then-unanswered c = (tt, λ st h. stop_told c.args.u.rules.last c.args.block.now c.args.at c.args.scratch.now Shape _ c.at-then-unanswered.ensures _ (end_unanswered c.args.u.rules c.args.block.now c.args.at c.args.p c.args.scratch.now st c.requires.0.counted h (fields (part_of c.args.block.now c.args.from c.args.to)) c.lacking.result c.lacking.ensures c.if-lacking.false c.if-p-eq0.false (fields_blank _ ∙ sym c.blank.ensures ∙ c.if-not-blank.false) c.unanswered.result c.unanswered.ensures c.if-unanswered.true))

pub returns-then-handed_twice : goal.returns-then-handed_twice
returns-then-handed_twice c = (tt, λ st h. stop_told c.args.u.rules.last c.args.block.now c.args.at c.args.scratch.now Clash _ c.at-then-handed_twice.ensures _ (end_twice c.args.u.rules c.args.block.now c.args.at c.args.p c.args.scratch.now st c.requires.0.counted h (fields (part_of c.args.block.now c.args.from c.args.to)) c.lacking.result c.lacking.ensures c.if-lacking.false c.if-p-eq0.false (fields_blank _ ∙ sym c.blank.ensures ∙ c.if-not-blank.false) c.unanswered.result c.unanswered.ensures c.if-unanswered.false c.handed_twice.result c.handed_twice.ensures c.if-handed_twice.true))

pub returns : goal.returns
returns c = (c.totals_end.ensures.0, λ st h. turn_shown c.args.u.rules.last c.args.block.now c.args.at c.totals_end.result c.args.scratch.now _ _ (end_later c.args.u.rules c.args.block.now c.args.at c.args.p c.args.scratch.now st c.requires.0.counted h (fields (part_of c.args.block.now c.args.from c.args.to)) c.lacking.result c.lacking.ensures c.if-lacking.false c.if-p-eq0.false (fields_blank _ ∙ sym c.blank.ensures ∙ c.if-not-blank.false) c.unanswered.result c.unanswered.ensures c.if-unanswered.false c.handed_twice.result c.handed_twice.ensures c.if-handed_twice.false) (c.totals_end.ensures.1 st h))
