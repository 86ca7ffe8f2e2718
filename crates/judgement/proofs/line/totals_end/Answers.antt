-- `judgement::line::totals_end` meets its contract. Assumes nothing.
use borrow.Author.Rules.{rules}
use borrow.Author.Tests.{not-true, not-false}
use Rattle.gather.proofs.ListLineLaws.{turn_shown}
use Rattle.format.specs.declared.refusal.Refusal.TheVariants.{Totals}
use Rattle.judgement.proofs.LineTurnLaws.{stop_told}
use Rattle.judgement.proofs.EndTurnLaws.{totals_untested, totals_differ, totals_agree, totals_told}
use Rattle.judgement.proofs.line.totals_end.Goals as goal

pub returns-then-not-u : goal.returns-then-not-u
returns-then-not-u c = (c.geometry_end.ensures.0, λ st h. turn_shown c.args.u.rules.last c.args.block.now c.args.at c.geometry_end.result c.args.scratch.now _ _ (totals_untested c.args.u.rules c.args.block.now c.args.at c.args.p c.args.scratch.now st c.requires.0.counted h (not-true _ c.if-not-u.true)) (c.geometry_end.ensures.1 c.args.u.rules.last c.args.block.now st h))

pub returns-then-not-agrees : goal.returns-then-not-agrees
returns-then-not-agrees c = (tt, λ st h. stop_told c.args.u.rules.last c.args.block.now c.args.at c.args.scratch.now Totals _ c.at.ensures _ (totals_differ c.args.u.rules c.args.block.now c.args.at c.args.p c.args.scratch.now st c.requires.0.counted h c.agrees.result (totals_told c.args.u.rules c.args.block.now c.args.at c.args.p c.args.scratch.now st c.requires.0.counted h (search rules) c.requires.1 c.args.u.high c.agrees.result c.agrees.ensures.told) (not-false _ c.if-not-u.false) (c.if-not-agrees.true)))

pub returns : goal.returns
returns c = (c.geometry_end-2.ensures.0, λ st h. turn_shown c.args.u.rules.last c.args.block.now c.args.at c.geometry_end-2.result c.args.scratch.now _ _ (totals_agree c.args.u.rules c.args.block.now c.args.at c.args.p c.args.scratch.now st c.requires.0.counted h c.agrees.result (totals_told c.args.u.rules c.args.block.now c.args.at c.args.p c.args.scratch.now st c.requires.0.counted h (search rules) c.requires.1 c.args.u.high c.agrees.result c.agrees.ensures.told) (not-false _ c.if-not-u.false) (c.if-not-agrees.false)) (c.geometry_end-2.ensures.1 c.args.u.rules.last c.args.block.now st h))
