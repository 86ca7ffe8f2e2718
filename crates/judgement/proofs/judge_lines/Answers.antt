-- `judgement::judge_lines` meets its contract. Assumes nothing.
use mathlib.Core.Path.{◌≡◌}
use mathlib.Core.List.{[]}
use lib.ListN.{length}
use Rattle.lists.specs.Lists.{filled}
use Rattle.sorted.proofs.HandedLaws.{err_is}
use Rattle.judgement.proofs.BlockLaws.{holds_start, looked_end, looked_wrong, part_clean, unclean, going_on, placed_on, ran_on, bounded_go, flowing_go, went, stopped, ended}
use Rattle.judgement.proofs.judge_lines.Goals as goal

pub loop-at-init : goal.loop-at-init
loop-at-init c = holds_start c.args.u.rules c.args.block.now c.unread-p.result c.args.scratch.now c.args.store.now c.unread-p.ensures

pub returns-in_default : goal.returns-in_default
returns-in_default c = (c.loop-at.invariant.1, λ z. unclean c.args.u.rules c.args.block.now c.loop-at.at c.loop-at.p c.loop-at.scratch c.loop-at.store (c.loop-at.invariant.4 z) c.loop-at-test.true (looked_wrong c.args.block.now c.loop-at.at c.clean_end.result c.in_default.is c.clean_end.ensures) _ c.at.ensures)

pub line_step-requires : goal.line_step-requires
line_step-requires c = let d = looked_end c.args.block.now c.loop-at.at c.clean_end.result _ c.in-Some.is c.clean_end.ensures in (c.loop-at.invariant.2, c.loop-at.invariant.3, d.end.low, d.end.high c.loop-at.invariant.0, part_clean _ _ _ d)

pub returns-in_err-p : goal.returns-in_err-p
returns-in_err-p c = let d = looked_end c.args.block.now c.loop-at.at c.clean_end.result _ c.in-Some.is c.clean_end.ensures in (c.loop-at.invariant.1, λ z. rw (err_is _ _ c.from_residual.ensures.1) (stopped c.args.u.rules c.args.block.now c.loop-at.at _ c.loop-at.p c.loop-at.scratch c.line_step.new.scratch c.loop-at.store (c.loop-at.invariant.4 z) c.loop-at-test.true d.end c.line_step.result c.line_step.ensures.2 _ c.in_err-p.was))

pub loop-at-preserved-then-p-eq-XYZ : goal.loop-at-preserved-then-p-eq-XYZ
loop-at-preserved-then-p-eq-XYZ c = let d = looked_end c.args.block.now c.loop-at.at c.clean_end.result _ c.in-Some.is c.clean_end.ensures in placed_on c.args.u.rules c.args.block.now _ _ c.line_step.new.scratch c.loop-at.store (bounded_go _ c.line_step.result _ c.in_ok-p.was c.line_step.ensures.0) c.if-p-eq-XYZ.true c.xyz_rows-at.new.scratch c.xyz_rows-at.new.store c.xyz_rows-at.result c.xyz_rows-at.ensures (c.args.scratch.now ≡ filled 0 2973 []) (length c.args.store.now) (d.end.high c.loop-at.invariant.0) c.loop-at.invariant.1 (λ z. ((c.loop-at.invariant.4 z).state, (c.loop-at.invariant.4 z).stored, (went c.args.u.rules c.args.block.now c.loop-at.at _ c.loop-at.p c.loop-at.scratch c.line_step.new.scratch c.loop-at.store (c.loop-at.invariant.4 z) c.loop-at-test.true d.end c.line_step.result c.line_step.ensures.2 _ c.in_ok-p.was)))

pub loop-at-preserved-else-p-eq-XYZ : goal.loop-at-preserved-else-p-eq-XYZ
loop-at-preserved-else-p-eq-XYZ c = let d = looked_end c.args.block.now c.loop-at.at c.clean_end.result _ c.in-Some.is c.clean_end.ensures in ran_on c.args.u.rules c.args.block.now _ _ c.line_step.new.scratch c.rows_run-ran.new.scratch c.loop-at.store c.rows_run-ran.result c.rows_run-ran.ensures.1 (bounded_go _ c.line_step.result _ c.in_ok-p.was c.line_step.ensures.0) (c.args.scratch.now ≡ filled 0 2973 []) (length c.args.store.now) c.args.u.low (d.end.high c.loop-at.invariant.0) c.loop-at.invariant.1 (flowing_go _ c.line_step.result _ c.in_ok-p.was c.line_step.ensures.1) (λ z. going_on c.args.u.rules c.args.block.now _ _ c.line_step.new.scratch c.loop-at.store (bounded_go _ c.line_step.result _ c.in_ok-p.was c.line_step.ensures.0) c.if-p-eq-XYZ.false (c.loop-at.invariant.4 z).state (c.loop-at.invariant.4 z).stored (went c.args.u.rules c.args.block.now c.loop-at.at _ c.loop-at.p c.loop-at.scratch c.line_step.new.scratch c.loop-at.store (c.loop-at.invariant.4 z) c.loop-at-test.true d.end c.line_step.result c.line_step.ensures.2 _ c.in_ok-p.was))

pub loop-at-preserved : goal.loop-at-preserved
loop-at-preserved c = let d = looked_end c.args.block.now c.loop-at.at c.clean_end.result _ c.in-Some.is c.clean_end.ensures in (d.end.high c.loop-at.invariant.0, c.loop-at.invariant.1, bounded_go _ c.line_step.result _ c.in_ok-p.was c.line_step.ensures.0, flowing_go _ c.line_step.result _ c.in_ok-p.was c.line_step.ensures.1, λ z. going_on c.args.u.rules c.args.block.now _ _ c.line_step.new.scratch c.loop-at.store (bounded_go _ c.line_step.result _ c.in_ok-p.was c.line_step.ensures.0) c.if-p-eq-XYZ.false (c.loop-at.invariant.4 z).state (c.loop-at.invariant.4 z).stored (went c.args.u.rules c.args.block.now c.loop-at.at _ c.loop-at.p c.loop-at.scratch c.line_step.new.scratch c.loop-at.store (c.loop-at.invariant.4 z) c.loop-at-test.true d.end c.line_step.result c.line_step.ensures.2 _ c.in_ok-p.was))

pub returns : goal.returns
returns c = (c.loop-at.invariant.1, λ z. ended c.args.u.rules c.args.block.now c.loop-at.at c.loop-at.p c.loop-at.scratch c.loop-at.store (c.loop-at.invariant.4 z) c.loop-at-test.false c.loop-at.invariant.2 _ c.judged_end.ensures)
