-- `judgement::line::further_turn` meets its contract. Assumes nothing.
use Rattle.std.specs.Prelude.{◌≡◌, ◌≤◌, ◌<◌, ◌⊎◌}
use native.Mathlib.Omega.{arith}
use borrow.Author.Rules.{rules}
use mathlib.Core.Logic.{inl, inr}
use Rattle.judgement.proofs.CodeLaws.{list_code, single_code, no_rows}
use Rattle.judgement.proofs.StepTurnLaws.{further_skipped, further_title, further_origin, further_owner, further_over, further_single, further_rows, further_yes, further_list}
use Rattle.judgement.proofs.line.further_turn.Goals as goal
use Rattle.judgement.proofs.line.further_turn.Goals.{in-2-1, in_default+else-running-lt14+then-running-lt16, in_default-running-via-then-running-lt14, in_default-running-via-else-running-lt14+else-running-lt16}

pub returns-in-0 : goal.returns-in-0
returns-in-0 c = further_skipped c.args.block.now c.args.at c.args.end c.args.u.rules c.args.p c.args.scratch.now c.requires.0 c.requires.1 c.requires.2 c.requires.3 c.in-0.is

pub returns-in-1 : goal.returns-in-1
returns-in-1 c = further_title c.args.block.now c.args.at c.args.end c.args.u.rules c.args.p c.args.scratch.now c.requires.0 c.requires.1 c.requires.2 c.requires.3 c.text_turn.result c.text_turn.ensures c.in-1.is

pub returns-in-3 : goal.returns-in-3
returns-in-3 c = further_origin c.args.block.now c.args.at c.args.end c.args.u.rules c.args.p c.args.scratch.now c.requires.0 c.requires.1 c.requires.2 c.requires.3 c.text_turn-in-3.result c.text_turn-in-3.ensures c.in-3.is

pub returns-in-4 : goal.returns-in-4
returns-in-4 c = further_owner c.args.block.now c.args.at c.args.end c.args.u.rules c.args.p c.args.scratch.now c.requires.0 c.requires.1 c.requires.2 c.requires.3 c.text_turn-in-4.result c.text_turn-in-4.ensures c.in-4.is

pub returns-in-13 : goal.returns-in-13
returns-in-13 c = further_over c.args.block.now c.args.at c.args.end c.args.u.rules c.args.p c.args.scratch.now c.requires.0 c.requires.1 c.requires.2 c.requires.3 c.blank_or.result c.in-13.is c.blank_or.ensures

pub returns-in-16 : goal.returns-in-16
returns-in-16 c = further_rows c.args.block.now c.args.at c.args.end c.args.u.rules c.args.p c.args.scratch.now c.requires.0 c.requires.1 c.requires.2 c.requires.3 c.uncommented.result c.uncommented.ensures c.geometry_turn.result c.geometry_turn.new.scratch c.in-16.is c.geometry_turn.ensures

pub returns-in-17 : goal.returns-in-17
returns-in-17 c = further_yes c.args.block.now c.args.at c.args.end c.args.u.rules c.args.p c.args.scratch.now c.requires.0 c.requires.1 c.requires.2 c.requires.3 c.uncommented.result c.uncommented.ensures c.yes_turn.result c.in-17.is c.yes_turn.ensures

pub returns-in_default-running : goal.returns-in_default-running
returns-in_default-running c =
    let g : 14 ≤ c.args.p.running → ⊥ =
    elim c.in_default-running.branch [
      | in_default-running-via-then-running-lt14 w ↦ no_rows _ c.requires.0.code (inl (omega arith)) (λ e. omega arith) (λ e. omega arith)
      | in_default-running-via-else-running-lt14+else-running-lt16 w ↦ no_rows _ c.requires.0.code (inr (omega arith)) (λ e. omega arith) (λ e. omega arith)
    ] in
    let n = c.in_default-1.rest in
    further_list c.args.block.now c.args.at c.args.end c.args.u.rules c.args.p c.args.scratch.now c.requires.0 c.requires.1 c.requires.2 c.requires.3 c.uncommented.result c.uncommented.ensures c.list_turn.result c.list_turn.new.scratch (list_code _ c.requires.0.code (λ e. omega arith) (λ e. omega arith) (λ e. omega arith) (λ e. omega arith) (λ e. n.0.0.1 (inl e)) (λ e. n.0.0.1 (inr (inl e))) (λ e. n.0.0.1 (inr (inr e))) (λ e. omega arith) g) c.args.u.low (c.list_turn.ensures.1 (search rules))

pub returns-in-2 : goal.returns-in-2
returns-in-2 c =
    let told : ((c.args.p.running ≡ 2) ⊎ ((c.args.p.running ≡ 5) ⊎ (c.args.p.running ≡ 12))) ⊎ ((14 ≤ c.args.p.running) × (c.args.p.running < 16)) =
    elim c.in-2-1.branch [ in-2-1 w ↦ inl w.in-2-1.keys1 | in_default+else-running-lt14+then-running-lt16 w ↦ inr (omega arith, omega arith) ] in
    further_single c.args.block.now c.args.at c.args.end c.args.u.rules c.args.p c.args.scratch.now c.requires.0 c.requires.1 c.requires.2 c.requires.3 c.uncommented.result c.uncommented.ensures c.blank_or-in-2.result (single_code _ told) c.blank_or-in-2.ensures
