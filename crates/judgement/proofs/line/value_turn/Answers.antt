-- `judgement::line::value_turn` meets its contract. Assumes nothing.
use Rattle.std.specs.Prelude.{◌≡◌, ◌≤◌, ◌<◌, ◌⊎◌}
use native.Mathlib.Omega.{arith}
use borrow.Author.Rules.{rules}
use mathlib.Core.Logic.{inl, inr}
use Rattle.judgement.proofs.CodeLaws.{list_code, geometry_code, no_geometry_lem, outside}
use Rattle.judgement.proofs.StepTurnLaws.{value_skipped, value_prose, value_version, value_formula, value_id, value_end, value_yes, value_geometry, value_list}
use Rattle.judgement.proofs.line.value_turn.Goals as goal
use Rattle.judgement.proofs.line.value_turn.Goals.{in-1-1, in_default+else-running-lt3+then-running-lt5, in_default, in_default-2, in_default-running-via-then-running-lt12, in_default-running-via-else-running-lt12+else-running-lt17}

pub returns-in-0 : goal.returns-in-0
returns-in-0 c = value_skipped c.args.block.now c.args.at c.args.from c.args.end c.args.u.rules c.args.p c.args.scratch.now c.requires.0 c.requires.1 c.requires.2 c.in-0.is

pub returns-in-1 : goal.returns-in-1
returns-in-1 c =
    let told : (c.args.p.running ≡ 1) ⊎ ((3 ≤ c.args.p.running) × (c.args.p.running < 5)) =
    elim c.in-1-1.branch [ in-1-1 w ↦ inl (omega arith) | in_default+else-running-lt3+then-running-lt5 w ↦ inr (omega arith, omega arith) ] in
    value_prose c.args.block.now c.args.at c.args.from c.args.end c.args.u.rules c.args.p c.args.scratch.now c.requires.0 c.requires.1 c.requires.2 c.text_turn.result c.text_turn.ensures told

pub returns-in-2 : goal.returns-in-2
returns-in-2 c = value_version c.args.block.now c.args.at c.args.from c.args.end c.args.u.rules c.args.p c.args.scratch.now c.requires.0 c.requires.1 c.requires.2 c.uncommented.result c.uncommented.ensures c.version_turn.result c.in-2.is c.version_turn.ensures

pub returns-in-5 : goal.returns-in-5
returns-in-5 c = value_formula c.args.block.now c.args.at c.args.from c.args.end c.args.u.rules c.args.p c.args.scratch.now c.requires.0 c.requires.1 c.requires.2 c.uncommented.result c.uncommented.ensures c.formula_turn.result c.in-5.is c.formula_turn.ensures

pub returns-in-12 : goal.returns-in-12
returns-in-12 c = value_id c.args.block.now c.args.at c.args.from c.args.end c.args.u.rules c.args.p c.args.scratch.now c.requires.0 c.requires.1 c.requires.2 c.uncommented.result c.uncommented.ensures c.id_turn.result c.in-12.is c.id_turn.ensures

pub returns-in-13 : goal.returns-in-13
returns-in-13 c = value_end c.args.block.now c.args.at c.args.from c.args.end c.args.u.rules c.args.p c.args.scratch.now c.requires.0 c.requires.1 c.requires.2 c.uncommented.result c.uncommented.ensures c.end_turn.result c.in-13.is c.end_turn.ensures

pub returns-in-17 : goal.returns-in-17
returns-in-17 c = value_yes c.args.block.now c.args.at c.args.from c.args.end c.args.u.rules c.args.p c.args.scratch.now c.requires.0 c.requires.1 c.requires.2 c.uncommented.result c.uncommented.ensures c.yes_turn.result c.in-17.is c.yes_turn.ensures

pub returns-in-14 : goal.returns-in-14
returns-in-14 c = value_geometry c.args.block.now c.args.at c.args.from c.args.end c.args.u.rules c.args.p c.args.scratch.now c.requires.0 c.requires.1 c.requires.2 c.uncommented.result c.uncommented.ensures c.geometry_turn.result c.geometry_turn.new.scratch (geometry_code _ (omega arith) (omega arith) (λ e. omega arith) (λ e. omega arith)) c.geometry_turn.ensures

pub returns-in_default-running : goal.returns-in_default-running
returns-in_default-running c =
    let o : (c.args.p.running ≡ 3 → ⊥) × (c.args.p.running ≡ 4 → ⊥) = elim c.if-running-lt3.branch [ in_default w ↦ outside _ (inl (omega arith)) | in_default-2 w ↦ outside _ (inr (omega arith)) ] in
    let g : 14 ≤ c.args.p.running → ⊥ =
    elim c.in_default-running.branch [
      | in_default-running-via-then-running-lt12 w ↦ no_geometry_lem _ c.requires.0.code (inl (omega arith)) (λ e. omega arith)
      | in_default-running-via-else-running-lt12+else-running-lt17 w ↦ no_geometry_lem _ c.requires.0.code (inr (omega arith)) (λ e. omega arith)
    ] in
    value_list c.args.block.now c.args.at c.args.from c.args.end c.args.u.rules c.args.p c.args.scratch.now c.requires.0 c.requires.1 c.requires.2 c.uncommented.result c.uncommented.ensures c.list_turn.result c.list_turn.new.scratch (list_code _ c.requires.0.code (λ e. omega arith) (λ e. omega arith) o.0 o.1 (λ e. omega arith) (λ e. omega arith) (λ e. omega arith) (λ e. omega arith) g) c.args.u.low (c.list_turn.ensures.1 (search rules))
