-- `judgement::judge_lines` meets its contract. Assumes nothing.
use Prim.Native.Nat.{◌-◌, ◌≤◌}
use mathlib.Core.Path.{◌≡◌}
use mathlib.Core.List.{[]}
use lib.ListN.{length}
use Rattle.lists.specs.Lists.{filled}
use Rattle.gather.specs.Progress.{Bounded, Flowing}
use Rattle.judgement.proofs.BlockLaws.{Going}
use Rattle.judgement.proofs.judge_lines.Given as goal

abbrev pub invariant-loop-at : goal.invariant-loop-at
invariant-loop-at l = (l.at ≤ length l.block) × (length l.store ≡ length l.initial.store) × Bounded (length l.block) l.p × Flowing l.at l.p × (l.initial.scratch ≡ filled 0 2973 [] → Going l.u.rules l.block l.at l.p l.scratch l.store)

abbrev pub decreases-loop-at : goal.decreases-loop-at
decreases-loop-at l = length l.block - l.at
