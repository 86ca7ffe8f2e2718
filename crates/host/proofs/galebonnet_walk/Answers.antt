-- The walk packed: each kind of answer is one case. Assumes nothing.
use mathlib.Core.Path.{ap, ◌∙◌}
use native.Mathlib.Omega.{arith}
use Prim.Native.Nat.{ℕ}
use Rattle.std.specs.Prelude.{Ok}
use Rattle.format.specs.Walking.{packed}
use Rattle.transfer.specs.Shown.{shown}
use Rattle.transfer.proofs.InsideLaws.{piece_inside}
use Rattle.transfer.proofs.OneAnswer.{walk_told}
use Rattle.host.specs.Packed.{packed_walk}
use Rattle.host.proofs.PackLaws.{kind_packed}
use Rattle.host.proofs.galebonnet_walk.Goals as goal

pub packed-requires : goal.packed-requires
packed-requires c = let k = piece_inside _ _ _ _ c.walk.ensures (c.in-Ok-Some.is ∙ ap (λ x. Ok x) c.in-Ok-Some.field-0-is) in omega (arith, k.1, k.2)

pub returns-in-Ok-Some : goal.returns-in-Ok-Some
unfolding shown
returns-in-Ok-Some c =
    c.packed.ensures ∙ ap (λ (n : ℕ). packed n c.in-Ok-Some.piece.to) c.kind_number.ensures ∙ kind_packed c.in-Ok-Some.piece.kind c.in-Ok-Some.piece.from c.in-Ok-Some.piece.to
    ∙ ap packed_walk (walk_told _ _ _ c.walk.ensures _ (c.in-Ok-Some.is ∙ ap (λ x. Ok x) c.in-Ok-Some.field-0-is))

pub returns-in-Ok-None : goal.returns-in-Ok-None
unfolding shown
returns-in-Ok-None c = ap packed_walk (walk_told _ _ _ c.walk.ensures _ (c.in-Ok-None.is ∙ ap (λ x. Ok x) c.in-Ok-None.field-0-is))

pub returns-in-Err : goal.returns-in-Err
unfolding shown
returns-in-Err c = c.packed-in-Err.ensures ∙ ap (λ (n : ℕ). packed n 0) c.number.ensures ∙ ap packed_walk (walk_told _ _ _ c.walk.ensures _ c.in-Err.is)
