-- The line of a piece: where it ends, by the walk's laws. Assumes nothing.
use mathlib.Core.Path.{ap, ◌∙◌}
use Rattle.std.proofs.Common.{arith}
use Rattle.std.specs.Prelude.{Ok}
use Rattle.transfer.proofs.InsideLaws.{piece_inside}
use Rattle.walk.proofs.print_piece.Goals as goal

pub print_block-requires : goal.print_block-requires
print_block-requires g c = let k = piece_inside _ _ _ _ c.walk.ensures (c.in-Ok-Some.is ∙ ap (λ x. Ok x) c.in-Ok-Some.field-0-is) in (omega (arith, k.0), k.1, c.requires.1)

pub returns-in_ok-print_block-in-Block : goal.returns-in_ok-print_block-in-Block
returns-in_ok-print_block-in-Block g c = let k = piece_inside _ _ _ _ c.walk.ensures (c.in-Ok-Some.is ∙ ap (λ x. Ok x) c.in-Ok-Some.field-0-is) in (k.0, k.1)

pub returns-in_ok-print_stray-in-Stray : goal.returns-in_ok-print_stray-in-Stray
returns-in_ok-print_stray-in-Stray g c = let k = piece_inside _ _ _ _ c.walk.ensures (c.in-Ok-Some.is ∙ ap (λ x. Ok x) c.in-Ok-Some.field-0-is) in (k.0, k.1)
