-- `quick::parts::tail_at` meets its contract. Assumes nothing.
use Rattle.alphabet.proofs.DigitLaws.{digit_some}
use Rattle.quick.proofs.PieceLaws.{tail_bare, tail_digit}
use Rattle.quick.proofs.parts.tail_at.Goals as goal

pub returns-then-block-at-eq32 : goal.returns-then-block-at-eq32
returns-then-block-at-eq32 c =
    let one = digit_some _ _ c.digit.ensures _ c.in_ok-hydrogens.was in
    tail_digit _ _ _ c.requires c.if-block-at-eq32.true one.0 _ one.1 c.in_ok-next.ensures

pub returns : goal.returns
returns c = tail_bare _ _ _ c.in_ok-next-2.ensures
