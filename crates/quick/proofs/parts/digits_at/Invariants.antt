-- `quick::parts::digits_at` meets its contract. Assumes nothing.
use Rattle.quick.proofs.SignedLaws.{SoFar}
use Rattle.quick.proofs.parts.digits_at.Given as goal

abbrev pub invariant-loop-to : goal.invariant-loop-to
invariant-loop-to l = SoFar l.block l.at l.value l.to
