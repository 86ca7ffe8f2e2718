-- `quick::parts::signed_at` meets its contract. Assumes nothing.
use native.Mathlib.Omega.{arith}
use Rattle.quick.proofs.SignedLaws.{behind_near, signed_is}
use Rattle.quick.proofs.parts.signed_at.Goals as goal

pub digits_at-digits-requires : goal.digits_at-digits-requires
digits_at-digits-requires c = omega (arith, (behind_near c.args.block.now c.args.at _ c.behind_minus-from.ensures).1)

pub returns : goal.returns
returns c = signed_is _ _ _ c.behind_minus-from.ensures c.requires _ c.digits_at-digits.ensures c.if-digits-from.false _ c.lifted_by.ensures
