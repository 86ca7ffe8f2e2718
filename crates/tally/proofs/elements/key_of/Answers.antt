-- `tally::elements::key_of` meets its contract. Assumes nothing.
use native.Mathlib.Omega.{arith}
use Rattle.std.proofs.Common.{inl, inr}
use Rattle.format.proofs.ByteLaws.{within_low, within_high}
use Rattle.tally.proofs.KeyLaws.{key_no_element, key_no_mass, key_is}
use Rattle.tally.proofs.elements.key_of.Goals as goal

pub returns-then-element-lt1 : goal.returns-then-element-lt1
returns-then-element-lt1 c = elim c.then-element-lt1.either [
  | inl low ↦ key_no_element _ _ (within_low _ _ _ low)
  | inr (inl high) ↦ key_no_element _ _ (within_high _ _ _ high.1)
  | inr (inr heavy) ↦ key_no_mass _ _ heavy.2
]

pub returns : goal.returns
returns c = key_is _ _ _ (omega arith) (omega arith) (omega arith) c.rank_of.ensures.1
