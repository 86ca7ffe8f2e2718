-- `sorted::keyed::key_of` meets its contract. Assumes nothing.
use mathlib.Core.Path.{sym, ◌∙◌}
use native.Mathlib.Omega.{arith}
use Rattle.sorted.proofs.KeyedLaws.{key_unlisted, key_one, key_other, key_itself, key_two, one_fits, listed_below}
use Rattle.sorted.proofs.keyed.key_of.Goals as goal

pub returns-then-not-is_listed : goal.returns-then-not-is_listed
returns-then-not-is_listed c = key_unlisted _ _ _ (sym c.is_listed.ensures ∙ c.if-not-is_listed.true)

pub overflow_mul-result : goal.overflow_mul-result
overflow_mul-result c = one_fits _ _ c.requires (sym c.is_listed.ensures ∙ c.if-not-is_listed.false)

pub returns-in_default : goal.returns-in_default
returns-in_default c = rw c.in_default.is (key_one _ _ (sym c.is_listed.ensures ∙ c.if-not-is_listed.false))

pub returns-then-not-is_listed-2 : goal.returns-then-not-is_listed-2
returns-then-not-is_listed-2 c = rw c.in-Some.is (key_other _ _ _ (sym c.is_listed.ensures ∙ c.if-not-is_listed.false) (sym c.is_listed-2.ensures ∙ c.if-not-is_listed-2.true))

pub returns-then-row-second : goal.returns-then-row-second
returns-then-row-second c = rw c.in-Some.is (key_itself _ _ _ (sym c.is_listed.ensures ∙ c.if-not-is_listed.false) (sym c.is_listed-2.ensures ∙ c.if-not-is_listed-2.false) c.if-row-second.true)

pub overflow_mul-result-2 : goal.overflow_mul-result-2
overflow_mul-result-2 c = record { fits = omega (arith, c.min.ensures, c.requires, listed_below _ _ (sym c.is_listed.ensures ∙ c.if-not-is_listed.false)) }

pub overflow_add-result : goal.overflow_add-result
overflow_add-result c = record { fits = omega (arith, c.min.ensures, c.max.ensures, c.requires, listed_below _ _ (sym c.is_listed.ensures ∙ c.if-not-is_listed.false), listed_below _ _ (sym c.is_listed-2.ensures ∙ c.if-not-is_listed-2.false)) }

pub returns : goal.returns
returns c = rw (c.in-Some.is, c.min.ensures, c.max.ensures) (key_two _ _ _ (sym c.is_listed.ensures ∙ c.if-not-is_listed.false) (sym c.is_listed-2.ensures ∙ c.if-not-is_listed-2.false) c.if-row-second.false)
