-- `sorted::keyed::bond_joined` meets its contract. Assumes nothing.
use mathlib.Core.Path.{sym, ◌∙◌}
use lib.ListN.{length}
use Rattle.sorted.proofs.KeyedLaws.{one_fits, two_fits, order_first, order_second, shows_ordered, fits_parts}
use Rattle.sorted.proofs.keyed.bond_joined.Goals as goal

pub overflow_mul-key : goal.overflow_mul-key
overflow_mul-key c = let a = c.args in one_fits _ _ (fits_parts (length a.region.now) 1024 a.count 512 a.atoms (sym c.region_fits.ensures ∙ c.if-not-region_fits.false)).2 (order_first _ _ _ (sym c.is_ordered.ensures ∙ c.if-is_ordered.true))

pub overflow_add-key : goal.overflow_add-key
overflow_add-key c = let a = c.args in two_fits _ _ _ (fits_parts (length a.region.now) 1024 a.count 512 a.atoms (sym c.region_fits.ensures ∙ c.if-not-region_fits.false)).2 (order_first _ _ _ (sym c.is_ordered.ensures ∙ c.if-is_ordered.true)) (order_second _ _ _ (sym c.is_ordered.ensures ∙ c.if-is_ordered.true))

pub returns-then-is_ordered : goal.returns-then-is_ordered
returns-then-is_ordered c = let a = c.join.ensures in (a.0, a.3, λ long few atoms small. (a.1, shows_ordered _ _ _ _ _ _ _ _ atoms (sym c.is_ordered.ensures ∙ c.if-is_ordered.true) a.2))
