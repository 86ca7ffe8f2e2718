-- `sorted::join::join_among` meets its contract. Assumes nothing.
use mathlib.Core.Path.{refl, sym, ◌∙◌}
use native.Mathlib.Omega.{arith}
use borrow.Author.Tests.{eq-eqb, ne_eqb}
use Rattle.lists.proofs.Bools.{and_both, and_left_false, and_right_false}
use Rattle.sorted.proofs.JoinLaws.{shows_clash, shows_again, shows_full, shows_new}
use Rattle.sorted.proofs.join.join_among.Goals as goal
use Rattle.sorted.proofs.join.join_among.Goals.{else-DROPS-via-then-DROPS+else-region-place, else-DROPS-via-else-DROPS}

pub returns-then-region-place : goal.returns-then-region-place
returns-then-region-place g c = (
  refl,
  omega arith,
  shows_again _ (g.met.L.KeyedList.by_key) _ (g.met.L.KeyedList.at_most) _ _ _ _ _ (sym c.stands_at.ensures ∙ c.if-stands_at.true) _ (g.met.L.KeyedList.dropping)
      (and_both _ _ (sym c.DROPS.ensures ∙ c.if-DROPS.true) (eq-eqb _ _ c.if-region-place.true)),
  tt,
)

pub returns-then-stands_at : goal.returns-then-stands_at
returns-then-stands_at g c = (
  refl,
  tt,
  shows_clash _ (g.met.L.KeyedList.by_key) _ (g.met.L.KeyedList.at_most) _ _ _ _ _ (sym c.stands_at.ensures ∙ c.if-stands_at.true) _ (g.met.L.KeyedList.dropping) _
      (elim c.else-DROPS.branch [
        | else-DROPS-via-then-DROPS+else-region-place w ↦ and_right_false _ _ (ne_eqb _ _ w.if-region-place.false)
        | else-DROPS-via-else-DROPS w ↦ and_left_false _ _ (sym c.DROPS.ensures ∙ w.if-DROPS.false)
      ]) _ refl,
  refl,
)

pub returns-then-count-MOST : goal.returns-then-count-MOST
returns-then-count-MOST g c = (refl, tt, shows_full _ (g.met.L.KeyedList.by_key) _ (g.met.L.KeyedList.at_most) _ _ _ _ _ c.place_of-place.ensures.0 c.place_of-place.ensures.1 (sym c.stands_at.ensures ∙ c.if-stands_at.false) _ (c.if-count-MOST.true ∙ c.MOST.ensures) _ refl, refl)

pub returns : goal.returns
returns g c = (c.put_row.ensures.0, omega arith, shows_new _ (g.met.L.KeyedList.by_key) _ (g.met.L.KeyedList.at_most) _ _ _ _ _ c.place_of-place.ensures.0 c.place_of-place.ensures.1 (sym c.stands_at.ensures ∙ c.if-stands_at.false) _ (omega arith) c.put_row.ensures.1, tt)
