-- `sorted::keyed::row_joined` meets its contract. Assumes nothing.
use mathlib.Core.Path.{refl}
use Rattle.sorted.proofs.HandedLaws.{err_is}
use Rattle.sorted.proofs.KeyedLaws.{shows_unkeyed, shows_joined}
use Rattle.sorted.proofs.keyed.row_joined.Goals as goal

pub returns-in_err-key : goal.returns-in_err-key
returns-in_err-key g c =
    let e = err_is _ _ c.from_residual.ensures.1 in
    (refl, rw e tt, shows_unkeyed _ (g.met.L.KeyedList.by_key) _ _ _ _ _ _ _ _ _ c.key_of.ensures c.in_err-key.was e, rw e refl)

pub returns : goal.returns
returns g c = (c.join.ensures.0, c.join.ensures.1, shows_joined _ (g.met.L.KeyedList.by_key) _ _ _ _ _ _ _ _ c.key_of.ensures c.in_ok-key.was c.requires.2 _ c.join.ensures.2, c.join.ensures.3)
