-- `sorted::keyed::line_joined` meets its contract. Assumes nothing.
use mathlib.Core.Path.{refl, sym, ◌∙◌}
use Rattle.sorted.proofs.HandedLaws.{err_is}
use Rattle.sorted.proofs.KeyedLaws.{shows_blank, shows_unshaped, shows_row}
use Rattle.sorted.proofs.keyed.line_joined.Goals as goal

pub returns-then-is_bare : goal.returns-then-is_bare
returns-then-is_bare g c = (refl, c.requires.1, shows_blank _ _ _ _ _ (sym c.is_bare.ensures ∙ c.if-is_bare.true))

pub returns-in_err-row : goal.returns-in_err-row
returns-in_err-row g c =
    let e = err_is _ _ c.from_residual.ensures.1 in
    (refl, rw e tt, shows_unshaped _ _ _ _ _ (sym c.is_bare.ensures ∙ c.if-is_bare.false) _ c.row.ensures _ _ _ c.in_err-row.was e)

pub returns : goal.returns
returns g c = (c.row_joined.ensures.0, c.row_joined.ensures.1, shows_row _ _ _ _ _ (sym c.is_bare.ensures ∙ c.if-is_bare.false) _ c.row.ensures _ _ _ c.in_ok-row.was c.row_joined.ensures.2)
