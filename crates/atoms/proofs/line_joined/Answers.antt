-- `atoms::line_joined` meets its contract. Assumes nothing.
use mathlib.Core.Path.{refl, sym, ◌∙◌}
use Rattle.sorted.proofs.HandedLaws.{err_is}
use Rattle.atoms.proofs.AtomLineLaws.{shows_bare, shows_unshaped, shows_values}
use Rattle.atoms.proofs.line_joined.Goals as goal

pub returns-then-is_bare : goal.returns-then-is_bare
returns-then-is_bare c = (refl, c.requires.1, shows_bare _ _ _ _ (sym c.is_bare.ensures ∙ c.if-is_bare.true))

pub returns-in_err-row : goal.returns-in_err-row
returns-in_err-row c =
    let e = err_is _ _ c.from_residual.ensures.1 in
    (refl, rw e tt, shows_unshaped _ _ c.args.line.now _ (sym c.is_bare.ensures ∙ c.if-is_bare.false) _ c.atom_row.ensures.says _ _ _ c.in_err-row.was e)

pub returns : goal.returns
returns c =
    (c.atom_joined.ensures.0, c.atom_joined.ensures.1, shows_values _ _ c.args.line.now _ (sym c.is_bare.ensures ∙ c.if-is_bare.false) _ c.atom_row.ensures.says _ _ _ c.in_ok-row.was c.atom_joined.ensures.2)
