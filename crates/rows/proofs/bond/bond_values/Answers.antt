-- `rows::bond::bond_values` meets its contract. Assumes nothing.
use mathlib.Core.Path.{refl, sym, ap, ◌∙◌}
use Rattle.std.specs.Prelude.{option_map}
use Rattle.std.specs.declared.option.Option.TheVariants.{None, Some}
use Rattle.format.specs.Rows.{row_shape, nothing_more}
use Rattle.rows.specs.Answers.{bond_row_of}
use Rattle.rows.proofs.ShapeLaws.{no_atoms, marked_is, at_end_is}
use Rattle.rows.proofs.bond.bond_values.Goals as goal

pub returns-in_err-atoms-clause-says : goal.returns-in_err-atoms-clause-says
unfolding row_shape
returns-in_err-atoms-clause-says c = ap (option_map bond_row_of) c.from_residual.ensures ∙ no_atoms 2 1 "SDTQA" nothing_more _ c.in_err-atoms.ensures

pub returns-in_err-kind-clause-says : goal.returns-in_err-kind-clause-says
unfolding row_shape
returns-in_err-kind-clause-says c =
    let front = c.in_ok-atoms.ensures in
    ap (option_map bond_row_of) c.from_residual-in_err-kind.ensures
    ∙ marked_is 2 1 "SDTQA" nothing_more _ _ front.are _ front.behind _ c.next_field-field.ensures None _ c.in_err-kind.ensures.says refl

pub returns-then-not-at_end-clause-says : goal.returns-then-not-at_end-clause-says
unfolding row_shape
returns-then-not-at_end-clause-says c =
    let front = c.in_ok-atoms.ensures in
    marked_is 2 1 "SDTQA" nothing_more _ _ front.are _ front.behind _ c.next_field-field.ensures (Some c.in_ok-kind.kind) None c.in_ok-kind.ensures.says (at_end_is _ _ (sym c.if-not-at_end.true ∙ c.at_end.ensures))

pub returns-clause-says : goal.returns-clause-says
unfolding row_shape
returns-clause-says c =
    let front = c.in_ok-atoms.ensures in
    marked_is 2 1 "SDTQA" nothing_more _ _ front.are _ front.behind _ c.next_field-field.ensures (Some c.in_ok-kind.kind) (Some 0) c.in_ok-kind.ensures.says (at_end_is _ _ (sym c.if-not-at_end.false ∙ c.at_end.ensures))
