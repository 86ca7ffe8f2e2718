-- `rows::pair::pair_values` meets its contract. Assumes nothing.
use mathlib.Core.Path.{refl, ap, ◌∙◌}
use Rattle.std.specs.Prelude.{option_map}
use Rattle.std.specs.declared.option.Option.TheVariants.{None, Some}
use Rattle.format.specs.Rows.{row_shape, group}
use Rattle.rows.specs.Answers.{pair_row_of}
use Rattle.rows.proofs.ShapeLaws.{no_atoms, marked_is}
use Rattle.rows.proofs.pair.pair_values.Goals as goal

pub returns-in_err-atoms-clause-says : goal.returns-in_err-atoms-clause-says
unfolding row_shape
returns-in_err-atoms-clause-says c = ap (option_map pair_row_of) c.from_residual.ensures ∙ no_atoms 2 0 "0PM" group _ c.in_err-atoms.ensures

pub returns-in_err-side-clause-says : goal.returns-in_err-side-clause-says
unfolding row_shape
returns-in_err-side-clause-says c =
    let front = c.in_ok-atoms.ensures in
    ap (option_map pair_row_of) c.from_residual-in_err-side.ensures
    ∙ marked_is 2 0 "0PM" group _ _ front.are _ front.behind _ c.next_field-field.ensures None _ c.in_err-side.ensures.says refl

pub returns-in_err-group-clause-says : goal.returns-in_err-group-clause-says
unfolding row_shape
returns-in_err-group-clause-says c =
    let front = c.in_ok-atoms.ensures in
    ap (option_map pair_row_of) c.from_residual-in_err-group.ensures
    ∙ marked_is 2 0 "0PM" group _ _ front.are _ front.behind _ c.next_field-field.ensures (Some c.in_ok-side.side) None c.in_ok-side.ensures.says c.in_err-group.ensures.says

pub returns-clause-says : goal.returns-clause-says
unfolding row_shape
returns-clause-says c =
    let front = c.in_ok-atoms.ensures in
    marked_is 2 0 "0PM" group _ _ front.are _ front.behind _ c.next_field-field.ensures (Some c.in_ok-side.side) (Some c.in_ok-group.group) c.in_ok-side.ensures.says c.in_ok-group.ensures.says
