-- `rows::centre::centre_values` meets its contract. Assumes nothing.
use mathlib.Core.Path.{refl, ap, ◌∙◌}
use Rattle.std.specs.Prelude.{option_map}
use Rattle.std.specs.declared.option.Option.TheVariants.{None, Some}
use Rattle.format.specs.Rows.{row_shape, group}
use Rattle.rows.specs.Answers.{centre_row_of}
use Rattle.rows.proofs.PartLaws.{one_is, one_none, behind_atom}
use Rattle.rows.proofs.ShapeLaws.{no_atoms, marked_is}
use Rattle.rows.proofs.centre.centre_values.Goals as goal

pub returns-in_err-atom-clause-says : goal.returns-in_err-atom-clause-says
unfolding row_shape
returns-in_err-atom-clause-says c = ap (option_map centre_row_of) c.from_residual.ensures ∙ no_atoms 1 1 "PM" group _ (one_none _ c.in_err-atom.ensures)

pub returns-in_err-side-clause-says : goal.returns-in_err-side-clause-says
unfolding row_shape
returns-in_err-side-clause-says c =
    let atom = c.in_ok-atom.ensures in
    ap (option_map centre_row_of) c.from_residual-in_err-side.ensures
    ∙ marked_is 1 1 "PM" group _ _ (one_is _ _ atom.is) _ (behind_atom _ _ atom) _ c.next_field-field.ensures None _ c.in_err-side.ensures.says refl

pub returns-in_err-group-clause-says : goal.returns-in_err-group-clause-says
unfolding row_shape
returns-in_err-group-clause-says c =
    let atom = c.in_ok-atom.ensures in
    ap (option_map centre_row_of) c.from_residual-in_err-group.ensures
    ∙ marked_is 1 1 "PM" group _ _ (one_is _ _ atom.is) _ (behind_atom _ _ atom) _ c.next_field-field.ensures (Some c.in_ok-side.side) None c.in_ok-side.ensures.says c.in_err-group.ensures.says

pub returns-clause-says : goal.returns-clause-says
unfolding row_shape
returns-clause-says c =
    let atom = c.in_ok-atom.ensures in
    marked_is 1 1 "PM" group _ _ (one_is _ _ atom.is) _ (behind_atom _ _ atom) _ c.next_field-field.ensures (Some c.in_ok-side.side) (Some c.in_ok-group.group) c.in_ok-side.ensures.says c.in_ok-group.ensures.says
