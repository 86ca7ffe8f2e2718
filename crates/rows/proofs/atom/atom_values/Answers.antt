-- `rows::atom::atom_values` meets its contract. Assumes nothing.
use mathlib.Core.Path.{refl, ap, ◌∙◌}
use Rattle.std.specs.Prelude.{option_map}
use Rattle.std.specs.declared.option.Option.TheVariants.{None, Some}
use Rattle.symbols.specs.ShownSymbols.{sym_of_mark}
use Rattle.rows.specs.Answers.{atom_row_of}
use Rattle.rows.proofs.PartLaws.{behind_atom}
use Rattle.rows.proofs.ShapeLaws.{no_number, atom_is}
use Rattle.rows.proofs.atom.atom_values.Goals as goal

pub returns-in_err-atom-clause-says : goal.returns-in_err-atom-clause-says
returns-in_err-atom-clause-says c = ap (option_map atom_row_of) c.from_residual.ensures ∙ no_number _ c.in_err-atom.ensures

pub returns-in_err-mark-clause-says : goal.returns-in_err-mark-clause-says
returns-in_err-mark-clause-says c =
    let atom = c.in_ok-atom.ensures in
    ap (option_map atom_row_of) c.from_residual-in_err-mark.ensures
    ∙ atom_is _ _ atom.is _ (behind_atom _ _ atom) _ c.next_field-field.ensures None _ c.in_err-mark.ensures.says refl

pub returns-in_err-hydrogens-clause-says : goal.returns-in_err-hydrogens-clause-says
returns-in_err-hydrogens-clause-says c =
    let atom = c.in_ok-atom.ensures in
    ap (option_map atom_row_of) c.from_residual-in_err-hydrogens.ensures
    ∙ atom_is _ _ atom.is _ (behind_atom _ _ atom) _ c.next_field-field.ensures (Some (sym_of_mark c.in_ok-mark.mark)) None c.in_ok-mark.ensures.says c.in_err-hydrogens.ensures.says

pub returns-clause-says : goal.returns-clause-says
returns-clause-says c =
    let atom = c.in_ok-atom.ensures in
    atom_is _ _ atom.is _ (behind_atom _ _ atom) _ c.next_field-field.ensures (Some (sym_of_mark c.in_ok-mark.mark)) (Some c.in_ok-hydrogens.hydrogens) c.in_ok-mark.ensures.says c.in_ok-hydrogens.ensures.says
