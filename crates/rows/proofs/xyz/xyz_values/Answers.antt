-- `rows::xyz::xyz_values` meets its contract. Assumes nothing.
use mathlib.Core.Path.{ap, ◌∙◌, sym}
use Rattle.std.specs.Prelude.{option_map}
use Rattle.rows.specs.Raised.{xyz_row_of}
use Rattle.rows.proofs.ShapeLaws.{no_atom}
use Rattle.rows.proofs.XyzLaws.{rows_small, no_x, no_y, no_z, row_is}
use Rattle.rows.proofs.xyz.xyz_values.Goals as goal

pub returns-in_err-atom-clause-says : goal.returns-in_err-atom-clause-says
returns-in_err-atom-clause-says c = ap (option_map xyz_row_of) c.from_residual.ensures ∙ no_atom _ c.in_err-atom.ensures

pub returns-in_err-x-clause-says : goal.returns-in_err-x-clause-says
returns-in_err-x-clause-says c = ap (option_map xyz_row_of) c.from_residual-in_err-x.ensures ∙ no_x _ _ c.in_ok-atom.ensures c.in_err-x.ensures

pub returns-in_err-y-clause-says : goal.returns-in_err-y-clause-says
returns-in_err-y-clause-says c = ap (option_map xyz_row_of) c.from_residual-in_err-y.ensures ∙ no_y _ _ c.in_ok-atom.ensures _ c.in_ok-x.ensures c.in_err-y.ensures

pub returns-in_err-z-clause-says : goal.returns-in_err-z-clause-says
returns-in_err-z-clause-says c = ap (option_map xyz_row_of) c.from_residual-in_err-z.ensures ∙ no_z _ _ c.in_ok-atom.ensures _ c.in_ok-x.ensures _ c.in_ok-y.ensures c.in_err-z.ensures

pub returns-then-not-at_end-clause-says : goal.returns-then-not-at_end-clause-says
returns-then-not-at_end-clause-says c = row_is _ _ c.in_ok-atom.ensures _ c.in_ok-x.ensures _ c.in_ok-y.ensures _ c.in_ok-z.ensures _ (sym c.if-not-at_end.true ∙ c.at_end.ensures)

pub returns-clause-says : goal.returns-clause-says
returns-clause-says c = row_is _ _ c.in_ok-atom.ensures _ c.in_ok-x.ensures _ c.in_ok-y.ensures _ c.in_ok-z.ensures _ (sym c.if-not-at_end.false ∙ c.at_end.ensures)

pub returns-clause-small : goal.returns-clause-small
returns-clause-small c = rows_small c.in_ok-atom.atom.number _ _ _ c.in_ok-x.ensures.small c.in_ok-y.ensures.small c.in_ok-z.ensures.small
