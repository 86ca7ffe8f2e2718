-- `geometry::line::greatest_line` meets its contract. Assumes nothing.
use mathlib.Core.Path.{sym, ◌∙◌}
use Rattle.geometry.proofs.LineLaws.{handed, shape_of, greatest_wrong, greatest_kept}
use Rattle.geometry.proofs.line.greatest_line.Goals as goal

pub returns-in_err-greatest : goal.returns-in_err-greatest
returns-in_err-greatest c = λ atoms.
    let e = c.in_err-greatest.ensures in
    greatest_wrong _ _ atoms (sym c.greatest_value.ensures.says ∙ e.ok_part) _ (rw (← shape_of _ _ e.ok_part e.value) (handed _ _ c.from_residual.ensures.1))

pub returns : goal.returns
returns c = λ atoms. greatest_kept _ _ atoms _ (sym c.greatest_value.ensures.says ∙ c.in_ok-greatest.ensures.ok_part)
