-- `geometry::line::factor_line` meets its contract. Assumes nothing.
use Rattle.geometry.proofs.LineLaws.{handed, factor_wrong, factor_kept}
use Rattle.geometry.proofs.line.factor_line.Goals as goal

pub returns-in_err-factor : goal.returns-in_err-factor
returns-in_err-factor c = λ atoms. factor_wrong _ _ atoms _ c.in_err-factor.ensures.says _ (handed _ _ c.from_residual.ensures.1)

pub returns : goal.returns
returns c = λ atoms. factor_kept _ _ _ c.in_ok-factor.ensures.says c.in_ok-factor.ensures.small atoms
