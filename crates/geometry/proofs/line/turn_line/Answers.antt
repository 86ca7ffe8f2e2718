-- `geometry::line::turn_line` meets its contract. Assumes nothing.
use Rattle.std.proofs.Common.{◌≡◌, arith, rules}
use Rattle.geometry.proofs.LineLaws.{code_greatest, code_factor, code_rows, turn_by}
use Rattle.geometry.proofs.line.turn_line.Goals as goal

pub returns-in-14 : goal.returns-in-14
returns-in-14 c = turn_by _ _ _ _ _ _ _ (code_greatest _ c.in-14.is) (c.greatest_line.ensures _)

pub returns-in-15 : goal.returns-in-15
returns-in-15 c = turn_by _ _ _ _ _ _ _ (code_factor _ (λ e. omega (arith, c.in-15.is)) c.in-15.is) (c.factor_line.ensures _)

pub returns-in_default : goal.returns-in_default
returns-in_default c = turn_by _ _ _ _ _ _ _ (code_rows c.args.code (λ (e : c.args.code ≡ 14). search rules) (λ (e : c.args.code ≡ 15). search rules)) c.row_line.ensures
