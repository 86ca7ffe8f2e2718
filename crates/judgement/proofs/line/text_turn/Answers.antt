-- `judgement::line::text_turn` meets its contract. Assumes nothing.
use mathlib.Core.Path.{sym, ap}
use native.Mathlib.Omega.{arith}
use Rattle.std.specs.declared.result.Result.TheVariants.{Ok}
use Rattle.judgement.proofs.LineTurnLaws.{text_title, text_origin, text_owner}
use Rattle.judgement.proofs.line.text_turn.Goals as goal

pub returns-in-1 : goal.returns-in-1
returns-in-1 c = ap Ok (sym (text_title _ _ _ c.in-1.is))

pub returns-in-3 : goal.returns-in-3
returns-in-3 c = ap Ok (sym (text_origin _ _ _ (λ e. omega arith) c.in-3.is))

pub returns-in_default : goal.returns-in_default
returns-in_default c = ap Ok (sym (text_owner _ _ _ (λ e. omega arith) (λ e. omega arith)))
