-- `numbers::signed` meets its contract. Assumes nothing.
use mathlib.Core.Path.{◌∙◌}
use native.Mathlib.Omega.{arith}
use Rattle.numbers.proofs.NumeralLaws.{signed_plus, signed_minus, signed_bare, signed_none}
use Rattle.numbers.proofs.signed.Goals as goal

pub returns-in_err-sign-clause-says : goal.returns-in_err-sign-clause-says
returns-in_err-sign-clause-says c = c.from_residual.ensures ∙ signed_none _ c.in_err-sign.ensures.cases

pub returns-in-43-clause-says : goal.returns-in-43-clause-says
returns-in-43-clause-says c = c.natural.ensures.says ∙ signed_plus _ _ _ c.in_ok-sign.ensures.cases.0 c.in-43.is

pub returns-in-45-clause-says : goal.returns-in-45-clause-says
returns-in-45-clause-says c = c.negative.ensures.says ∙ signed_minus _ _ _ c.in_ok-sign.ensures.cases.0 c.in-45.is

pub returns-in_default-clause-says : goal.returns-in_default-clause-says
returns-in_default-clause-says c = c.natural-in_default.ensures.says ∙ signed_bare _ _ _ c.in_ok-sign.ensures.cases.0 (omega arith) (omega arith)
