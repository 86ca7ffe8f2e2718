-- `molform::formula_verdict` meets its contract. Assumes nothing.
use mathlib.Core.Path.{◌≡◌}
use Rattle.format.specs.Formula.{formula_shape}
use Rattle.formula.specs.Machine.{Sized}
use Rattle.molform.proofs.PassLaws.{whole_from}
use Rattle.molform.specs.Verdicts.{formula_verdict, refusal_with}
use Rattle.molform.proofs.formula_verdict.Given as goal

abbrev pub invariant-loop-byte : goal.invariant-loop-byte
invariant-loop-byte l = Sized l.pass.state × (formula_verdict l.last (formula_shape l.value) ≡ whole_from (refusal_with l.last) l.byte-items l.pass l.byte-index)
