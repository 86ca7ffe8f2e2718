-- `symbols::letters` meets its contract. Assumes nothing.
use mathlib.Core.Path.{refl, sym, ◌∙◌}
use native.Mathlib.Omega.{arith}
use Rattle.symbols.proofs.SpellingLaws.{letters_none, letters_long, letters_one, letters_two, both_first, both_second}
use Rattle.symbols.proofs.letters.Goals.{then-is_upper, else-is_upper}
use Rattle.symbols.proofs.letters.Goals as goal

pub returns-in-len1-clause-says : goal.returns-in-len1-clause-says
returns-in-len1-clause-says c = letters_one _ _ _ _ _ c.then_some.ensures _ (omega arith) c.is_upper.ensures refl

pub returns-after-is_upper-clause-says : goal.returns-after-is_upper-clause-says
returns-after-is_upper-clause-says c =
    letters_two _ _ _ _ _ c.then_some-in-len2.ensures _ (omega arith)
    (elim c.if-is_upper.branch [
      | then-is_upper w ↦ both_second _ _ _ (sym c.is_upper-in-len2.ensures ∙ w.if-is_upper.true) (w.then_some-is ∙ w.is_lower.ensures)
      | else-is_upper w ↦ both_first _ _ _ (sym c.is_upper-in-len2.ensures ∙ w.if-is_upper.false) (w.then_some-is ∙ c.is_upper-in-len2.ensures)
    ])
    refl

pub returns-in_default-clause-says : goal.returns-in_default-clause-says
returns-in_default-clause-says c = letters_none _ _ _ (omega (arith, c.in_default.len_below))

pub returns-in_default-2-clause-says : goal.returns-in_default-2-clause-says
returns-in_default-2-clause-says c = letters_long _ _ _ (omega (arith, c.in_default.len_at_least))
