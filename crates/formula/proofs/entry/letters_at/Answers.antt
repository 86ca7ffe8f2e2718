-- `formula::entry::letters_at` meets its contract. Assumes nothing.
use mathlib.Core.Path.{sym, ◌∙◌}
use Rattle.formula.proofs.EntryLaws.{letters_one, letters_two}
use Rattle.formula.proofs.entry.letters_at.Goals as goal

pub returns-then-is_lower : goal.returns-then-is_lower
returns-then-is_lower c =
    let f = c.in_ok-second.ensures.lookup.3 in
    letters_two _ _ _ _ f.0 (c.in_ok-first.ensures.lookup.3.1 0) (f.1 0) (sym c.is_upper.ensures ∙ c.if-not-is_upper.false) _ (sym c.is_lower.ensures ∙ c.if-is_lower.true) c.plain.ensures

pub returns : goal.returns
returns c =
    let f = c.in_ok-second.ensures.lookup.3 in
    letters_one _ _ _ _ f.0 (c.in_ok-first.ensures.lookup.3.1 0) (f.1 0) (sym c.is_upper.ensures ∙ c.if-not-is_upper.false) _ c.plain-2.ensures
