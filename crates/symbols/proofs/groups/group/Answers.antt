-- `symbols::groups::group` meets its contract. Assumes nothing.
use mathlib.Core.Path.{◌≡◌, sym, ap, ◌∙◌}
use mathlib.Core.Bool.{◌||◌}
use native.Mathlib.Omega.{arith}
use lib.ListN.{get_or}
use Rattle.std.specs.Bool.{then_some}
use Rattle.format.specs.Rows.{upper, lower}
use Rattle.symbols.proofs.LetterLaws.{group_long, group_zero, group_letter, group_small}
use Rattle.symbols.proofs.SpellingLaws.{either_first, either_second}
use Rattle.symbols.proofs.groups.group.Goals.{then-is_upper, else-is_upper, After-then_some}
use Rattle.symbols.proofs.groups.group.Goals as goal

pub returns-in_default-clause-says : goal.returns-in_default-clause-says
returns-in_default-clause-says c = group_long _ (omega (arith, c.in_default.len_below))

pub returns-in_default-2-clause-says : goal.returns-in_default-2-clause-says
returns-in_default-2-clause-says c = group_long _ (omega (arith, c.in_default.len_at_least))

pub returns-then-letter-eq48-clause-says : goal.returns-then-letter-eq48-clause-says
returns-then-letter-eq48-clause-says c = group_zero _ (omega arith) c.if-letter-eq48.true

-- whether the byte is a letter
letter : (c : After-then_some) → c.if-is_upper.then_some ≡ (upper (get_or c.args.word.now 0 0) || lower (get_or c.args.word.now 0 0))
letter c =
    elim c.if-is_upper.branch [
      | then-is_upper w ↦ either_first _ _ _ (sym c.is_upper.ensures ∙ w.if-is_upper.true) (w.then_some-is ∙ c.is_upper.ensures)
      | else-is_upper w ↦ either_second _ _ _ (sym c.is_upper.ensures ∙ w.if-is_upper.false) (w.then_some-is ∙ w.is_lower.ensures)
    ]

pub returns-clause-says : goal.returns-clause-says
returns-clause-says c = c.then_some.ensures ∙ ap (then_some c.if-is_upper.then_some) c.from.ensures ∙ group_letter _ (omega arith) _ (letter c) c.if-letter-eq48.false

pub returns-clause-small : goal.returns-clause-small
returns-clause-small c = rw (c.then_some.ensures, c.from.ensures) (group_small c.args.word.now (omega arith) _ (letter c))
