-- `quick::parts::symbol_at` meets its contract. Assumes nothing.
use mathlib.Core.Path.{sym, ◌∙◌}
use Rattle.quick.proofs.PieceLaws.{symbol_one, symbol_two}
use Rattle.quick.proofs.parts.symbol_at.Goals as goal

pub returns-then-is_lower : goal.returns-then-is_lower
returns-then-is_lower c = symbol_two _ _ c.requires (sym c.is_upper.ensures ∙ c.if-not-is_upper.false) (sym c.is_lower.ensures ∙ c.if-is_lower.true) _ c.plain.ensures

pub returns : goal.returns
returns c = symbol_one _ _ c.requires (sym c.is_upper.ensures ∙ c.if-not-is_upper.false) _ c.plain-2.ensures
