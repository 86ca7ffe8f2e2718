-- `symbols::symbol` meets its contract. Assumes nothing.
use mathlib.Core.Path.{ap, ◌∙◌}
use Rattle.std.specs.Option.{option_map}
use Rattle.symbols.specs.ShownSymbols.{sym_of_mark}
use Rattle.symbols.proofs.SpellingLaws.{symbol_nil, symbol_massed, symbol_lettered}
use Rattle.symbols.proofs.symbol.Goals as goal

pub returns-in_err-first-clause-says : goal.returns-in_err-first-clause-says
returns-in_err-first-clause-says c = ap (option_map sym_of_mark) c.from_residual.ensures ∙ symbol_nil _ c.in_err-first.ensures.cases

pub returns-then-first-eq94-clause-says : goal.returns-then-first-eq94-clause-says
returns-then-first-eq94-clause-says c = c.with_mass.ensures.says ∙ symbol_massed _ _ _ c.in_ok-first.ensures.cases.0 c.if-first-eq94.true

pub returns-clause-says : goal.returns-clause-says
returns-clause-says c = c.letters.ensures.says ∙ symbol_lettered _ _ _ c.in_ok-first.ensures.cases.0 c.if-first-eq94.false
