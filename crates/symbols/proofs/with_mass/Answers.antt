-- `symbols::with_mass` meets its contract. Assumes nothing.
use mathlib.Core.Path.{sym, ap, ◌∙◌}
use Rattle.std.specs.Option.{option_map}
use Rattle.symbols.specs.ShownSymbols.{sym_of_mark}
use Rattle.symbols.proofs.SpellingLaws.{massed_none, massed_some}
use Rattle.symbols.proofs.with_mass.Goals as goal

pub returns-in_err-mass-clause-says : goal.returns-in_err-mass-clause-says
returns-in_err-mass-clause-says c = ap (option_map sym_of_mark) c.from_residual.ensures ∙ massed_none _ _ c.run_end-end.ensures (sym c.mass.ensures.says ∙ c.in_err-mass.was)

pub returns-clause-says : goal.returns-clause-says
returns-clause-says c = c.letters.ensures.says ∙ massed_some _ _ c.run_end-end.ensures _ (sym c.mass.ensures.says ∙ c.in_ok-mass.was)
