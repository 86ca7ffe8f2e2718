-- `molform::entry_verdict` meets its contract. Assumes nothing.
use mathlib.Core.Path.{sym, ◌∙◌}
use native.Mathlib.Omega.{arith}
use Rattle.molform.proofs.VerdictLaws.{wrong_mass, wrong_count, symbol_unknown, symbol_known}
use Rattle.molform.proofs.entry_verdict.Goals.{then-not-mass_fits-via-then-not-mass_fits, then-not-mass_fits-via-else-not-mass_fits+then-not-matches}
use Rattle.molform.proofs.entry_verdict.Goals as goal

pub returns-then-not-mass_fits : goal.returns-then-not-mass_fits
returns-then-not-mass_fits c =
    elim c.then-not-mass_fits.branch [
      | then-not-mass_fits-via-then-not-mass_fits w ↦ wrong_mass _ _ (sym c.mass_fits.ensures ∙ w.if-not-mass_fits.true)
      | then-not-mass_fits-via-else-not-mass_fits+then-not-matches w ↦ wrong_count _ _ (λ l h. grind arith)
    ]

pub returns-then-isotope_of-eq0 : goal.returns-then-isotope_of-eq0
returns-then-isotope_of-eq0 c =
    symbol_unknown _ _ (sym c.mass_fits.ensures ∙ c.if-not-mass_fits.false) (grind arith) (grind arith) _ c.isotope_of.ensures c.if-isotope_of-eq0.true

pub returns : goal.returns
returns c =
    symbol_known _ _ (sym c.mass_fits.ensures ∙ c.if-not-mass_fits.false) (grind arith) (grind arith) _ c.isotope_of.ensures c.if-isotope_of-eq0.false
