-- `elements::mass_fits` meets its contract. Assumes nothing.
use mathlib.Core.Path.{sym, ◌∙◌}
use native.Mathlib.Omega.{arith}
use borrow.Author.Tests.{not-true, not-false}
use Rattle.symbols.specs.ShownSymbols.{sym_of_mark}
use Rattle.elements.proofs.IsotopeLaws.{massless, mass_under, mass_over, mass_in}
use Rattle.elements.proofs.mass_fits.Goals as goal

pub returns-then-not-mark : goal.returns-then-not-mark
returns-then-not-mark c = c.if-not-mark.true ∙ sym (massless (sym_of_mark c.args.mark) (not-true _ c.if-not-mark.true))

pub returns-in-1-to-300 : goal.returns-in-1-to-300
returns-in-1-to-300 c = mass_in (sym_of_mark c.args.mark) (not-false _ c.if-not-mark.false) (omega arith) (omega arith)

pub returns-in_default : goal.returns-in_default
returns-in_default c = mass_under (sym_of_mark c.args.mark) (not-false _ c.if-not-mark.false) (omega arith)

pub returns-in_default-2 : goal.returns-in_default-2
returns-in_default-2 c = mass_over (sym_of_mark c.args.mark) (not-false _ c.if-not-mark.false) (omega arith)
