-- `elements::isotope_of` meets its contract. Assumes nothing.
use Prim.Native.Nat.{ℕ}
use mathlib.Core.Path.{sym, ap, ◌∙◌}
use native.Mathlib.Omega.{arith}
use Rattle.format.specs.Structure.{isotope_of}
use Rattle.symbols.specs.ShownSymbols.{sym_of_mark}
use Rattle.elements.proofs.IsotopeLaws.{deuterium, tritium, other}
use Rattle.elements.proofs.isotope_of.Goals as goal

pub returns-in-68-eq0 : goal.returns-in-68-eq0
returns-in-68-eq0 c = c.heavy_hydrogen.ensures ∙ sym (deuterium _ (sym_of_mark c.args.mark) c.in-68-eq0.is-1 c.in-68-eq0.is-0)

pub returns-in-84-eq0 : goal.returns-in-84-eq0
returns-in-84-eq0 c = c.heavy_hydrogen-in-84-eq0.ensures ∙ sym (tritium _ (sym_of_mark c.args.mark) c.in-84-eq0.is-1 c.in-84-eq0.is-0)

pub returns-in_default : goal.returns-in_default
returns-in_default c =
    ap (λ (e : ℕ). isotope_of e c.args.mark.mass) c.element_of.ensures ∙ sym (other _ (sym_of_mark c.args.mark) (λ z e. grind arith) (λ z e. grind arith))
