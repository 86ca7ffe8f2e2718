-- `totals::Left::none_left` meets its contract. Assumes nothing.
use mathlib.Core.Path.{sym, ◌∙◌}
use native.Mathlib.Omega.{arith}
use Rattle.totals.proofs.LeftLaws.{count_left, mass_left}
use Rattle.totals.proofs.left.Left.none_left.Goals as goal

pub returns-then-not-all_zero : goal.returns-then-not-all_zero
returns-then-not-all_zero c = let l = c.args.self.now in count_left l.counts l.elements l.masses (sym c.all_zero.ensures ∙ c.if-not-all_zero.true)

pub returns : goal.returns
returns c =
    let l = c.args.self.now in mass_left l.counts l.elements l.masses (sym c.all_zero.ensures ∙ c.if-not-all_zero.false) (omega (arith, l.elements_long, l.masses_long)) _ c.all_zero-2.ensures
