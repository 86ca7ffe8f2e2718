-- `totals::all_zero` meets its contract. Assumes nothing.
use mathlib.Core.Path.{refl, sym, ◌∙◌}
use lib.ListN.{get_or}
use Rattle.totals.specs.Left.{is_zero}
use Rattle.totals.proofs.LeftLaws.{seen_more, clear_on, clear_end}
use Rattle.totals.proofs.all_zero.Goals as goal

pub loop-cell-init : goal.loop-cell-init
loop-cell-init c = refl

pub loop-cell-preserved : goal.loop-cell-preserved
loop-cell-preserved c = c.loop-cell.invariant ∙ clear_on _ _ (is_zero c.loop-cell.seen) _ c.loop-cell-test.true (seen_more c.loop-cell.seen (get_or c.args.cells.now c.loop-cell.cell-index 0))

pub returns : goal.returns
returns c = sym (c.loop-cell.invariant ∙ clear_end _ _ (is_zero c.loop-cell.seen) c.loop-cell-test.false)
