-- `soundness::numbered::rows_in_order` meets its contract. Assumes nothing.
use mathlib.Core.Path.{sym, ◌∙◌}
use native.Mathlib.Omega.{arith}
use Rattle.format.proofs.PlaceLaws.{atom_place_lem, atom_small}
use Rattle.soundness.proofs.NumberedLoop.{higher_le, turn_at_beyond, turn_at_on, turn_at_end}
use Rattle.soundness.proofs.InTurnLaws.{turn_none}
use Rattle.soundness.proofs.numbered.rows_in_order.Goals as goal

pub returns-then-rows-eq0 : goal.returns-then-rows-eq0
returns-then-rows-eq0 c = turn_none _ _ c.if-rows-eq0.true c.requires.2

pub overflow_add-atom : goal.overflow_add-atom
overflow_add-atom c = omega (arith, atom_small _ _ c.atom.ensures)

pub returns-then-met-row : goal.returns-then-met-row
returns-then-met-row c = sym (c.loop-i.invariant.1 ∙ turn_at_beyond _ _ _ _ _ _ c.requires.0 c.loop-i-test.true _ (c.atom.ensures ∙ atom_place_lem c.loop-i.i (omega arith)) _ c.cell-row.ensures c.if-met-row.true)

pub loop-i-preserved : goal.loop-i-preserved
loop-i-preserved c = (higher_le _ _ _ _ c.max-met.ensures c.loop-i.invariant.0 c.if-met-row.false, c.loop-i.invariant.1 ∙ turn_at_on _ _ _ _ _ _ c.requires.0 c.loop-i-test.true _ (c.atom.ensures ∙ atom_place_lem c.loop-i.i (omega arith)) _ _ c.cell-row.ensures c.if-met-row.false c.max-met.ensures)

pub returns-then-rows-met : goal.returns-then-rows-met
returns-then-rows-met c = grind (arith, c.loop-i.invariant.1, turn_at_end c.loop-i.met c.args.rows c.args.column c.args.atoms c.args.table.now c.loop-i.i c.loop-i-test.false)

pub returns-else-rows-met : goal.returns-else-rows-met
returns-else-rows-met c = grind (arith, c.loop-i.invariant.1, turn_at_end c.loop-i.met c.args.rows c.args.column c.args.atoms c.args.table.now c.loop-i.i c.loop-i-test.false)
