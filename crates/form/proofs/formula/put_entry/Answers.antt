-- `form::formula::put_entry` meets its contract. Assumes nothing.
use Rattle.form.proofs.EntryLaws.{entry_one, entry_more}
use Rattle.form.proofs.formula.put_entry.Goals as goal

pub returns-then-count-ne1 : goal.returns-then-count-ne1
returns-then-count-ne1 c = entry_more _ _ _ c.element_of.ensures c.if-count-ne1.true c.put_symbol.ensures c.number.ensures

pub returns-else-count-ne1 : goal.returns-else-count-ne1
returns-else-count-ne1 c = entry_one _ _ _ c.element_of.ensures c.if-count-ne1.false c.put_symbol.ensures
