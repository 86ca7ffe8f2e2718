-- `formula::entry::quick_entry` meets its contract. Assumes nothing.
use Rattle.formula.proofs.EntryLaws.{past_gaps, entry_is}
use Rattle.formula.proofs.entry.quick_entry.Goals as goal

pub returns : goal.returns
returns c = entry_is _ _ _ _ _ _ (past_gaps _ _ _ c.run_end-from.ensures) c.in_ok-mark.ensures c.in_ok-count.ensures
