-- `form::formula::put_entries` meets its contract. Assumes nothing.
use Rattle.form.proofs.EntryLaws.{EntriesRest}
use Rattle.form.proofs.formula.put_entries.Given as goal

abbrev pub invariant-loop-entry : goal.invariant-loop-entry
invariant-loop-entry l = EntriesRest l.entries l.initial.sheet l.sheet l.group l.entry-index
