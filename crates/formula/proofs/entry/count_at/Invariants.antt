-- `formula::entry::count_at` meets its contract. Assumes nothing.
use Rattle.formula.proofs.EntryLaws.{Counting}
use Rattle.formula.proofs.entry.count_at.Given as goal

abbrev pub invariant-loop-i : goal.invariant-loop-i
invariant-loop-i l = Counting l.value l.at l.i l.count
