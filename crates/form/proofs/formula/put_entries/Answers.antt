-- `form::formula::put_entries` meets its contract. Assumes nothing.
use Rattle.printing.proofs.PrintLaws.{printed_none, printed_as, rest_all, rest_as}
use Rattle.form.proofs.EntryLaws.{entries_none, entries_from, entries_on_lem, entries_end}
use Rattle.form.proofs.formula.put_entries.Goals as goal

pub returns-in_default : goal.returns-in_default
returns-in_default c = printed_as (entries_none _ c.in_default.len_below) printed_none

pub loop-entry-init : goal.loop-entry-init
loop-entry-init c = rest_as (entries_from _ _ c.in-len1-up.len_at_least) rest_all

pub loop-entry-preserved : goal.loop-entry-preserved
loop-entry-preserved c = entries_on_lem c.args.entries.now c.loop-entry.group c.loop-entry.entry-index _ c.loop-entry-test.true c.put_next.ensures c.loop-entry.invariant

pub returns : goal.returns
returns c = entries_end c.args.entries.now c.loop-entry.group c.loop-entry.entry-index c.loop-entry-test.false c.loop-entry.invariant
