-- `tally::gather` meets its contract. Assumes nothing.
use mathlib.Core.Path.{sym, ◌∙◌}
use mathlib.Core.List.{[]}
use native.Mathlib.Omega.{arith}
use lib.ListN.{drop}
use Rattle.std.proofs.Common.{rules}
use Rattle.tally.proofs.AtomLaws.{atom_dropped}
use Rattle.tally.proofs.GatherLaws.{of_table, no_labels}
use Rattle.tally.proofs.gather.Goals as goal
use Rattle.tally.proofs.gather.Goals.{After-gather_atoms}

pub returns-then-labels-atoms-clause-holds : goal.returns-then-labels-atoms-clause-holds
returns-then-labels-atoms-clause-holds c = no_labels c.args.table.now _ _ _ c.count_at-atoms.ensures.0 c.if-labels-atoms.true

pub returns-then-is_none-clause-holds : goal.returns-then-is_none-clause-holds
returns-then-is_none-clause-holds c =
    rw c.clear-then-is_none.ensures
    (of_table c.args.table.now (drop 16 c.front_of.result.now) c.args.labels.now _ _ [] c.count_at-atoms.ensures (λ i b. sym (atom_dropped c.front_of.result.now i) ∙ c.front_of.ensures i b) (omega arith) c.if-labels-atoms.false (c.gather_atoms.ensures.none (search rules)))

pub returns-else-is_none-clause-holds : goal.returns-else-is_none-clause-holds
returns-else-is_none-clause-holds c =
    of_table c.args.table.now (drop 16 c.front_of.result.now) c.args.labels.now _ _ _ c.count_at-atoms.ensures (λ i b. sym (atom_dropped c.front_of.result.now i) ∙ c.front_of.ensures i b) (omega arith) c.if-labels-atoms.false (c.gather_atoms.ensures.holds (search rules))
