-- `filling::records::fill_values` meets its contract. Assumes nothing.
use Rattle.std.proofs.Common.{◌≡◌}
use Rattle.filling.specs.Filled.{value_out, copied}
use Rattle.filling.proofs.records.fill_values.Given as goal

abbrev pub invariant-loop-i : goal.invariant-loop-i
invariant-loop-i l = l.part ≡ copied 1 value_out 64 l.i l.values
