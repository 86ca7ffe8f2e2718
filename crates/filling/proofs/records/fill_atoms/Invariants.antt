-- `filling::records::fill_atoms` meets its contract. Assumes nothing.
use Rattle.std.proofs.Common.{◌≡◌}
use Rattle.filling.specs.Filled.{atoms_out}
use Rattle.filling.proofs.records.fill_atoms.Given as goal

abbrev pub invariant-loop-i : goal.invariant-loop-i
invariant-loop-i l = l.part ≡ atoms_out l.kinds l.charges l.charge_order l.radicals l.radical_order l.i
