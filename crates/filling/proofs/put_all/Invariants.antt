-- `filling::put_all` meets its contract. Assumes nothing.
use Rattle.std.proofs.Common.{◌≡◌, map, take}
use Rattle.filling.specs.Filled.{signed_of, placed}
use Rattle.filling.proofs.put_all.Given as goal

abbrev pub invariant-loop-i : goal.invariant-loop-i
invariant-loop-i l = l.part ≡ placed l.initial.part l.at (map signed_of (take l.i l.numbers))
