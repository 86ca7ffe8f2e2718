-- `filling::keyed::fill` meets its contract. Assumes nothing.
use Rattle.std.proofs.Common.{◌≡◌, ◌*◌}
use Rattle.filling.specs.Filled.{copied}
use Rattle.filling.proofs.keyed.fill.Given as goal

abbrev pub invariant-loop-i : goal.invariant-loop-i
invariant-loop-i g l = l.part ≡ copied 2 g.L.Keyed.out (g.row.WIDTH * g.row.MOST) l.i l.region
