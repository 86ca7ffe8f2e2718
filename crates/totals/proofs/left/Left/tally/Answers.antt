-- `totals::Left::tally` meets its contract. Assumes nothing.
use native.Mathlib.Omega.{arith}
use Prim.Native.Nat.{ℕ}
use mathlib.Core.Path.{ap, ◌∙◌}
use mathlib.Core.List.{List}
use lib.ListN.{get_or}
use Rattle.totals.proofs.TallyLaws.{tally_starts, tally_on}
use Rattle.totals.proofs.left.Left.tally.Goals as goal

pub loop-i-init : goal.loop-i-init
loop-i-init c =
    let l = c.args.self.now in (λ n h. c.requires.3 n, tally_starts c.args.kinds.now l.counts l.elements l.masses c.args.atoms c.requires.2 c.requires.3)

pub loop-i-preserved : goal.loop-i-preserved
loop-i-preserved c =
    let l = c.loop-i in (λ m h. c.tally_atom.ensures.later m (omega arith) ∙ ap (λ (ms : List ℕ). get_or ms m 0) c.add.ensures.cells.1 ∙ l.invariant.0 m (omega arith), tally_on c.args.kinds.now c.args.atoms l.i l.self c.add.new.self c.tally_atom.new.self c.loop-i-test.true c.requires.1 (l.invariant.0 l.i (omega arith)) l.invariant.1 c.add.ensures.cells c.add.ensures.added c.tally_atom.ensures.added)
