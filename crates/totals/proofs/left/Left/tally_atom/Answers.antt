-- `totals::Left::tally_atom` meets its contract. Assumes nothing.
use native.Mathlib.Omega.{arith}
use Rattle.totals.proofs.LeftLaws.{heavy_added}
use Rattle.totals.proofs.TallyLaws.{atom_light}
use Rattle.totals.proofs.left.Left.tally_atom.Goals as goal

pub returns-then-mass-eq0-clause-added : goal.returns-then-mass-eq0-clause-added
returns-then-mass-eq0-clause-added c = λ h k z. atom_light c.args.self.now c.add.new.self _ _ c.if-mass-eq0.true c.add.ensures.cells c.add.ensures.added h k

pub returns-clause-added : goal.returns-clause-added
returns-clause-added c =
    let l = c.args.self.now in
    λ h k z. heavy_added l.counts l.elements l.masses _ _ _ (omega (arith, l.elements_long)) (omega (arith, l.masses_long)) z (omega arith)
