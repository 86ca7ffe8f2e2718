-- `gather::runs::atom_run` meets its contract. Assumes nothing.
use native.Mathlib.Omega.{arith}
use borrow.Author.Rules.{rules}
use Rattle.quick.specs.Quick.{AtomIs}
use Rattle.gather.proofs.TurnLaws.{part_long}
use Rattle.gather.proofs.RunLaws.{some_is, atoms_more}
use Rattle.gather.proofs.runs.atom_run.Goals as goal

pub loop-count-preserved : goal.loop-count-preserved
loop-count-preserved c =
    let w = part_long 0 768 c.loop-count.scratch (search rules) (omega arith) in
    let row = some_is (AtomIs c.args.block.now c.loop-count.place) _ _ c.in-Some.is c.quick_atom.ensures in
    atoms_more _ _ _ _ _ _ _ _ c.loop-count.invariant _ row c.if-quick-listed.false _ c.isotope_of-isotope.ensures c.if-isotope-eq0.false c.loop-count-test.true _ (c.put_atom.ensures.1 w c.loop-count-test.true)
