-- `form::listing::put_atoms` meets its contract. Assumes nothing.
use native.Mathlib.Omega.{arith}
use Rattle.printing.proofs.PrintLaws.{rest_all, rest_on, rest_none}
use Rattle.rowform.proofs.PlaceLaws.{records_many}
use Rattle.form.proofs.ListingLaws.{atoms_on, atoms_end}
use Rattle.form.proofs.listing.put_atoms.Goals as goal

pub loop-i-init : goal.loop-i-init
loop-i-init c = rest_all

pub loop-i-preserved : goal.loop-i-preserved
loop-i-preserved c = rest_on (atoms_on c.args.table.now _ (omega (arith, c.count_at-i-end.ensures.0, records_many c.args.table.now))) (c.put_atom.ensures.0 (omega arith)) c.loop-i.invariant

pub returns : goal.returns
returns c = rest_none (atoms_end c.args.table.now c.loop-i.i (omega (arith, c.count_at-i-end.ensures.0, records_many c.args.table.now))) c.loop-i.invariant
