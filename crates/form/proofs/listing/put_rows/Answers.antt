-- `form::listing::put_rows` meets its contract. Assumes nothing.
use native.Mathlib.Omega.{arith}
use Rattle.rowform.specs.Lines.{list_of}
use Rattle.printing.proofs.PrintLaws.{rest_all}
use Rattle.form.proofs.ListingLaws.{rows_on, rows_end}
use Rattle.form.proofs.listing.put_rows.Goals as goal

pub loop-i-init : goal.loop-i-init
loop-i-init c = λ fit. rest_all

pub loop-i-preserved : goal.loop-i-preserved
loop-i-preserved c = rows_on (list_of c.args.list) c.args.table.now c.loop-i.i (omega (arith, c.requires.0)) (c.put_row.ensures.printed.0 (omega arith, omega arith)) c.loop-i.invariant

pub returns : goal.returns
returns c = rows_end (list_of c.args.list) c.args.table.now c.loop-i.i (omega (arith, c.requires.0)) c.loop-i.invariant
