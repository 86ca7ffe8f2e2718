-- `form::listing::put_rows` meets its contract. Assumes nothing.
use mathlib.Core.Path.{◌≡◌}
use mathlib.Core.Bool.{true}
use lib.ListN.{drop}
use Rattle.format.specs.Structure.{rows_of}
use Rattle.format.specs.Table.{decode}
use Rattle.printing.specs.Printing.{Rests}
use Rattle.rowform.specs.Lines.{list_of}
use Rattle.form.specs.Listing.{groups_fit, rows_text}
use Rattle.form.proofs.listing.put_rows.Given as goal

abbrev pub invariant-loop-i : goal.invariant-loop-i
invariant-loop-i l = groups_fit (rows_of (list_of l.list) (decode l.table)) ≡ true → Rests l.initial.sheet (rows_text (list_of l.list) (rows_of (list_of l.list) (decode l.table))) l.sheet (rows_text (list_of l.list) (drop l.i (rows_of (list_of l.list) (decode l.table))))
