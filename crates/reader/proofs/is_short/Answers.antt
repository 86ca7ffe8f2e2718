-- `reader::is_short` meets its contract. Assumes nothing.
use mathlib.Core.Path.{sym}
use mathlib.Core.Logic.{inl}
use Rattle.format.specs.Table.{lent}
use Rattle.format.proofs.RefusedLaws.{either_short}
use Rattle.reader.proofs.LentLaws.{short_rest}
use Rattle.reader.proofs.is_short.Goals as goal

pub returns-then-table-lt-SIZE : goal.returns-then-table-lt-SIZE
returns-then-table-lt-SIZE c = sym (either_short (lent c.args.table.now c.args.positions.now) (inl c.if-table-lt-SIZE.true))

pub returns : goal.returns
returns c = short_rest (lent c.args.table.now c.args.positions.now) c.if-table-lt-SIZE.false
