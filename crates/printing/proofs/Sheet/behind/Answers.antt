-- `printing::Sheet::behind` meets its contract. Assumes nothing.
use native.Mathlib.Omega.{arith}
use Rattle.printing.proofs.PrintLaws.{printed_then, printed_as}
use Rattle.printing.proofs.NumberLaws.{behind_single, behind_double, behind_triple}
use Rattle.printing.proofs.Sheet.behind.Goals as goal

pub returns-in-0-to-9 : goal.returns-in-0-to-9
returns-in-0-to-9 c = printed_as (behind_single _ (omega arith)) c.bytes.ensures

pub returns-in-10-to-99 : goal.returns-in-10-to-99
returns-in-10-to-99 c = printed_as (behind_double _ (omega arith) (omega arith)) c.bytes-in-10-to-99.ensures

pub returns-in-100-to-999 : goal.returns-in-100-to-999
returns-in-100-to-999 c = printed_as (behind_triple _ (omega arith) (omega arith)) c.bytes-in-100-to-999.ensures

pub returns-in_default : goal.returns-in_default
returns-in_default c = printed_then c.byte.ensures c.number.ensures
