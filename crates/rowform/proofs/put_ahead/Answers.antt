-- `rowform::put_ahead` meets its contract. Assumes nothing.
use native.Mathlib.Omega.{arith}
use Rattle.printing.proofs.PrintLaws.{printed_then, printed_as}
use Rattle.rowform.proofs.LineLaws.{ahead_single, ahead_double}
use Rattle.rowform.proofs.put_ahead.Goals as goal

pub returns-in-0-to-9 : goal.returns-in-0-to-9
returns-in-0-to-9 c = printed_as (ahead_single _ (omega arith)) c.bytes.ensures

pub returns-in-10-to-99 : goal.returns-in-10-to-99
returns-in-10-to-99 c = printed_as (ahead_double _ (omega arith) (omega arith)) c.bytes-in-10-to-99.ensures

pub returns-in_default : goal.returns-in_default
returns-in_default c = printed_then c.number.ensures c.byte.ensures
