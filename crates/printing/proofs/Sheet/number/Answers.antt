-- `printing::Sheet::number` meets its contract. Assumes nothing.
use native.Mathlib.Omega.{arith}
use Rattle.printing.proofs.PrintLaws.{printed_as}
use Rattle.printing.proofs.NumberLaws.{digits_single, digits_double, digits_triple, digits_all}
use Rattle.printing.proofs.Sheet.number.Goals as goal

pub returns-in-0-to-9 : goal.returns-in-0-to-9
returns-in-0-to-9 c = printed_as (digits_single _ (omega arith)) c.byte.ensures

pub returns-in-10-to-99 : goal.returns-in-10-to-99
returns-in-10-to-99 c = printed_as (digits_double _ (omega arith) (omega arith)) c.bytes.ensures

pub returns-in-100-to-999 : goal.returns-in-100-to-999
returns-in-100-to-999 c = printed_as (digits_triple _ (omega arith) (omega arith)) c.bytes-in-100-to-999.ensures

pub returns-in_default : goal.returns-in_default
returns-in_default c = printed_as (digits_all _) c.digits.ensures
