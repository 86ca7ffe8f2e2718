-- `rowform::rows::put_members` meets its contract. Assumes nothing.
use native.Mathlib.Omega.{arith}
use Rattle.printing.proofs.PrintLaws.{printed_then, rest_all, rest_on, rest_none}
use Rattle.format.proofs.PlaceLaws.{atom_small}
use Rattle.rowform.proofs.PlaceLaws.{records_many}
use Rattle.rowform.proofs.RowLaws.{members_on, members_end}
use Rattle.rowform.proofs.rows.put_members.Goals as goal

pub loop-i-init : goal.loop-i-init
loop-i-init c = rest_all

pub overflow_add-atom : goal.overflow_add-atom
overflow_add-atom c = omega (arith, atom_small _ _ c.atom.ensures)

pub loop-i-preserved : goal.loop-i-preserved
loop-i-preserved c = rest_on (members_on c.args.table.now _ _ _ _ c.atom.ensures c.requires (omega (arith, c.count_at-i-end.ensures.0, records_many c.args.table.now))) c.put_member.ensures c.loop-i.invariant

pub returns : goal.returns
returns c = printed_then (rest_none (members_end c.args.table.now c.args.which c.args.j c.loop-i.i (omega (arith, c.count_at-i-end.ensures.0, records_many c.args.table.now))) c.loop-i.invariant) c.byte.ensures
