-- `rowform::rows::put_signed` meets its contract. Assumes nothing.
use lib.ListN.{get_or}
use lib.IntN.{pos}
use Rattle.printing.proofs.PrintLaws.{printed_then, printed_as}
use Rattle.rowform.proofs.LineLaws.{minus_is, plus_is}
use Rattle.rowform.proofs.rows.put_signed.Goals.{then-is_negative, else-is_negative}
use Rattle.rowform.proofs.rows.put_signed.Goals as goal

pub returns : goal.returns
returns c =
    let z = get_or c.args.table.now c.args.place (pos 0) in
    elim c.if-is_negative.branch [
      | then-is_negative w ↦ printed_as (minus_is z _ _ _ c.cell.ensures c.is_negative.ensures w.if-is_negative.true w.byte-is) (printed_then c.byte.ensures c.number.ensures)
      | else-is_negative w ↦ printed_as (plus_is z _ _ _ c.cell.ensures c.is_negative.ensures w.if-is_negative.false w.byte-is) (printed_then c.byte.ensures c.number.ensures)
    ]
