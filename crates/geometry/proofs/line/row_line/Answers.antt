-- `geometry::line::row_line` meets its contract. Assumes nothing.
use Rattle.std.proofs.Common.{◌≡◌, false, sym, ◌∙◌, arith}
use Rattle.lists.specs.Lists.{is_nil}
use Rattle.format.specs.Bytes.{fields}
use Rattle.format.proofs.ByteLaws.{within_low, within_high}
use Rattle.geometry.proofs.LineLaws.{handed, row_blank, row_wrong, row_unlisted, row_late, row_kept}
use Rattle.geometry.proofs.line.row_line.Goals.{Else-is_bare, then-row-lt1-via-then-row-lt1, then-row-lt1-via-else-row-lt1+then-atoms-row}
use Rattle.geometry.proofs.line.row_line.Goals as goal

inked : (c : Else-is_bare) → is_nil (fields c.args.line.now) ≡ false
inked c = sym c.is_bare.ensures ∙ c.if-is_bare.false

pub returns-then-is_bare : goal.returns-then-is_bare
returns-then-is_bare c = row_blank _ _ _ (sym c.is_bare.ensures ∙ c.if-is_bare.true)

pub returns-in_err-row : goal.returns-in_err-row
returns-in_err-row c =
    let e = c.in_err-row.ensures.says in
    row_wrong _ _ _ (inked (goal.at.returns-in_err-row c).Else-is_bare) e.0 _ (rw (← e.1) (handed _ _ c.from_residual.ensures.1))

pub returns-then-row-lt1 : goal.returns-then-row-lt1
returns-then-row-lt1 c =
    let row = c.in_ok-row.ensures in
    let there = inked (goal.at.returns-then-row-lt1 c).Else-is_bare in
    row_unlisted _ _ _ there _ row.says row.small
    (elim c.then-row-lt1.branch [ then-row-lt1-via-then-row-lt1 w ↦ within_low 1 _ _ w.if-row-lt1.true | then-row-lt1-via-else-row-lt1+then-atoms-row w ↦ within_high 1 _ _ w.if-atoms-row.true ])

pub returns-then-row-region : goal.returns-then-row-region
returns-then-row-region c =
    let row = c.in_ok-row.ensures in
    row_late _ _ _ (inked (goal.at.returns-then-row-region c).Else-is_bare) _ row.says row.small c.if-row-lt1.false c.if-atoms-row.false c.if-row-region.true

pub returns : goal.returns
returns c =
    let row = c.in_ok-row.ensures in
    row_kept _ _ _ (inked (goal.at.returns c).Else-is_bare) _ row.says row.small c.if-row-lt1.false c.if-atoms-row.false _ c.put_row.ensures c.if-row-region.false (omega arith)
