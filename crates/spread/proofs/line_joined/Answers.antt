-- `spread::line_joined` meets its contract. Assumes nothing.
use mathlib.Core.Path.{sym, ◌∙◌}
use borrow.Author.Tests.{eqb-true}
use Rattle.sorted.proofs.HandedLaws.{err_is}
use Rattle.spread.proofs.SpreadLineLaws.{shows_blank, shows_refused, shows_row, some_field}
use Rattle.spread.proofs.line_joined.Goals as goal

pub returns-then-is_empty : goal.returns-then-is_empty
returns-then-is_empty c = (c.requires.0, c.requires.1, λ rs len fits is. shows_blank c.args.signed c.args.atoms rs _ _ c.next_field-first.ensures _ _ (eqb-true _ _ (sym c.is_empty.ensures ∙ c.if-is_empty.true)) len is)

pub returns-in_err-row : goal.returns-in_err-row
returns-in_err-row c =
    let e = err_is _ _ c.from_residual.ensures.1 in
    (c.requires.0, rw e tt, λ rs len fits is. shows_refused c.args.signed c.args.atoms rs _ _ c.next_field-first.ensures (some_field _ _ c.next_field-first.ensures (sym c.is_empty.ensures ∙ c.if-is_empty.false)) _ c.spread_row.ensures _ _ _ c.in_err-row.was e)

pub returns : goal.returns
returns c = (
  c.add_row.ensures.0,
  c.add_row.ensures.1,
  λ rs len fits is. shows_row c.args.signed c.args.atoms rs _ _ c.next_field-first.ensures (some_field _ _ c.next_field-first.ensures (sym c.is_empty.ensures ∙ c.if-is_empty.false)) _ c.spread_row.ensures _ c.in_ok-row.was _ _
      (λ v range code. c.add_row.ensures.2 c.args.signed v rs range code len is),
)
