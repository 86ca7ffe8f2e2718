-- `spread::spread_row` meets its contract. Assumes nothing.
use mathlib.Core.Bool.{true}
use mathlib.Core.Path.{sym, ap, ◌∙◌}
use Rattle.std.proofs.Common.{Err, rules}
use Rattle.sorted.proofs.HandedLaws.{err_is}
use Rattle.spread.proofs.MemberLaws.{some_from_ok, none_from_err, machine_small, ranged_high}
use Rattle.spread.proofs.SpreadLineLaws.{row_wrong, row_unnumbered, row_beyond, row_values}
use Rattle.spread.proofs.spread_row.Goals as goal

pub returns-in_err-value : goal.returns-in_err-value
returns-in_err-value c =
    let q = none_from_err _ _ _ _ c.ok_or.ensures.value c.in_err-value.was in
    err_is _ _ c.from_residual.ensures.1 ∙ ap Err q.1 ∙ row_wrong c.args.signed _ _ c.requires.0 c.requires.1 (sym c.value_of.ensures.says ∙ q.0)

pub returns-then-not-all_members : goal.returns-then-not-all_members
returns-then-not-all_members c = row_unnumbered c.args.signed _ _ c.requires.0 c.requires.1 (sym (c.all_members.ensures (λ n. true) (λ n b k. search rules)) ∙ c.if-not-all_members.true)

pub returns-then-not-is_ranged : goal.returns-then-not-is_ranged
returns-then-not-is_ranged c =
    let q = some_from_ok _ _ _ _ c.ok_or.ensures.value c.in_ok-value.was in
    row_beyond c.args.signed _ _ c.requires.0 c.requires.1 _ _ (machine_small _ _ q c.value_of.ensures.small) (sym c.value_of.ensures.says ∙ q)
    (sym (c.all_members.ensures (λ n. true) (λ n b k. search rules)) ∙ c.if-not-all_members.false) (sym c.is_ranged.ensures ∙ c.if-not-is_ranged.true)

pub coded-requires : goal.coded-requires
coded-requires c = ranged_high c.args.signed _ (sym c.is_ranged.ensures ∙ c.if-not-is_ranged.false)

pub returns : goal.returns
returns c =
    let q = some_from_ok _ _ _ _ c.ok_or.ensures.value c.in_ok-value.was in
    row_values c.args.signed _ _ c.requires.0 c.requires.1 _ _ (machine_small _ _ q c.value_of.ensures.small) (sym c.value_of.ensures.says ∙ q)
    (sym (c.all_members.ensures (λ n. true) (λ n b k. search rules)) ∙ c.if-not-all_members.false) (sym c.is_ranged.ensures ∙ c.if-not-is_ranged.false) _ c.coded.ensures
