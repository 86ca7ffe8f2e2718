-- `gather::list_turn` meets its contract. Assumes nothing.
use mathlib.Core.Path.{sym, ap, ◌∙◌}
use borrow.Author.Rules.{rules}
use Rattle.std.proofs.Common.{Ok}
use Rattle.format.specs.Bytes.{fields}
use Rattle.gather.specs.ListLine.{turn_of}
use Rattle.sorted.proofs.HandedLaws.{err_is}
use Rattle.gather.proofs.ListLineLaws.{turn_gathers, kept_untouched, stop_untouched}
use Rattle.gather.proofs.list_turn.Goals as goal

pub returns-in_err-count : goal.returns-in_err-count
returns-in_err-count c =
    let a = c.args in
    let e = err_is _ _ c.from_residual.ensures.1 in (
      search rules,
      λ long. turn_gathers a.code a.last a.place (fields a.line.now) a.p a.scratch.now c.line_after.new.scratch c.line_after.result _ (λ six eleven. e ∙ ap (turn_of a.code a.p) (sym c.in_err-count.was)) (rw c.in-Some.ensures.cases.same at c.line_after.ensures.0),
      λ other. stop_untouched a.place _ a.scratch.now c.line_after.new.scratch c.line_after.result _ c.in_err-count.was e ((rw c.in-Some.ensures.cases.same at c.line_after.ensures.1) other),
    )

pub returns : goal.returns
returns c =
    let a = c.args in (
      search rules,
      λ long. turn_gathers a.code a.last a.place (fields a.line.now) a.p a.scratch.now c.line_after.new.scratch c.line_after.result _
          (λ six eleven. ap Ok (c.with_count.ensures six eleven) ∙ ap (turn_of a.code a.p) (sym c.in_ok-count.was)) (rw c.in-Some.ensures.cases.same at c.line_after.ensures.0),
      λ other. kept_untouched a.place _ a.scratch.now c.line_after.new.scratch c.line_after.result _ c.in_ok-count.was ((rw c.in-Some.ensures.cases.same at c.line_after.ensures.1) other),
    )
