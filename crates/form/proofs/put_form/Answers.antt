-- `form::put_form` meets its contract. Assumes nothing.
use mathlib.Core.Path.{sym, ◌∙◌}
use native.Mathlib.Omega.{arith}
use Rattle.form.proofs.FormLaws.{form_led}
use Rattle.form.proofs.put_form.Goals as goal

pub returns : goal.returns
returns c =
    let front = c.in-Some.ensures.cases in (
      λ h fit. let p = form_led c.args.table.now _ c.args.bytes.now c.args.entries.now front.same c.put_records.ensures fit in record { place = p.print.place; laid = c.buffer-1.given.1.1 (sym p.lent) ∙ p.print.laid },
      λ h. absurd (omega (arith, front.enough, h)),
      λ h. absurd (omega (arith, h, c.if-entries-gt-ENTRIES.false)),
    )
