-- `clearing::clear` meets its contract. Assumes nothing.
use Rattle.std.proofs.Common.{ℕ, pos, replicate, ◌++◌, length, drop, ap, ◌∙◌, arith, length-take-le}
use Rattle.format.specs.Table.{zeros}
use Rattle.clearing.proofs.clear.Goals as goal

pub returns-in-Some : goal.returns-in-Some
unfolding zeros
returns-in-Some c =
    let whole = length-take-le 3856 c.args.table.now c.in-Some.ensures.cases.enough in (
      λ h. absurd (omega (arith, c.in-Some.ensures.cases.enough)),
      λ h. ap (λ l. l ++ drop 3856 c.args.table.now) (c.fill.ensures.after (λ y h. h) ∙ ap (λ n. replicate n (pos 0)) (ap length c.in-Some.ensures.cases.same ∙ whole)),
    )
