-- `judgement::line::untitled` meets its contract. Assumes nothing.
use mathlib.Core.Path.{sym}
use borrow.Author.Tests.{eq-eqb, ne_eqb}
use Rattle.judgement.proofs.line.untitled.Goals as goal

pub returns-then-top-ne0 : goal.returns-then-top-ne0
returns-then-top-ne0 c = sym (simp (ne_eqb _ _ c.if-top-ne0.true))

pub returns : goal.returns
returns c = sym (simp (eq-eqb _ _ c.if-top-ne0.false))
