-- `judgement::judge` meets its contract. Assumes nothing.
use mathlib.Core.Path.{sym}
use borrow.Author.Rules.{rules}
use Rattle.judgement.proofs.BlockLaws.{judges_unlent, judges_lines}
use Rattle.judgement.proofs.judge.Goals as goal

pub returns-in_default : goal.returns-in_default
returns-in_default c = rw c.at.ensures (judges_unlent _ _ _ _ (λ l. c.in_default.ensures l.ruled))

pub returns-in_default-as_mut_array : goal.returns-in_default-as_mut_array
returns-in_default-as_mut_array c = rw c.at-in_default-as_mut_array.ensures (judges_unlent _ _ _ _ (λ l. c.in_default-as_mut_array.ensures.cases l.long))

pub returns : goal.returns
returns c =
    let q = c.in-Some.ensures in
    let s = c.in-Some-as_mut_array.ensures.cases in
    let e = rw q at c.judge_lines.ensures in
    judges_lines _ _ _ _ (record { long = s.long; ruled = rw (sym q) (record { low = c.in-Some.known.low; high = c.in-Some.known.high }) }) _ _ _ (search rules, e.0, rw s.same at e.1)
