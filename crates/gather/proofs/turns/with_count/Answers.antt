-- `gather::turns::with_count` meets its contract. Assumes nothing.
use native.Mathlib.Omega.{arith}
use Rattle.gather.proofs.ListLineLaws.{count_as}
use Rattle.gather.proofs.turns.with_count.Goals as goal

pub returns-in-6 : goal.returns-in-6
returns-in-6 c = λ six eleven. let a = c.args in count_as a.code 6 a.count a.p c.in-6.is

pub returns-in-7 : goal.returns-in-7
returns-in-7 c = λ six eleven. let a = c.args in count_as a.code 7 a.count a.p c.in-7.is

pub returns-in-8 : goal.returns-in-8
returns-in-8 c = λ six eleven. let a = c.args in count_as a.code 8 a.count a.p c.in-8.is

pub returns-in-9 : goal.returns-in-9
returns-in-9 c = λ six eleven. let a = c.args in count_as a.code 9 a.count a.p c.in-9.is

pub returns-in-10 : goal.returns-in-10
returns-in-10 c = λ six eleven. let a = c.args in count_as a.code 10 a.count a.p c.in-10.is

pub returns-in_default : goal.returns-in_default
returns-in_default c = λ six eleven. let a = c.args in count_as a.code 11 a.count a.p (omega (arith, six, eleven))
