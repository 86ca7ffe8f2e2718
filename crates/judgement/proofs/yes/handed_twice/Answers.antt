-- `judgement::yes::handed_twice` meets its contract. Assumes nothing.
use Rattle.judgement.proofs.YesTurnLaws.{twice_no, twice_centre, twice_pair}
use Rattle.judgement.proofs.yes.handed_twice.Goals as goal

pub returns-then-not-p : goal.returns-then-not-p
returns-then-not-p c = twice_no c.args.p c.if-not-p.true

pub returns-then-p-ne0 : goal.returns-then-p-ne0
returns-then-p-ne0 c = twice_centre c.args.p c.if-not-p.false c.if-p-ne0.true

pub returns : goal.returns
returns c = twice_pair c.args.p c.if-not-p.false c.if-p-ne0.false
