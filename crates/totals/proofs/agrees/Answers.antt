-- `totals::agrees` meets its contract. Assumes nothing.
use Rattle.totals.proofs.AnswerLaws.{tallied_agree}
use Rattle.totals.proofs.agrees.Goals as goal

pub returns-clause-told : goal.returns-clause-told
returns-clause-told c =
    let x = c.args in λ listed long more few low. tallied_agree x.last x.kinds.now x.atoms _ _ _ low more c.tally.ensures c.take_formula.ensures listed
