-- `totals::Left::take_lead` meets its contract. Assumes nothing.
use Rattle.totals.specs.Left.{left_in}
use native.Mathlib.Omega.{arith}
use Rattle.totals.proofs.AnswerLaws.{lead_starts}
use Rattle.totals.proofs.left.Left.take_lead.Goals as goal

pub loop-quick-init : goal.loop-quick-init
loop-quick-init c = (omega arith, lead_starts c.args.last (left_in c.args.self.now) c.args.formula.now)
