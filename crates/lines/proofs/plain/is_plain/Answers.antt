-- `lines::plain::is_plain` meets its contract. Assumes nothing.
use native.Mathlib.Omega.{arith}
use Rattle.lines.proofs.LineLaws.{plain_test}
use Rattle.lines.proofs.plain.is_plain.Goals as goal

pub returns : goal.returns
returns c = rw c.from.ensures (plain_test c.args.b (omega arith))
