-- `sorted::join::join` meets its contract. Assumes nothing.
use mathlib.Core.Path.{sym, ◌∙◌}
use native.Mathlib.Omega.{arith}
use Rattle.sorted.proofs.JoinLaws.{shows_last}
use Rattle.sorted.proofs.join.join.Goals as goal

pub returns-then-is_behind : goal.returns-then-is_behind
returns-then-is_behind g c = (c.put_row.ensures.0, omega arith, shows_last _ (g.met.L.KeyedList.by_key) _ (g.met.L.KeyedList.at_most) _ _ _ _ _ (sym c.is_behind.ensures ∙ c.if-is_behind.true) (omega arith) c.put_row.ensures.1, tt)
