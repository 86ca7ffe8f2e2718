-- `reader::packed_answer` meets its contract. Assumes nothing.
use Prim.Native.Nat.{ℕ, ◌+◌, ◌*◌}
use mathlib.Core.Path.{ap, ◌∙◌}
use Rattle.reader.proofs.packed_answer.Goals as goal

pub returns : goal.returns
returns c = ap (λ (n : ℕ). n * 4294967296 + c.args.refused.place) (c.from.ensures ∙ c.number.ensures)
