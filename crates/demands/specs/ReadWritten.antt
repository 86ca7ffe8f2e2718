-- What a block is written as after it was read: the one written form of its atoms, of the rows of each list sorted and without repeats, of its block id, of its YES
-- and of its texts. Document 01, "The one written form". Assumes nothing.
use Rattle.std.specs.Prelude.{ℕ, map}
use Rattle.format.specs.Bytes.{Bytes}
use Rattle.format.specs.Table.{text_at}
use Rattle.format.specs.Writing.{canonical}
use Rattle.demands.specs.ReadAs.{structure_in, spans_in}

abbrev pub form_in : (k : ℕ) → Bytes → Bytes
form_in k b = canonical (structure_in k b) (map (text_at b) (spans_in b))
