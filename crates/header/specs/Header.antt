-- How progress stands in the table's first sixteen numbers: document 01, "The structure table". Assumes nothing.
use Rattle.std.specs.Prelude.{List, [], ◌∷◌, ◌++◌, Bool, true, false, ℤ, pos}
use Rattle.format.specs.Bytes.{Bytes}
use Rattle.format.specs.Reading.{span_of}
use Rattle.format.specs.Table.{span_cells, flag}
use Rattle.gather.specs.Progress.{prose_at}
use Rattle.gather.specs.declared.progress.Progress.{Progress}
use Rattle.filling.specs.Filled.{signed_of}

-- the header: the counts and the id, the texts' spans, whether the molecule is handed as a whole, two zeros
abbrev pub counts_out : Progress → List ℤ
counts_out p =
    signed_of p.atoms ∷ signed_of p.bonds ∷ signed_of p.charges ∷ signed_of p.radicals ∷ signed_of p.centres ∷ signed_of p.pairs ∷ signed_of p.id ∷ []

unfoldable pub header_out : (block : Bytes) → Progress → List ℤ
header_out block p =
    counts_out p
    ++ (span_cells (span_of (prose_at block p.title))
    ++ (span_cells (span_of (prose_at block p.origin))
    ++ (span_cells (span_of (prose_at block p.owner))
    ++ (flag p.handed ∷ pos 0 ∷ pos 0 ∷ []))))

-- an answer tells whether a fact holds
abbrev pub Tells : Bool → Type 0 → Type 0
Tells true P = P
Tells false P = P → ⊥
