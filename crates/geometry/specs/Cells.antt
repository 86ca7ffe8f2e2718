-- The cells of the geometry's region with one row of XYZ more: document 02, L2. Assumes nothing.
use Rattle.std.specs.Prelude.{ℕ, ◌+◌, ◌-◌, ◌%◌, ◌^◌, max, true, false, List, [], ◌∷◌, nat_lt, slice_index}
use Rattle.std.proofs.lemmas.List.Edits.{sets}
use Rattle.rows.specs.declared.xyz.XyzRow.{XyzRow as Raised}

-- how far a number is from 0, given 1,000,000 above it
unfoldable pub size_of : ℕ → ℕ
size_of n = elim (nat_lt n 1000000) [ true ↦ 1000000 - n | false ↦ n - 1000000 ]

unfoldable pub largest_by : Raised → (before : ℕ) → ℕ
largest_by r m = max (size_of r.x) (max (size_of r.y) (max (size_of r.z) m))

-- the row counted, the largest size, and the row as the latest one
unfoldable pub row_put : List ℕ → Raised → List ℕ
row_put t r = sets t 3 ((slice_index t 3 + 1) % 2 ^ 32 ∷ largest_by r (slice_index t 4) ∷ r.atom ∷ r.x ∷ r.y ∷ r.z ∷ [])
