-- Rows of XYZ as whole numbers in a lent store, kept until the factor is known: document 02, L2 ("in any order with the other shell labels": XYZ_FACTOR may stand
-- after XYZ). Four numbers a row, row i from place 4 * i on: its atom and its three numbers, each 1,000,000 above. Assumes nothing.
use Rattle.std.specs.Prelude.{ℕ, zero, suc, ◌+◌, ◌*◌, ◌≤◌, ◌≡◌, Bool, true, false, ◌&&◌, List, [], ◌∷◌, ◌++◌, length, take, drop, ℤ, pos, leb}
use Rattle.format.specs.Coordinates.{XyzRow}
use Rattle.format.specs.Table.{cell}
use Rattle.rows.specs.Raised.{lowered}
use Rattle.rows.specs.declared.xyz.XyzRow.{XyzRow as Raised}

-- whether a store of so many numbers has room for the whole row
unfoldable pub has_row : (length index : ℕ) → Bool
has_row l i = leb (4 * suc i) l

-- the row that four numbers of a store say, each without its sign as `cells` reads it; of atom 0, which has no place, where the store has no room for it
abbrev pub row_from : (a x y z : ℕ) → XyzRow
row_from a x y z = record { atom = a; x = lowered x; y = lowered y; z = lowered z }

unfoldable pub row_at : List ℤ → (index : ℕ) → XyzRow
row_at w i = elim (has_row (length w) i) [ true ↦ row_from (cell w (4 * i)) (cell w (4 * i + 1)) (cell w (4 * i + 2)) (cell w (4 * i + 3)) | false ↦ row_from 0 0 0 0 ]

-- the first n rows, latest first
unfoldable pub rows_in : (n : ℕ) → List ℤ → List XyzRow
rows_in zero w = []
rows_in (suc n) w = row_at w n ∷ rows_in n w

-- numbers that a row can have: none above 2,000,000
unfoldable pub modest : Raised → Bool
modest r = leb r.atom 2000000 && (leb r.x 2000000 && (leb r.y 2000000 && leb r.z 2000000))

-- the store with one row written; it stays where it has no room for the row, and where no row can have such a number
unfoldable pub kept : List ℤ → (index : ℕ) → Raised → List ℤ
kept w i r = elim (has_row (length w) i && modest r) [ true ↦ take (4 * i) w ++ ((pos r.atom ∷ pos r.x ∷ pos r.y ∷ pos r.z ∷ []) ++ drop (4 * suc i) w) | false ↦ w ]

-- THE STORE HOLDS THE ROWS, latest first, wherever it has room for all of them
abbrev pub Stored : List ℤ → List XyzRow → Type 0
Stored w rows = 4 * length rows ≤ length w → rows_in (length rows) w ≡ rows
