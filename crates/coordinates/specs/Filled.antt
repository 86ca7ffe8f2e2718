-- The table of positions that rows give, as the code computes it: document 02, L2 ("1,024 64-bit floats (per atom 1 if given, X, Y, Z; else four 0)"). A law joins it
-- to `position_table`. Assumes nothing.
use Rattle.std.specs.Prelude.{ℕ, true, false, List, [], ◌∷◌, eqb, Float}
use Rattle.lists.specs.Lists.{flat, count_up}
use Rattle.format.specs.Coordinates.{Factor, XyzRow, Position, NotGiven, position_numbers}
use Rattle.coordinates.specs.ShownPositions.{row_position, placed}

-- the position of an atom among the rows, latest first: `position_in`, wherever rows and factor have their size
unfoldable pub scaled_in : Factor → List XyzRow → (atom : ℕ) → Position
scaled_in f [] n = NotGiven
scaled_in f (r ∷ rs) n = elim (eqb r.atom n) [ true ↦ row_position f r | false ↦ scaled_in f rs n ]

unfoldable pub scaled_table : Factor → List XyzRow → List Float
scaled_table f rs = flat (λ n. position_numbers (scaled_in f rs n)) (count_up 1 256)

-- a table with one row's position written
abbrev pub placed_row : Factor → List Float → XyzRow → List Float
placed_row f t r = placed t r.atom (row_position f r)
