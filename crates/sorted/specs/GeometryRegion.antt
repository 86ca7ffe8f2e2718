-- The region of the reader's scratch that shows a block's geometry, nine natural numbers: document 02, L2. Assumes nothing.
use Rattle.std.specs.Prelude.{ℕ, ◌≤◌, ◌<◌, max, ◌≡◌, true, List, [], ◌∷◌, length, nat_abs}
use Rattle.lists.specs.Lists.{all}
use Rattle.format.specs.Coordinates.{XyzRow, Geometry}
use Rattle.rows.specs.Raised.{raised, row_small}

-- the largest size among the numbers of some rows, 0 where there are none: what MAX_XYZ is held against
abbrev pub largest_with : XyzRow → ℕ → ℕ
largest_with r m = max (nat_abs r.x) (max (nat_abs r.y) (max (nat_abs r.z) m))

unfoldable pub largest_of : List XyzRow → ℕ
largest_of [] = 0
largest_of (r ∷ rs) = largest_with r (largest_of rs)

-- the latest row: its atom and its three numbers, 1,000,000 above; four zeros where there is none
abbrev pub row_cells : XyzRow → List ℕ
row_cells r = r.atom ∷ raised r.x ∷ raised r.y ∷ raised r.z ∷ []

abbrev pub latest_cells : List XyzRow → List ℕ
latest_cells [] = 0 ∷ 0 ∷ 0 ∷ 0 ∷ []
latest_cells (r ∷ rs) = row_cells r

-- MAX_XYZ, the factor's digits and decimals, how many rows there are, the largest size among their numbers, and the latest row
unfoldable pub geometry_region : Geometry → List ℕ
geometry_region g = g.greatest ∷ g.scale.digits ∷ g.scale.decimals ∷ length g.rows ∷ largest_of g.rows ∷ latest_cells g.rows

-- WHAT A GEOMETRY KEEPS as its lines come, n atoms listed: the rows' atoms ascend, so that from the latest row on they descend, and none is above n; a row's numbers
-- have at most six digits, the factor nine, with at most nine behind its point
abbrev pub latest_atom : List XyzRow → ℕ
latest_atom [] = 0
latest_atom (r ∷ rs) = r.atom

abbrev pub Descends : List XyzRow → Type 0
Descends [] = Unit {0}
Descends (r ∷ rs) = (latest_atom rs < r.atom) × Descends rs

pub record GeometryFine (n : ℕ) (g : Geometry) : Type 0 where
  pub descends : Descends g.rows
  pub highest : latest_atom g.rows ≤ n
  pub small : all row_small g.rows ≡ true
  pub digits : g.scale.digits ≤ 999999999
  pub decimals : g.scale.decimals ≤ 9
