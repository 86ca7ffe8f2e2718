-- The store of rows with the region's latest row in it: document 02, L2. Assumes nothing.
use Rattle.std.specs.Prelude.{◌≡◌, ℕ, List, [], ◌∷◌, length, ℤ, ◌≢◌}
use Rattle.format.specs.Coordinates.{XyzRow, Geometry}
use Rattle.sorted.specs.GeometryRegion.{geometry_region, GeometryFine}
use Rattle.coordinates.specs.KeptRows.{Stored}

pub record LatestStored (region : List ℕ) (before after : List ℤ) : Type 0 where
  pub long : length after ≡ length before
  pub other : (length region ≢ 9) → after ≡ before
  pub none : (g : Geometry) → region ≡ geometry_region g → g.rows ≡ [] → after ≡ before
  pub more : (g : Geometry) (r : XyzRow) (rs : List XyzRow) → region ≡ geometry_region g → GeometryFine 256 g → g.rows ≡ r ∷ rs → Stored before rs → Stored after (r ∷ rs)
