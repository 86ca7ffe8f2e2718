-- Whether a value is above MAX_XYZ, of the region of the geometry: document 02, L2, 42. Assumes nothing.
use Rattle.std.specs.Prelude.{◌≡◌, ℕ, Bool, false, List, length, ◌≢◌}
use Rattle.format.specs.Coordinates.{Geometry, exceeds}
use Rattle.sorted.specs.GeometryRegion.{geometry_region}

pub record SizesTold (region : List ℕ) (r : Bool) : Type 0 where
  pub other : (length region ≢ 9) → r ≡ false
  pub is : (g : Geometry) → region ≡ geometry_region g → r ≡ exceeds g
