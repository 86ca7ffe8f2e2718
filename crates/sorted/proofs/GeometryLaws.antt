-- The region of a block's geometry has nine cells, and what a geometry keeps: rows that descend are at most as many as the latest one's atom; it keeps that where more
-- atoms are listed, and where it says nothing. Document 02, L2. Assumes nothing.
use Prim.Native.Nat.{ℕ, suc, ◌≤◌}
use mathlib.Core.Path.{◌≡◌, refl, ap}
use mathlib.Core.List.{List, [], ◌∷◌}
use native.Mathlib.Omega.{arith}
use lib.ListN.{length}
use Rattle.lists.proofs.ListLaws.{all_nil}
use Rattle.format.specs.Coordinates.{XyzRow, Geometry, no_geometry}
use Rattle.rows.specs.Raised.{row_small}
use Rattle.sorted.specs.GeometryRegion.{latest_cells, latest_atom, Descends, geometry_region, GeometryFine}

latest_four : (rs : List XyzRow) → length (latest_cells rs) ≡ 4
latest_four [] = refl
latest_four (r ∷ rs) = refl

pub region_nine : (g : Geometry) → length (geometry_region g) ≡ 9
unfolding geometry_region
region_nine g = ap (λ (n : ℕ). suc (suc (suc (suc (suc n))))) (latest_four g.rows)

pub few_rows : (rs : List XyzRow) → Descends rs → length rs ≤ latest_atom rs
few_rows [] d = omega arith
few_rows (r ∷ rs) d = omega (arith, few_rows rs d.1, d.0)

pub fine_up : (n m : ℕ) (g : Geometry) → n ≤ m → GeometryFine n g → GeometryFine m g
fine_up n m g h f = record { descends = f.descends; highest = omega (arith, f.highest); small = f.small; digits = f.digits; decimals = f.decimals }

pub fine_none : (n : ℕ) → GeometryFine n no_geometry
fine_none n = record { descends = tt; highest = omega arith; small = all_nil row_small; digits = omega arith; decimals = omega arith }
