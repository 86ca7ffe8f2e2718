-- What a run of quick rows of XYZ promises: the reading goes on from the place where it stopped, in the state before it but for its place and its geometry, which the
-- region and the store show. Document 02, L2. Assumes nothing.
use Rattle.std.specs.Prelude.{◌≡◌, ℕ, ◌≤◌, false, List, length, drop, ℤ, ◌≢◌}
use Rattle.lists.specs.Lists.{is_nil}
use Rattle.format.specs.Bytes.{Bytes, cut}
use Rattle.format.specs.Labels.{XyzRows, Xyz}
use Rattle.format.specs.Coordinates.{Geometry}
use Rattle.format.specs.Reading.{Rules, State, atom_count, with_geometry, read_lines}
use Rattle.sorted.specs.GeometryRegion.{geometry_region, GeometryFine}
use Rattle.coordinates.specs.KeptRows.{Stored}

-- the same state at another place
abbrev pub moved_to : ℕ → State → State
moved_to place st = record { at = place; seen = st.seen; running = st.running; texts = st.texts; formula = st.formula; geometry = st.geometry; body = st.body }

-- the reading of the lines from `at` on, in the state st, is that of the lines from `place` on, in the same state but for its place and its geometry
pub record XyzReached (u : Rules) (block : Bytes) (at place atoms : ℕ) (region : List ℕ) (store : List ℤ) (st : State) : Type 0 where
  pub geometry : Geometry
  pub shown : region ≡ geometry_region geometry
  pub fine : GeometryFine atoms geometry
  pub stored : Stored store geometry.rows
  pub goes : read_lines u st (cut (drop at block)) ≡ read_lines u (moved_to place (with_geometry st geometry)) (cut (drop place block))

pub record XyzRan (block : Bytes) (at atoms : ℕ) (region₀ region : List ℕ) (store₀ store : List ℤ) (r : ℕ) : Type 0 where
  pub low : at ≤ r
  pub high : at ≤ length block → r ≤ length block
  pub long : length region ≡ length region₀
  pub stores : length store ≡ length store₀
  pub other : (length region₀ ≢ 9) → (r ≡ at) × (region ≡ region₀) × (store ≡ store₀)
  pub goes : (u : Rules) (st : State) → st.at ≡ at → st.running ≡ Xyz XyzRows → is_nil st.seen ≡ false → atom_count st ≡ atoms → atoms ≤ 256
      → region₀ ≡ geometry_region st.geometry → GeometryFine atoms st.geometry → Stored store₀ st.geometry.rows → XyzReached u block at r atoms region store st
