-- What the rows of XYZ behind one of its lines promise: document 02, L2. Assumes nothing.
use Rattle.std.specs.Prelude.{ℕ, ◌*◌, ◌≤◌, ◌≡◌, List, [], ◌∷◌, length, drop, ℤ}
use Rattle.format.specs.Bytes.{Bytes, cut}
use Rattle.format.specs.Coordinates.{XyzRow}
use Rattle.format.specs.Reading.{Rules, State, read_lines}
use Rattle.coordinates.specs.KeptRows.{Stored}
use Rattle.gather.specs.Progress.{Counted}
use Rattle.gather.specs.Shows.{Shows}
use Rattle.gather.specs.declared.progress.Progress.{Progress}

-- the rows before the latest one
abbrev pub earlier : List XyzRow → List XyzRow
earlier [] = []
earlier (r ∷ rs) = rs

-- the store holds the rows before the latest one, wherever it has room for all of them
abbrev pub StoredBefore : List ℤ → List XyzRow → Type 0
StoredBefore w rows = 4 * length rows ≤ length w → Stored w (earlier rows)

-- the reading of the lines from `at` on, in the state st, is that of the lines from `place` on in another state, which p and t show and whose rows are stored; it has
-- seen the same labels
pub record Placed (u : Rules) (k : ℕ) (block : Bytes) (at place : ℕ) (p : Progress) (t : List ℕ) (store : List ℤ) (st : State) : Type 0 where
  pub state : State
  pub shows : Shows k block place p t state
  pub seen : state.seen ≡ st.seen
  pub stored : Stored store state.geometry.rows
  pub goes : read_lines u st (cut (drop at block)) ≡ read_lines u state (cut (drop place block))

pub record RowsPlaced (block : Bytes) (at top atoms : ℕ) (before after : List ℕ) (store₀ store : List ℤ) (r : ℕ) : Type 0 where
  pub stores : length store ≡ length store₀
  pub low : at ≤ r
  pub high : at ≤ length block → r ≤ length block
  pub goes : (u : Rules) (k : ℕ) (p : Progress) (st : State) → Counted p → p.top ≡ top → p.atoms ≡ atoms → p.running ≡ 16 → Shows k block at p before st
      → StoredBefore store₀ st.geometry.rows → Placed u k block at r p after store st
