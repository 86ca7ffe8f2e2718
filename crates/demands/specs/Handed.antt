-- Number 13 of the structure table: document 02, L4. What it tells of the block that was read, and what else holds of a sound table where it is set. Assumes nothing.
use Rattle.std.specs.Prelude.{ℕ, ◌≡◌, List, [], ◌∷◌, get_or, ℤ, pos}
use Rattle.format.specs.Bytes.{Bytes}
use Rattle.demands.specs.Accepted.{YES, yes_rows, ◌exactly_when◌}

-- a number of the table by its place
abbrev pub number_at : (place : ℕ) → List ℤ → ℤ
number_at p t = get_or t p (pos 0)

-- "Table number 13 becomes 1": exactly when the block has the YES of STEREOMOLECULE; else it is 0
pub record HandedTold (b : Bytes) (t : List ℤ) : Type 0 where
  pub given : (number_at 13 t ≡ pos 1) exactly_when (yes_rows b ≡ YES ∷ [])
  pub not_given : (yes_rows b ≡ YES ∷ [] → ⊥) → number_at 13 t ≡ pos 0

-- "A sound table with 13 set has no centres and no pairs.": 13 is then 1, and the counts of both are 0
pub record HandedAlone (t : List ℤ) : Type 0 where
  pub one : number_at 13 t ≡ pos 1
  pub no_centres : number_at 4 t ≡ pos 0
  pub no_pairs : number_at 5 t ≡ pos 0
