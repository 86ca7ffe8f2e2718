-- Positions: document 02, L2. How near a coordinate is to the whole product over its power of ten, of all rows that a block gives; and what the table of positions tells
-- of an atom. Assumes nothing.
use Rattle.std.specs.Prelude.{ℕ, ◌-◌, ◌*◌, ◌^◌, ◌<◌, ◌≡◌, Bool, true, false, List, [], ◌∷◌, length, get_or, take, drop, ℤ, pos, nat_abs, ◌*ℤ◌, eqb, Float}
use Rattle.std.specs.Float.{fin}
use Rattle.lists.specs.Lists.{any}
use Rattle.format.specs.Bytes.{Bytes}
use Rattle.format.specs.Coordinates.{XyzRow, Factor, coordinate, Near, minus_of, position_in, nought, position_numbers}
use Rattle.demands.specs.Accepted.{xyz_rows, factor_in, ◌exactly_when◌}

abbrev pub NearAt : Factor → ℤ → Type 0
NearAt f v = Near (minus_of (v *ℤ pos f.digits)) (nat_abs v * f.digits) (10 ^ f.decimals) (coordinate f v)

abbrev pub AllNear : Factor → List XyzRow → Type 0
AllNear f [] = Unit {0}
AllNear f (r ∷ rs) = (NearAt f r.x × NearAt f r.y × NearAt f r.z) × AllNear f rs

-- the place of atom n in the table, and its four numbers from there on
abbrev pub position_place : (atom : ℕ) → ℕ
position_place n = 4 * (n - 1)

abbrev pub four_of : (atom : ℕ) → List Float → List Float
four_of n t = take 4 (drop (position_place n) t)

-- whether a row of XYZ names atom n; what a row says of its atom: 1, and its values times the factor
abbrev pub row_names : Bytes → (atom : ℕ) → Bool
row_names b n = any (λ r. eqb r.atom n) (xyz_rows b)

abbrev pub row_numbers : Factor → XyzRow → List Float
row_numbers f r = fin false 1 (pos 0) ∷ coordinate f r.x ∷ coordinate f r.y ∷ coordinate f r.z ∷ []

-- "per atom 1 if given, X, Y, Z; else four 0": what a table of positions tells of atom n of a block. The first number is 1 exactly when a row of XYZ names the atom; the four
-- are then those of that row; else they are four 0. In one equation, the four are those of the atom's position
pub record PositionTold (b : Bytes) (n : ℕ) (t : List Float) : Type 0 where
  pub given : (get_or t (position_place n) nought ≡ fin false 1 (pos 0)) exactly_when (row_names b n ≡ true)
  pub row_told : (i : ℕ) (other : XyzRow) → i < length (xyz_rows b) → (get_or (xyz_rows b) i other).atom ≡ n → four_of n t ≡ row_numbers (factor_in b) (get_or (xyz_rows b) i other)
  pub not_given : row_names b n ≡ false → four_of n t ≡ nought ∷ nought ∷ nought ∷ nought ∷ []
  pub position_told : four_of n t ≡ position_numbers (position_in (factor_in b) (xyz_rows b) n)
