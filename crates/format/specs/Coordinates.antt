-- Coordinates in Angstrom: document 02, L2, and the paper's MAX_XYZ, XYZ_FACTOR and XYZ. The rows and the factor are whole numbers; a coordinate is one rounded
-- division of two whole numbers that are exact as floats. Stricter than the paper: no exponent, at most 9 digits in a factor, 6 in a row. Assumes nothing.
use Rattle.std.specs.Prelude.{ℕ, suc, ◌+◌, ◌-◌, ◌*◌, ◌^◌, ◌≤◌, ◌≡◌, Bool, true, false, not, List, [], ◌∷◌, ◌++◌, length, take, drop, ℤ, pos, negsuc, nat_abs, ◌*ℤ◌, eqb, ltb, Float}
use Rattle.std.specs.declared.option.Option.{Option}
use Rattle.std.specs.declared.option.Option.TheVariants.{Some}
use Rattle.std.specs.Float.{nan, inf, fin, binary64}
use Rattle.std.specs.Float.Ieee.{up, down, div, of_int}
use Rattle.lists.specs.Lists.{any, span, flat, count_up}
use Rattle.format.specs.Bytes.{Bytes}
use Rattle.format.specs.Rows.{◌and_then◌, digits_of, number, signed, field, optional, nothing_more}

-- "Rows are an atom and three signed numbers of 1 to 6 digits"
pub record XyzRow : Type 0 where
  pub atom : ℕ
  pub x : ℤ
  pub y : ℤ
  pub z : ℤ

unfoldable pub xyz_shape : List Bytes → Option XyzRow
xyz_shape fs =
    number (field 0 fs) and_then λ a. signed (field 1 fs) and_then λ x. signed (field 2 fs) and_then λ y. signed (field 3 fs) and_then λ z.
    optional nothing_more (drop 4 fs) and_then λ n. Some (record { atom = a; x = x; y = y; z = z })

abbrev pub values : XyzRow → List ℤ
values r = r.x ∷ r.y ∷ r.z ∷ []

-- "The factor is 1 to 9 digits with at most one point, anywhere, no sign or exponent.": the digits without the first point, and how many stand behind it
pub record Factor : Type 0 where
  pub digits : ℕ
  pub decimals : ℕ

abbrev pub factor : (digits decimals : ℕ) → Factor
factor n d = record { digits = n; decimals = d }

abbrev pub unpointed : ℕ → Bool
unpointed b = not (eqb b 46)

unfoldable pub factor_shape : Bytes → Option Factor
factor_shape w = digits_of 9 (take (span unpointed w) w ++ drop (suc (span unpointed w)) w) and_then λ n. Some (factor n (length w - suc (span unpointed w)))

-- What a block says of its geometry: MAX_XYZ, the factor, the rows of XYZ, latest first; a block that says nothing has 0, a factor of 0 and no rows
pub record Geometry : Type 0 where
  pub greatest : ℕ
  pub scale : Factor
  pub rows : List XyzRow

abbrev pub geometry : ℕ → Factor → List XyzRow → Geometry
geometry m f rs = record { greatest = m; scale = f; rows = rs }

abbrev pub no_geometry : Geometry
no_geometry = geometry 0 (factor 0 0) []

-- "MAX_XYZ .. bounds each absolute value": of the rows' whole numbers, not of what they give in Angstrom
unfoldable pub exceeds : Geometry → Bool
exceeds p = any (λ r. any (λ v. ltb p.greatest (nat_abs v)) (values r)) p.rows

-- "Each coordinate is the whole product of row value and factor digits, divided once by its power of ten."
unfoldable pub coordinate : Factor → ℤ → Float
coordinate f v = div binary64 (of_int binary64 (v *ℤ pos f.digits)) (of_int binary64 (pos (10 ^ f.decimals)))

-- "The result times that power differs from the product by at most the product's size over 2^53, said over whole numbers.": a finite float's size is the fraction
-- num_of / den_of of two whole numbers; x times q differs from p by at most p over 2^53, with both denominators multiplied out, and has the sign s
abbrev pub num_of : Float → ℕ
num_of nan = 0
num_of (inf s) = 0
num_of (fin s m e) = m * up e

abbrev pub den_of : Float → ℕ
den_of nan = 1
den_of (inf s) = 1
den_of (fin s m e) = down e

abbrev pub Signed : Float → Bool → Type 0
Signed nan s = ⊥
Signed (inf t) s = ⊥
Signed (fin t m e) s = t ≡ s

pub record Near (s : Bool) (p q : ℕ) (x : Float) : Type 0 where
  pub sign : Signed x s
  pub not_above_lem : 2 ^ 53 * (num_of x * q) ≤ 2 ^ 53 * (p * den_of x) + p * den_of x
  pub not_below : 2 ^ 53 * (p * den_of x) ≤ 2 ^ 53 * (num_of x * q) + p * den_of x

abbrev pub minus_of : ℤ → Bool
minus_of (pos n) = false
minus_of (negsuc n) = true

-- "The factor is kept with its value as a float beside its digits."
abbrev pub factor_value : Factor → Float
factor_value f = coordinate f (pos 1)

-- "An atom's position is either three coordinates in Angstrom or not given."
pub data Position : Type 0 where
  At : (x y z : Float) → Position
  NotGiven : Position

unfoldable pub position_in : Factor → List XyzRow → (atom : ℕ) → Position
position_in f [] n = NotGiven
position_in f (r ∷ rs) n = elim (eqb r.atom n) [ true ↦ At (coordinate f r.x) (coordinate f r.y) (coordinate f r.z) | false ↦ position_in f rs n ]

-- "1,024 64-bit floats (per atom 1 if given, X, Y, Z; else four 0)": 256 atoms, listed or not
abbrev pub nought : Float
nought = fin false 0 (pos 0)

abbrev pub position_numbers : Position → List Float
position_numbers (At x y z) = fin false 1 (pos 0) ∷ x ∷ y ∷ z ∷ []
position_numbers NotGiven = nought ∷ nought ∷ nought ∷ nought ∷ []

unfoldable pub position_table : Geometry → List Float
position_table p = flat (λ n. position_numbers (position_in p.scale p.rows n)) (count_up 1 256)
