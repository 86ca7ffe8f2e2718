-- The numbers of a row of XYZ in code: document 02, L2, "Rows are an atom and three signed numbers of 1 to 6 digits". A signed number stands as a natural one, 1,000,000
-- above it. Assumes nothing.
use Rattle.std.specs.Prelude.{ℕ, ◌+◌, ◌-◌, ◌≡◌, Bool, true, ℤ, pos, negsuc, nat_abs, ◌-ℤ◌, leb}
use Rattle.lists.specs.Lists.{all}
use Rattle.format.specs.Coordinates.{XyzRow, values}
use Rattle.rows.specs.declared.xyz.XyzRow.{XyzRow as Kept}

-- a signed number of at most six digits, raised above 0: -999,999 to 999,999 as 1 to 1,999,999
abbrev pub raised : ℤ → ℕ
raised (pos n) = 1000000 + n
raised (negsuc n) = 999999 - n

-- the signed number that a raised one stands for
abbrev pub lowered : ℕ → ℤ
lowered n = pos n -ℤ pos 1000000

abbrev pub six_digits : ℤ → Bool
six_digits v = leb (nat_abs v) 999999

abbrev pub row_small : XyzRow → Bool
row_small r = all six_digits (values r)

-- the row that a struct is, and its bound: each number has at most six digits
abbrev pub xyz_row_of : Kept → XyzRow
xyz_row_of r = record { atom = r.atom; x = lowered r.x; y = lowered r.y; z = lowered r.z }

abbrev pub XyzSmall : Kept → Type 0
XyzSmall r = row_small (xyz_row_of r) ≡ true
