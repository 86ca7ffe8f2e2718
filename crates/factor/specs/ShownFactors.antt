-- What the factor's answer says, and the quotient that a coordinate is: document 02, L2 ("The factor is kept with its value as a float beside its digits.", "divided
-- once by its power of ten"). Assumes nothing.
use Rattle.std.specs.Prelude.{ℕ, ◌^◌, ◌≤◌, ◌≡◌, true, false, length, ℤ, pos, nat_abs, ◌*ℤ◌, eqb, leb, Float}
use Rattle.std.specs.declared.option.Option.{Option}
use Rattle.std.specs.declared.option.Option.TheVariants.{None, Some}
use Rattle.std.specs.declared.result.Result.{Result}
use Rattle.std.specs.declared.result.Result.TheVariants.{Ok, Err}
use Rattle.std.specs.Float.{binary64}
use Rattle.std.specs.Float.Ieee.{div, of_int}
use Rattle.format.specs.Bytes.{Bytes, fields}
use Rattle.format.specs.Reading.{only_field, State, Turn, Go, Stop, with_geometry}
use Rattle.format.specs.Refusals.{number_of}
use Rattle.format.specs.declared.refusal.Refusal.{Refusal}
use Rattle.format.specs.declared.refusal.Refusal.TheVariants.{Shape, Range}
use Rattle.fields.specs.declared.Field.{Field}
use Rattle.fields.specs.NextFields.{field_in}
use Rattle.format.specs.Coordinates.{Factor, factor, geometry, nought, factor_value}
use Rattle.factor.specs.declared.Factor.{Factor as Kept}

-- the factor that a struct is; its float is left aside
abbrev pub factor_of : Kept → Factor
factor_of f = factor f.digits f.decimals

-- A WHOLE NUMBER OVER A POWER OF TEN, rounded once; 0 where the power has more than nine zeros, which no factor gives
unfoldable pub quotient_of : ℤ → (decimals : ℕ) → Float
quotient_of p d = elim (leb d 9) [ true ↦ div binary64 (of_int binary64 p) (of_int binary64 (pos (10 ^ d))) | false ↦ nought ]

-- the struct with its float: `factor_value`, wherever there are at most nine decimals
abbrev pub factor_from : (digits decimals : ℕ) → Kept
factor_from n d = record { digits = n; decimals = d; value = quotient_of (pos n) d }

-- THE COORDINATE of a row's value, 0 above 1,000,000, which no row gives: `coordinate`, wherever row and factor have their size
unfoldable pub scaled : Factor → ℤ → Float
scaled f v = elim (leb (nat_abs v) 1000000) [ true ↦ quotient_of (v *ℤ pos f.digits) f.decimals | false ↦ nought ]

-- A SHAPE JUDGED as `factor_turn` of Reading does: "shape .. faults as 9 .., with a zero factor as 10"
unfoldable pub judged : Option Factor → Result Factor Refusal
judged None = Err Shape
judged (Some f) = elim (eqb f.digits 0) [ true ↦ Err Range | false ↦ Ok f ]

-- what it says to the reading: its factor is taken, its refusal stops
abbrev pub judged_turn : State → Result Factor Refusal → Turn
judged_turn st (Ok f) = Go (with_geometry st (geometry st.geometry.greatest f st.geometry.rows))
judged_turn st (Err e) = Stop (number_of e)

abbrev pub shown_factor : Result Kept Refusal → Result Factor Refusal
shown_factor (Ok f) = Ok (factor_of f)
shown_factor (Err e) = Err e

-- "kept with its value as a float": and the bounds under which a coordinate is exact before its division
abbrev pub FactorSmall : Kept → Type 0
FactorSmall f = (f.value ≡ factor_value (factor_of f)) × (f.digits ≤ 999999999) × (f.decimals ≤ 9)

-- the one field of a value, empty where there is none or more than one
pub record OnlyIs (value : Bytes) (r : Field) : Type 0 where
  pub is : field_in value r ≡ only_field (fields value)
  pub order : r.from ≤ r.to
  pub high : r.to ≤ length value
