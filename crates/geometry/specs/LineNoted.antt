-- What a line of MAX_XYZ, XYZ_FACTOR or XYZ leaves in the region of the geometry: document 02, L2, "shape, range, atom and order faults as 9, 10, 11 and 13, with a
-- zero factor as 10". Assumes nothing.
use Rattle.std.specs.Prelude.{◌≡◌, ℕ, true, false, List, length, ◌==◌, ◌≢◌}
use Rattle.format.specs.Bytes.{Bytes, fields}
use Rattle.format.specs.Labels.{XyzOf, MaxXyz, XyzFactor, XyzRows}
use Rattle.format.specs.Reading.{State, Turn, Go, Stop, atom_count, with_geometry, xyz_value}
use Rattle.sorted.specs.GeometryRegion.{geometry_region, GeometryFine}
use Rattle.std.specs.declared.result.Result.{Result}
use Rattle.std.specs.declared.result.Result.TheVariants.{Ok, Err}
use Rattle.format.specs.Refusals.{number_of}
use Rattle.format.specs.declared.refusal.Refusal.{Refusal}
use Rattle.format.specs.declared.refusal.Refusal.TheVariants.{Unlent}
use Rattle.format.specs.declared.refusal.Refused.{Refused}

-- the record of a label's code: 14 MAX_XYZ, 15 XYZ_FACTOR; any other counts as 16, XYZ
abbrev pub record_of : (code : ℕ) → XyzOf
record_of code = elim (code == 14) [ true ↦ MaxXyz | false ↦ elim (code == 15) [ true ↦ XyzFactor | false ↦ XyzRows ] ]

-- the region shows a state behind the line, which is the state before it but for its geometry
pub record KeptAs (atoms : ℕ) (after : List ℕ) (st new : State) : Type 0 where
  pub region : after ≡ geometry_region new.geometry
  pub fine : GeometryFine atoms new.geometry
  pub only : new ≡ with_geometry st new.geometry

-- the answer is the definition's turn; a refusal leaves the region as it was
abbrev pub ShowsTurn : (atoms : ℕ) (before after : List ℕ) → State → Result Unit Refusal → Turn → Type 0
ShowsTurn atoms before after st (Ok u) (Go new) = KeptAs atoms after st new
ShowsTurn atoms before after st (Ok u) (Stop n) = ⊥
ShowsTurn atoms before after st (Err e) (Go new) = ⊥
ShowsTurn atoms before after st (Err e) (Stop n) = (number_of e ≡ n) × (after ≡ before)

-- the same, and a refusal names the line's place
abbrev pub ShowsNoted : (place atoms : ℕ) (before after : List ℕ) → State → Result Unit Refused → Turn → Type 0
ShowsNoted place atoms before after st (Ok u) (Go new) = KeptAs atoms after st new
ShowsNoted place atoms before after st (Ok u) (Stop n) = ⊥
ShowsNoted place atoms before after st (Err e) (Go new) = ⊥
ShowsNoted place atoms before after st (Err e) (Stop n) = (number_of e.refusal ≡ n) × (e.place ≡ place) × (after ≡ before)

-- of the line of one record
pub record TurnNoted (x : XyzOf) (line : Bytes) (atoms : ℕ) (before after : List ℕ) (r : Result Unit Refusal) : Type 0 where
  pub long : length after ≡ length before
  pub shows : (st : State) → before ≡ geometry_region st.geometry → GeometryFine atoms st.geometry → atom_count st ≡ atoms
      → ShowsTurn atoms before after st r (xyz_value x st (fields line))

pub record LineNoted (line : Bytes) (place code atoms : ℕ) (before after : List ℕ) (r : Result Unit Refused) : Type 0 where
  pub long : length after ≡ length before
  pub other : (length before ≢ 9) → (r ≡ Err (record { refusal = Unlent; place = place })) × (after ≡ before)
  pub shows : (st : State) → before ≡ geometry_region st.geometry → GeometryFine atoms st.geometry → atom_count st ≡ atoms
      → ShowsNoted place atoms before after st r (xyz_value (record_of code) st (fields line))
