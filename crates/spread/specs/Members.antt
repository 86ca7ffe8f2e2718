-- A charge or radical row as its line is read: which list it is of, its first field, what the row is answered, its members, and how the members take the row's number
-- in the list's region. Document 01, "Rows", CHARGE and RADICAL. Assumes nothing.
use Rattle.std.specs.Prelude.{ℕ, ◌-◌, ◌≤◌, ◌<◌, ◌≡◌, Bool, true, false, List, [], ◌∷◌, map, length, drop, get_or, set, ℤ, eqb, Result, Ok, Err}
use Rattle.std.specs.declared.option.Option.{Option}
use Rattle.std.specs.declared.option.Option.TheVariants.{None, Some}
use Rattle.format.specs.Bytes.{Bytes, fields}
use Rattle.format.specs.Labels.{ListOf, Charges, Radicals}
use Rattle.format.specs.Rows.{Row, number, natural, signed}
use Rattle.format.specs.Structure.{ranged}
use Rattle.sorted.specs.Regions.{coded}
use Rattle.format.specs.declared.refusal.Refusal.{Refusal}
use Rattle.format.specs.declared.refusal.Refusal.TheVariants.{Shape, Range}
use Rattle.spread.specs.declared.SpreadRow.{SpreadRow}
use Rattle.spread.specs.declared.Member.{Member}

-- CHARGE, whose first field has a sign, or RADICAL
abbrev pub list_of : (signed : Bool) → ListOf
list_of true = Charges
list_of false = Radicals

abbrev pub value_in : (signed : Bool) → Bytes → Option ℤ
value_in true w = signed w
value_in false w = natural w

-- NUMBER AND VALUES of a row's answer, by the shape that its fields have and where the first of them ends: "9 row of the wrong shape", "10 number outside its range", or
-- the value's code and where the members start
abbrev pub in_range : (fits : Bool) → (code behind : ℕ) → Result SpreadRow Refusal
in_range true code behind = Ok (record { code = code; members = behind })
in_range false code behind = Err Range

abbrev pub spread_answer : (signed : Bool) → (behind : ℕ) → Option Row → Result SpreadRow Refusal
spread_answer s behind None = Err Shape
spread_answer s behind (Some r) = in_range (ranged (list_of s) r.value) (coded r.value) behind

-- A member: a field that is a number. One that is none is read as 0: no atom has that number.
abbrev pub some_passes : (ℕ → Bool) → Option ℕ → Bool
some_passes p None = false
some_passes p (Some n) = p n

abbrev pub or_zero : Option ℕ → ℕ
or_zero None = 0
or_zero (Some n) = n

-- whether a field is a number that passes a test, or a number at all
abbrev pub passes : (ℕ → Bool) → Bytes → Bool
passes p f = some_passes p (number f)

abbrev pub is_number : Bytes → Bool
is_number f = passes (λ n. true) f

unfoldable pub member_in : Bytes → ℕ
member_in f = or_zero (number f)

abbrev pub members_in : List Bytes → List ℕ
members_in fs = map member_in fs

-- the first field from a place on is the number n, and ends at `to`
pub record NumberAt (line : Bytes) (at n to : ℕ) : Type 0 where
  pub word : Bytes
  pub first : fields (drop at line) ≡ word ∷ fields (drop to line)
  pub is : number word ≡ Some n
  pub on : at < to
  pub high : to ≤ length line

abbrev pub ShowsMember : (line : Bytes) → (at : ℕ) → Result (Option Member) Refusal → Type 0
ShowsMember line at (Ok None) = fields (drop at line) ≡ []
ShowsMember line at (Ok (Some m)) = NumberAt line at m.number m.to
ShowsMember line at (Err e) = (word : Bytes) × (rest : List Bytes) × (fields (drop at line) ≡ word ∷ rest) × (number word ≡ None)

-- Each member takes the row's number k in its cell, the one before its own number; nothing, where a member has a row already
unfoldable pub claims : (k : ℕ) → List ℕ → (region : List ℕ) → Option (List ℕ)
claims k [] t = Some t
claims k (n ∷ ns) t = elim (eqb (get_or t (n - 1) 0) 0) [ true ↦ claims k ns (set t (n - 1) k) | false ↦ None ]

-- "one row at most has no atoms": a row without members takes the region's last cell
unfoldable pub claimed : (k : ℕ) → List ℕ → (region : List ℕ) → Option (List ℕ)
claimed k [] t = elim (eqb (get_or t 320 0) 0) [ true ↦ Some (set t 320 k) | false ↦ None ]
claimed k (n ∷ ns) t = claims k (n ∷ ns) t

abbrev pub ShowsClaim : Bool → (region : List ℕ) → Option (List ℕ) → Type 0
ShowsClaim r t (Some u) = (r ≡ true) × (t ≡ u)
ShowsClaim r t None = r ≡ false
