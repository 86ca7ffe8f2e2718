-- What the parts that rows share answer: atoms in front, and where the fields behind them start: document 01, "Rows". Assumes nothing.
use Rattle.std.specs.Prelude.{ℕ, ◌≤◌, ◌<◌, ◌≡◌, true, false, [], ◌∷◌, length, drop, MatchOption}
use Rattle.std.specs.declared.option.Option.{Option}
use Rattle.std.specs.declared.option.Option.TheVariants.{None, Some}
use Rattle.lists.specs.Lists.{is_nil}
use Rattle.format.specs.Bytes.{Bytes, fields}
use Rattle.format.specs.Rows.{number, signed, field, first_numbers}
use Rattle.fields.specs.declared.Field.{Field}
use Rattle.fields.specs.NextFields.{field_in}
use Rattle.rows.specs.Raised.{lowered, six_digits}
use Rattle.rows.specs.declared.parts.AtomAt.{AtomAt}
use Rattle.rows.specs.declared.parts.TwoAtoms.{TwoAtoms}
use Rattle.rows.specs.declared.xyz.RaisedAt.{RaisedAt}

-- the fields behind the first n of a line start at `to`
pub record Behind (line : Bytes) (n to : ℕ) : Type 0 where
  pub rest : fields (drop to line) ≡ drop n (fields line)
  pub high : to ≤ length line

-- the first field from `at` on is the number, and those behind it start at `to`
pub record AtomIs (line : Bytes) (at : ℕ) (r : AtomAt) : Type 0 where
  pub is : number (field 0 (fields (drop at line))) ≡ Some r.number
  pub small : r.number < 1000000
  pub rest : fields (drop r.to line) ≡ drop 1 (fields (drop at line))
  pub high : r.to ≤ length line

abbrev pub ShowsAtom : (line : Bytes) (at : ℕ) → Option AtomAt → Type 0
ShowsAtom line at o = MatchOption o (number (field 0 (fields (drop at line))) ≡ None) (AtomIs line at)

pub record TwoAre (line : Bytes) (r : TwoAtoms) : Type 0 where
  pub are : first_numbers 2 (fields line) ≡ Some (r.first ∷ r.second ∷ [])
  pub one : r.first < 1000000
  pub other : r.second < 1000000
  pub behind : Behind line 2 r.to

abbrev pub ShowsTwo : (line : Bytes) → Option TwoAtoms → Type 0
ShowsTwo line o = MatchOption o (first_numbers 2 (fields line) ≡ None) (TwoAre line)

-- one field is left from `at` on, and these are its ends
pub record OneLeft (line : Bytes) (at : ℕ) (f : Field) : Type 0 where
  pub is : fields (drop at line) ≡ field_in line f ∷ []
  pub order : f.from ≤ f.to
  pub high : f.to ≤ length line

abbrev pub ShowsLast : (line : Bytes) (at : ℕ) → Option (Option Field) → Type 0
ShowsLast line at o = MatchOption o (is_nil (drop 1 (fields (drop at line))) ≡ false) (λ f. MatchOption f (fields (drop at line) ≡ []) (OneLeft line at))

-- the first field from `at` on is a signed number, the answer's is 1,000,000 above it, and the fields behind it start at `to`
pub record RaisedIs (line : Bytes) (at : ℕ) (r : RaisedAt) : Type 0 where
  pub is : signed (field 0 (fields (drop at line))) ≡ Some (lowered r.number)
  pub small : six_digits (lowered r.number) ≡ true
  pub rest : fields (drop r.to line) ≡ drop 1 (fields (drop at line))
  pub high : r.to ≤ length line

abbrev pub ShowsRaised : (line : Bytes) (at : ℕ) → Option RaisedAt → Type 0
ShowsRaised line at o = MatchOption o (signed (field 0 (fields (drop at line))) ≡ None) (RaisedIs line at)
