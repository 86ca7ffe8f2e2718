-- The first field from a place of a line on: document 01, "Lines and labels". Assumes nothing.
use Rattle.std.specs.Prelude.{ℕ, ◌+◌, ◌-◌, ◌≤◌, ◌<◌, ◌≡◌, [], ◌∷◌, length, take, drop, get_or}
use Rattle.format.specs.Bytes.{Bytes, fields}
use Rattle.fields.specs.declared.Field.{Field}

-- the bytes of a field
abbrev pub field_in : Bytes → Field → Bytes
field_in line f = take (f.to - f.from) (drop f.from line)

pub record NextField (line : Bytes) (at : ℕ) (r : Field) : Type 0 where
  pub low : at ≤ r.from
  pub order : r.from ≤ r.to
  pub high : at ≤ length line → r.to ≤ length line
  -- `high` as one sum, which a caller's arithmetic reads unasked
  pub reach : r.to ≤ length line + (at - length line)
  pub is : field_in line r ≡ get_or (fields (drop at line)) 0 []
  pub rest : fields (drop r.to line) ≡ drop 1 (fields (drop at line))
  -- equal ends: no field is left; else there is one
  pub none : r.from ≡ r.to → fields (drop at line) ≡ []
  pub some : r.from < r.to → fields (drop at line) ≡ field_in line r ∷ fields (drop r.to line)
