-- What is kept of a text: document 01, "Lines and labels". Assumes nothing.
use Rattle.std.specs.Prelude.{◌≤◌, ◌≡◌, length}
use Rattle.format.specs.Bytes.{Bytes, lead, trim}
use Rattle.fields.specs.declared.Field.{Field}
use Rattle.fields.specs.NextFields.{field_in}

pub record Trimmed (text : Bytes) (r : Field) : Type 0 where
  pub low : r.from ≡ lead text
  pub order : r.from ≤ r.to
  pub high : r.to ≤ length text
  pub is : field_in text r ≡ trim text
