-- The lists of a table, and what printing them promises: document 01, "The one written form". A group of a sound table is a byte. Assumes nothing.
use Rattle.std.specs.Prelude.{◌≡◌, Bool, true, List, ℤ, ltb}
use Rattle.lists.specs.Lists.{all, flat}
use Rattle.format.specs.Bytes.{Bytes}
use Rattle.format.specs.Labels.{ListOf}
use Rattle.format.specs.Rows.{Row}
use Rattle.format.specs.Structure.{rows_of}
use Rattle.format.specs.Table.{decode}
use Rattle.format.specs.Writing.{line, row_words, print_rows}
use Rattle.printing.specs.Printing.{Printed}
use Rattle.printing.specs.declared.Sheet.{Sheet}

-- the groups of rows are bytes
abbrev pub groups_fit : List Row → Bool
groups_fit rs = all (λ r. ltb r.group 256) rs

abbrev pub GroupsFit : List ℤ → Type 0
GroupsFit t = (l : ListOf) → groups_fit (rows_of l (decode t)) ≡ true

-- the rows of a list; a list with its label
abbrev pub rows_text : ListOf → List Row → Bytes
rows_text l rs = flat (λ x. line (row_words l x)) rs

abbrev pub RowsLaid : ListOf → List ℤ → (before later : Sheet) → Type 0
RowsLaid l t s s' = groups_fit (rows_of l (decode t)) ≡ true → Printed s (rows_text l (rows_of l (decode t))) s'

abbrev pub ListLaid : ListOf → List ℤ → (before later : Sheet) → Type 0
ListLaid l t s s' = groups_fit (rows_of l (decode t)) ≡ true → Printed s (print_rows l (rows_of l (decode t))) s'
