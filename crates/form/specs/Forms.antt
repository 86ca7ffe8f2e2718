-- What printing a table promises: document 01, "The one written form". Of every table whose atoms and groups are as a sound table has them. Assumes nothing.
use Rattle.std.specs.Prelude.{ℕ, ◌≡◌, true, List, ℤ}
use Rattle.lists.specs.Lists.{all}
use Rattle.format.specs.Bytes.{Bytes}
use Rattle.format.specs.Structure.{atom_ok, groups as groups_of}
use Rattle.format.specs.Table.{decode}
use Rattle.format.specs.Writing.{form_of}
use Rattle.tally.specs.declared.entries.Entry.{Entry}
use Rattle.tally.specs.Gathering.{Gathered}
use Rattle.printing.specs.Printing.{Laid, Printed}
use Rattle.printing.specs.declared.Sheet.{Sheet}
use Rattle.form.specs.Listing.{GroupsFit}

pub record Printable (t : List ℤ) (entries : List Entry) : Type 0 where
  pub atoms : all (atom_ok 103) (decode t).atoms ≡ true
  pub groups : GroupsFit t
  pub gathered : Gathered (groups_of (decode t)) entries

abbrev pub FormLaid : List ℤ → Bytes → List Entry → (buffer later : Bytes) (r : ℕ) → Type 0
FormLaid t b entries buffer later r = Printable t entries → Laid buffer 0 (form_of t b) later r

-- the same on a sheet
abbrev pub FormPrinted : List ℤ → Bytes → List Entry → (before later : Sheet) → Type 0
FormPrinted t b entries s s' = Printable t entries → Printed s (form_of t b) s'
