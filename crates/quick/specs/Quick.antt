-- What a quick row's answer promises: document 01, "Lines and labels" and "Rows", and document 02, L2. Where it answers a row, the bytes from `at` to `next` are one
-- line of the block, no test of a line stops it, and its fields have the row's shape with these values. Where it answers none it promises nothing: the ordinary step
-- judges that line. Assumes nothing.
use Rattle.std.specs.Prelude.{ℕ, ◌-◌, ◌≤◌, ◌<◌, ◌≡◌, true, false, ◌∷◌, length, take, drop}
use Rattle.std.specs.declared.option.Option.TheVariants.{Some}
use Rattle.lists.specs.Lists.{is_nil, all}
use Rattle.format.specs.Bytes.{Bytes, allowed, cut, fields, strip}
use Rattle.format.specs.Labels.{Bonds, Plain, line_of}
use Rattle.format.specs.Rows.{atom_shape, row_shape}
use Rattle.format.specs.Coordinates.{xyz_shape}
use Rattle.rows.specs.Answers.{atom_row_of, bond_row_of}
use Rattle.rows.specs.Raised.{xyz_row_of, XyzSmall}
use Rattle.quick.specs.declared.atom.QuickAtom.{QuickAtom}
use Rattle.quick.specs.declared.bond.QuickBond.{QuickBond}
use Rattle.quick.specs.declared.xyz.QuickXyz.{QuickXyz}

-- the bytes from `at` to `next`
abbrev pub line_at : Bytes → (at next : ℕ) → Bytes
line_at block at next = take (next - at) (drop at block)

-- they are one line, of allowed bytes, no label line, without comment, and not blank
pub record OneLine (block : Bytes) (at next : ℕ) : Type 0 where
  pub low : at < next
  pub high : next ≤ length block
  pub first : cut (drop at block) ≡ line_at block at next ∷ cut (drop next block)
  pub fine : all allowed (line_at block at next) ≡ true
  pub plain : line_of (line_at block at next) ≡ Plain
  pub kept : strip (line_at block at next) ≡ line_at block at next
  pub inked : is_nil (fields (line_at block at next)) ≡ false

-- A ROW OF BONDLIST: "two atoms and S, D, T, Q or A"
pub record BondIs (block : Bytes) (at : ℕ) (r : QuickBond) : Type 0 where
  pub line : OneLine block at r.next
  pub shape : row_shape Bonds (fields (line_at block at r.next)) ≡ Some (bond_row_of r.row)
  pub one : r.row.first < 1000
  pub other : r.row.second < 1000
  pub small : r.row.kind < 6

-- A ROW OF ATOMLIST: "number, symbol, optional hydrogens", the symbol without `^`
pub record AtomIs (block : Bytes) (at : ℕ) (r : QuickAtom) : Type 0 where
  pub line : OneLine block at r.next
  pub shape : atom_shape (fields (line_at block at r.next)) ≡ Some (atom_row_of r.row)
  pub plain : r.row.mark.caret ≡ false
  pub bare : r.row.mark.mass ≡ 0
  pub small : r.row.number < 1000
  pub few : r.row.hydrogens < 10

-- A ROW OF XYZ: "an atom and three signed numbers", the numbers 1,000,000 above
pub record XyzAt (block : Bytes) (at : ℕ) (r : QuickXyz) : Type 0 where
  pub line : OneLine block at r.next
  pub shape : xyz_shape (fields (line_at block at r.next)) ≡ Some (xyz_row_of r.row)
  pub small : XyzSmall r.row
  pub one : r.row.atom < 1000
