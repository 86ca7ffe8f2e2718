-- A quick row put together from its pieces: document 01, "Rows", ATOMLIST and BONDLIST, and document 02, L2, XYZ. Assumes nothing.
use Prim.Native.Nat.{ℕ, ◌+◌, ◌≤◌, ◌<◌}
use mathlib.Core.Path.{◌≡◌, refl, ap, ◌∙◌}
use Rattle.std.specs.declared.option.Option.TheVariants.{Some}
use mathlib.Core.List.{List, [], ◌∷◌, ◌++◌}
use native.Mathlib.Omega.{arith}
use lib.ListN.{length, get_or, drop}
use Rattle.format.specs.Bytes.{Bytes}
use Rattle.format.specs.Labels.{Bonds}
use Rattle.format.specs.Rows.{first_numbers, marked, row_shape, atom_shape}
use Rattle.format.specs.Coordinates.{xyz_shape}
use Rattle.rows.specs.Answers.{atom_row_of, bond_row_of}
use Rattle.rows.specs.Raised.{lowered, xyz_row_of}
use Rattle.rows.specs.declared.atom.AtomRow.{AtomRow}
use Rattle.rows.specs.declared.bond.BondRow.{BondRow}
use Rattle.rows.specs.declared.xyz.XyzRow.{XyzRow}
use Rattle.rows.proofs.XyzLaws.{rows_small}
use Rattle.quick.specs.declared.parts.NumberAt.{NumberAt}
use Rattle.quick.specs.declared.parts.SymbolAt.{SymbolAt}
use Rattle.quick.specs.declared.parts.Tail.{Tail}
use Rattle.quick.specs.declared.parts.SignedAt.{SignedAt}
use Rattle.quick.specs.Pieces.{Words, later, feed, NumberIs, EndIs, KindIs, SymbolIs, TailIs, SignedIs, SpacedIs}
use Rattle.quick.specs.Quick.{BondIs, AtomIs, XyzAt}
use Rattle.quick.proofs.PieceLaws.{byte_at, letter_word}
use Rattle.quick.proofs.SignedLaws.{spaced_near}
use Rattle.quick.proofs.LineLaws.{one_line, line_reads}

-- A BOND
module _ (s : Bytes) (at : ℕ) (first second : NumberAt) (kind next : ℕ) (n : NumberIs s at first) (m : NumberIs s first.to second) (k : KindIs (get_or s second.to 0) kind)
    (e : EndIs s (second.to + 1) next) (room : at + 11 ≤ length s) where
  abbrev bond : BondRow
  bond = record { first = first.number; second = second.number; kind = kind }

  abbrev words : List Bytes
  words = m.word ∷ (get_or s second.to 0 ∷ []) ∷ []

  bond_is : drop at s ≡ n.word ++ later words (feed e.returned ++ drop next s)
  unfolding later
  bond_is =
      n.is ∙ ap (λ (r : Bytes). n.word ++ (32 ∷ r)) (m.is
      ∙ ap (λ (r : Bytes). m.word ++ (32 ∷ r)) (byte_at s second.to (second.to + 1) (omega (arith, n.high, m.high)) refl ∙ ap (λ (r : Bytes). get_or s second.to 0 ∷ r) e.is))

  bond_fine : Words words
  bond_fine = (m.fine, (letter_word (get_or s second.to 0) k.seen, tt))

  low : at < next
  low = omega (arith, n.low, m.low, e.low)

  high : next ≤ length s
  high = omega (arith, n.high, m.high, e.high)

  bond_shape : row_shape Bonds (n.word ∷ words) ≡ Some (bond_row_of bond)
  unfolding row_shape marked first_numbers
  bond_shape = rw (n.says, m.says, k.says)

  pub bond_row : BondIs s at (record { row = bond; next = next })
  bond_row = record {
    line = one_line s at next n.word words e.returned low high n.fine bond_fine bond_is;
    shape = ap (row_shape Bonds) (line_reads s at next n.word words e.returned low high n.fine bond_fine bond_is) ∙ bond_shape;
    one = n.small;
    other = m.small;
    small = k.small;
  }

-- AN ATOM
module _ (s : Bytes) (at : ℕ) (number : NumberAt) (symbol : SymbolAt) (tail : Tail) (n : NumberIs s at number) (x : SymbolIs s number.to symbol) (t : TailIs s symbol.to tail)
    (room : at + 10 ≤ length s) where
  abbrev atom : AtomRow
  atom = record { number = number.number; mark = symbol.mark; hydrogens = tail.hydrogens }

  atom_is : drop at s ≡ n.word ++ later (x.word ∷ t.words) (feed t.returned ++ drop tail.next s)
  unfolding later
  atom_is = n.is ∙ ap (λ (r : Bytes). n.word ++ (32 ∷ r)) (x.is ∙ ap (λ (r : Bytes). x.word ++ r) t.is)

  before : at < tail.next
  before = omega (arith, n.low, x.low, t.low)

  within_block : tail.next ≤ length s
  within_block = omega (arith, n.high, x.high, t.high)

  atom_shape_lem : atom_shape (n.word ∷ x.word ∷ t.words) ≡ Some (atom_row_of atom)
  unfolding atom_shape
  atom_shape_lem = rw (n.says, x.says, t.says)

  pub atom_row : AtomIs s at (record { row = atom; next = tail.next })
  atom_row = record {
    line = one_line s at tail.next n.word (x.word ∷ t.words) t.returned before within_block n.fine (x.fine, t.fine) atom_is;
    shape = ap atom_shape (line_reads s at tail.next n.word (x.word ∷ t.words) t.returned before within_block n.fine (x.fine, t.fine) atom_is) ∙ atom_shape_lem;
    plain = x.plain;
    bare = x.bare;
    small = n.small;
    few = t.small;
  }

-- AN ATOM AND ITS THREE NUMBERS
module _ (s : Bytes) (at : ℕ) (atom : NumberAt) (x y z : SignedAt) (next : ℕ) (n : NumberIs s at atom) (u : SpacedIs s atom.to x) (v : SpacedIs s x.to y)
    (w : SignedIs s y.to z) (e : EndIs s z.to next) (room : at + 29 ≤ length s) where
  abbrev xyz : XyzRow
  xyz = record { atom = atom.number; x = x.number; y = y.number; z = z.number }

  abbrev numbers : List Bytes
  numbers = u.number.word ∷ v.number.word ∷ w.word ∷ []

  numbers_are : drop at s ≡ n.word ++ later numbers (feed e.returned ++ drop next s)
  unfolding later
  numbers_are =
      n.is ∙ ap (λ (r : Bytes). n.word ++ (32 ∷ r)) (u.number.is
      ∙ ap (λ (r : Bytes). u.number.word ++ r) (u.is ∙ ap (λ (r : Bytes). 32 ∷ r) (v.number.is
      ∙ ap (λ (r : Bytes). v.number.word ++ r) (v.is ∙ ap (λ (r : Bytes). 32 ∷ r) (w.is ∙ ap (λ (r : Bytes). w.word ++ r) e.is)))))

  numbers_fine : Words numbers
  numbers_fine = (u.number.fine, (v.number.fine, (w.fine, tt)))

  numbers_low : at < next
  numbers_low = omega (arith, n.low, (spaced_near s atom.to x u).0, (spaced_near s x.to y v).0, w.low, e.low)

  numbers_high : next ≤ length s
  numbers_high = omega (arith, n.high, (spaced_near s atom.to x u).1, (spaced_near s x.to y v).1, w.high, e.high)

  numbers_shape : xyz_shape (n.word ∷ numbers) ≡ Some (xyz_row_of xyz)
  unfolding xyz_shape
  numbers_shape = rw (n.says, u.number.says, v.number.says, w.says)

  pub xyz_row : XyzAt s at (record { row = xyz; next = next })
  xyz_row = record {
    line = one_line s at next n.word numbers e.returned numbers_low numbers_high n.fine numbers_fine numbers_are;
    shape = ap xyz_shape (line_reads s at next n.word numbers e.returned numbers_low numbers_high n.fine numbers_fine numbers_are) ∙ numbers_shape;
    small = rows_small atom.number (lowered x.number) (lowered y.number) (lowered z.number) u.number.small v.number.small w.small;
    one = n.small;
  }
