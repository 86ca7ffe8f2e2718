-- The regions' definitions over what the code has in hand: the counts that it read, the parts that it lent. Assumes nothing.
use Prim.Native.Nat.{ℕ, ◌+◌, ◌-◌, ◌*◌, ◌≤◌}
use mathlib.Core.Path.{◌≡◌}
use mathlib.Core.Bool.{Bool, true, ◌&&◌}
use mathlib.Core.List.{List}
use native.Mathlib.Omega.{arith}
use lib.ListN.{length, take, drop}
use lib.IntN.{ℤ, nat_abs}
use lib.Dec.{leb}
use borrow.Author.Tests.{le-leb}
use Rattle.lists.specs.Lists.{all, rows_from}
use Rattle.lists.proofs.Bools.{and_parts}
use Rattle.format.specs.Bytes.{Bytes}
use Rattle.format.specs.Structure.{ranging}
use Rattle.format.specs.Table.{cell, spans_of, sound_numbers, text_ok, sound}
use Rattle.soundness.specs.Numbered.{column_of, in_turn, up_to}
use Rattle.soundness.specs.Sounding.{number_at, list_fine, spread_fine, unused, counts_fine, header_fine, atom_fine, atoms_fine, records_fine, keyed_fine, value_fine, values_fine, lists_fine, regions_fine}
use Rattle.soundness.proofs.AtomLaws.{columns_fine}
use Rattle.soundness.proofs.TestLaws.{listed_small}
use Rattle.soundness.proofs.FirstLaws.{sound_first}
use Rattle.soundness.specs.declared.shapes.Shape.{Shape}
use Rattle.soundness.specs.declared.spread.Spread.{Spread}
use Rattle.soundness.proofs.RegionsLaws.{sound_regions}

pub record Few (t : List ℤ) : Type 0 where
  pub atoms : cell t 0 ≤ 256
  pub bonds : cell t 1 ≤ 512
  pub charges : cell t 2 ≤ 64
  pub radicals : cell t 3 ≤ 64
  pub centres : cell t 4 ≤ 128
  pub pairs : cell t 5 ≤ 128

module _ (t : List ℤ) where
  pub atoms_is : (n c r : ℕ) → n ≡ cell t 0 → c ≡ cell t 2 → r ≡ cell t 3 → (from : ℕ) → from ≡ 16 + 5 * n →
      atoms_fine 103 t ≡ (all (λ b. b) (rows_from 5 (atom_fine 103 c r) n (drop 16 t)) && unused (take (1296 - from) (drop from t)))
  unfolding atoms_fine
  atoms_is n c r e f g from s =
      let q : 1280 - 5 * cell t 0 ≡ 1296 - (16 + 5 * cell t 0) = omega arith in
      rw (s, e, f, g, q)

  -- behind so many records of a list, and behind so many values
  pub list_is : (list : Shape) (n rows : ℕ) → n ≡ cell t 0 → rows ≡ cell t list.count →
      list_fine list t ≡ (records_fine list.members list.low list.high list.grouped list.width n rows (drop list.first t) && unused (take (list.end - (list.first + list.width * rows)) (drop (list.first + list.width * rows) t)))
  unfolding keyed_fine
  list_is list n rows e f =
      let q : list.end - list.first - list.width * cell t list.count ≡ list.end - (list.first + list.width * cell t list.count) = omega arith in
      rw (e, f, q)

  pub spread_is : (list : Spread) (n rows : ℕ) → n ≡ cell t 0 → rows ≡ cell t list.count → list.first + 64 ≡ list.end →
      spread_fine list.signed list.count list.first list.column t
      ≡ ((all (value_fine list.signed) (take (list.first + rows - list.first) (drop list.first t)) && unused (take (list.end - (list.first + rows)) (drop (list.first + rows) t))) && in_turn 0 rows (column_of list.column n t))
  unfolding values_fine
  spread_is list n rows e f g =
      let q : list.first + cell t list.count - list.first ≡ cell t list.count = omega arith in
      let r : list.end - (list.first + cell t list.count) ≡ 64 - cell t list.count = omega arith in
      rw (e, f, q, r)

  pub up_same : (n rows count column : ℕ) → n ≡ cell t 0 → rows ≡ cell t count → up_to (cell t count) (column_of column (cell t 0) t) ≡ true → up_to rows (column_of column n t) ≡ true
  up_same n rows count column e f h = rw (e, f) h

  -- where each atom is fine, the records name no row beyond the last
  each_fine : atoms_fine 103 t ≡ true → all (λ b. b) (rows_from 5 (atom_fine 103 (cell t 2) (cell t 3)) (cell t 0) (drop 16 t)) ≡ true
  unfolding atoms_fine
  each_fine h = (and_parts (all (λ b. b) (rows_from 5 (atom_fine 103 (cell t 2) (cell t 3)) (cell t 0) (drop 16 t))) _ h).0

  pub charges_up : atoms_fine 103 t ≡ true → up_to (cell t 2) (column_of 3 (cell t 0) t) ≡ true
  unfolding column_of
  charges_up h = (columns_fine 103 (cell t 2) (cell t 3) (cell t 0) (drop 16 t) (each_fine h)).0

  pub radicals_up : atoms_fine 103 t ≡ true → up_to (cell t 3) (column_of 4 (cell t 0) t) ≡ true
  unfolding column_of
  radicals_up h = (columns_fine 103 (cell t 2) (cell t 3) (cell t 0) (drop 16 t) (each_fine h)).1

  -- where the header is fine, each count is within its list's limit
  counted : (low high : ℕ) (z : ℤ) (b : Bool) → (ranging low high z && b) ≡ true → (nat_abs z ≤ high) × (b ≡ true)
  counted low high z b h = let p = and_parts (ranging low high z) b h in (listed_small low high z p.0, p.1)

  pub few : header_fine t ≡ true → Few t
  unfolding header_fine counts_fine
  few h =
      let a = counted 1 256 (number_at t 0) _ (and_parts (counts_fine t) _ h).0 in
      let b = counted 0 512 (number_at t 1) _ a.1 in
      let c = counted 0 64 (number_at t 2) _ b.1 in
      let d = counted 0 64 (number_at t 3) _ c.1 in
      let e = counted 0 128 (number_at t 4) _ d.1 in
      let f = counted 0 128 (number_at t 5) _ e.1 in
      record { atoms = a.0; bonds = b.0; charges = c.0; radicals = d.0; centres = e.0; pairs = f.0 }

  -- the whole
  pub numbers_is : length t ≡ 3856 → sound_numbers 103 t ≡ (header_fine t && (atoms_fine 103 t && lists_fine t))
  unfolding regions_fine
  numbers_is long = sound_regions 103 t (omega arith)

  -- and with the texts: of a table that is long enough the first numbers are looked at
  pub sound_is : (b : Bytes) → 3856 ≤ length t → (leb 3856 (length t) && sound 103 t b) ≡ (sound_numbers 103 (take 3856 t) && all (text_ok b) (spans_of t))
  unfolding sound
  sound_is b h = rw (le-leb 3856 (length t) h, sound_first t 103)
