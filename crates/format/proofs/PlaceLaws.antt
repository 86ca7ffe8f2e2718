-- Where a table's records stand: within its list each has the place that the table's type answers, no answer is beyond the table, and behind the last record the
-- unused part starts. Serves document 01, "The structure table". Assumes nothing.
use Prim.Native.Nat.{ℕ, ◌+◌, ◌*◌, ◌≤◌, ◌<◌, min}
use mathlib.Core.Path.{◌≡◌, refl, ap, ap₂, ◌∙◌}
use mathlib.Core.Bool.{Bool, true, false}
use native.Mathlib.Nat.{mul-le-mul_left, min-eq_left, min-eq_right}
use native.Mathlib.Omega.{arith}
use lib.Dec.{ltb}
use borrow.Author.Tests.{ltb-true, ltb-false}
use Rattle.format.specs.Labels.{ListOf, Bonds, Charges, Radicals, Centres, Pairs}
use Rattle.format.specs.Structure.{most}
use Rattle.format.specs.Table.{base, width, place_from, row_place, atom_place, text_place}
use Rattle.format.proofs.Places.{place_in, place_out}

-- ANY LIST of at most m records of width w, from b on
module _ (b w m i : ℕ) (end : b + w * m ≤ 3856) where
  place_small : place_from b w m i ≤ 3856
  place_small = go (ltb i m) refl
    where
      go : (t : Bool) → ltb i m ≡ t → place_from b w m i ≤ 3856
      go true e =
          let h : i < m = ltb-true i m e in
          let k : w * i ≤ w * m = mul-le-mul_left w (omega arith) in
          omega (arith, place_in b w m i h)
      go false e = omega (arith, place_out b w m i (ltb-false i m e))

  -- behind i records: the next one's place, or the region's end
  place_behind : i ≤ m → min (b + w * m) (place_from b w m i) ≡ b + w * i
  place_behind h = go (ltb i m) refl
    where
      go : (t : Bool) → ltb i m ≡ t → min (b + w * m) (place_from b w m i) ≡ b + w * i
      go true e =
          let k : w * i ≤ w * m = mul-le-mul_left w h in
          let q : place_from b w m i ≡ b + w * i = place_in b w m i (ltb-true i m e) in
          min-eq_right (omega arith) ∙ q
      go false e =
          let k : m ≤ i = ltb-false i m e in
          let q : i ≡ m = omega arith in
          min-eq_left (omega (arith, place_out b w m i k)) ∙ rw q

-- THE TEXTS
pub text_place_lem : (i : ℕ) → i < 3 → text_place i ≡ 7 + 2 * i
unfolding text_place
text_place_lem = place_in 7 2 3

pub text_small : (i p : ℕ) → p ≡ text_place i → p ≤ 3856
unfolding text_place
text_small i p e = omega (arith, e, place_small 7 2 3 i (omega arith))

-- THE ATOMS
module _ (i : ℕ) where
  pub atom_place_lem : i < 256 → atom_place i ≡ 16 + 5 * i
  unfolding atom_place
  atom_place_lem h = place_in 16 5 256 i h

  pub atom_small : (p : ℕ) → p ≡ atom_place i → p ≤ 3856
  unfolding atom_place
  atom_small p e = omega (arith, e, place_small 16 5 256 i (omega arith))

  pub atoms_behind : i ≤ 256 → (next from : ℕ) → next ≡ atom_place i → from ≡ min 1296 next → from ≡ 16 + 5 * i
  unfolding atom_place
  atoms_behind h next from e f = f ∙ ap (min 1296) e ∙ place_behind 16 5 256 i (omega arith) h

-- THE ROWS of a list
pub end_within : (l : ListOf) → base l + width l * most l ≤ 3856
unfolding base width most
end_within Bonds = omega arith
end_within Charges = omega arith
end_within Radicals = omega arith
end_within Centres = omega arith
end_within Pairs = omega arith

module _ (l : ListOf) (i : ℕ) where
  pub row_place_lem : i < most l → row_place l i ≡ base l + width l * i
  unfolding row_place
  row_place_lem h = place_in (base l) (width l) (most l) i h

  pub row_small_lem : (p : ℕ) → p ≡ row_place l i → p ≤ 3856
  unfolding row_place
  row_small_lem p e = omega (arith, e, place_small (base l) (width l) (most l) i (end_within l))

  pub rows_behind : i ≤ most l → (next end from : ℕ) → next ≡ row_place l i → end ≡ base l + width l * most l → from ≡ min end next → from ≡ base l + width l * i
  unfolding row_place
  rows_behind h next end from e f g = g ∙ ap₂ min f e ∙ place_behind (base l) (width l) (most l) i (end_within l) h

-- and in numbers; radicals stand as charges do
pub bond_place : (i : ℕ) → i < 512 → row_place Bonds i ≡ 1296 + 3 * i
unfolding base width most
bond_place = row_place_lem Bonds

pub charge_place : (i : ℕ) → i < 64 → row_place Charges i ≡ 2832 + 1 * i
unfolding base width most
charge_place = row_place_lem Charges

pub centre_place : (i : ℕ) → i < 128 → row_place Centres i ≡ 2960 + 3 * i
unfolding base width most
centre_place = row_place_lem Centres

pub pair_place : (i : ℕ) → i < 128 → row_place Pairs i ≡ 3344 + 4 * i
unfolding base width most
pair_place = row_place_lem Pairs
