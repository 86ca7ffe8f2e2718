-- Where the rows and the atoms of a table stand, and how many there are: document 01, "The structure table". Assumes nothing.
use Prim.Native.Nat.{ℕ, zero, suc, ◌+◌, ◌*◌, ◌≤◌, ◌<◌}
use mathlib.Core.Path.{◌≡◌, refl, sym, ap, ap₂, ◌∙◌}
use mathlib.Core.List.{List, [], ◌∷◌, map}
use native.Mathlib.Nat.{min-le_left, add-zero, not-suc-le-zero, le_of_suc-le-suc}
use native.Mathlib.Numerals.{add-one}
use native.Mathlib.Omega.{arith}
use lib.ListN.{length, get_or, take, drop, length-take, length-drop}
use lib.IntN.{ℤ, pos, nat_abs}
use lib.Seq.{drop-cons, drop-drop, get_or-drop, get_or-take, length-take-le}
use Rattle.lists.proofs.RegionLaws.{rows_length, rows_at}
use Rattle.format.specs.Labels.{Bonds, Charges, Radicals, Centres, Pairs}
use Rattle.format.specs.Rows.{Row, row}
use Rattle.format.specs.Structure.{rows_of, most}
use Rattle.format.specs.Table.{base, width, row_place, atom_place, cell, count_at, marked_at, bond_at, members_at, spread_at, atom_records, decode}
use Rattle.format.proofs.PlaceLaws.{atom_place_lem, row_place_lem}
use Rattle.rowform.specs.Lines.{row_no}

-- A COUNT
count_le : (t : List ℤ) (p m : ℕ) → count_at t p m ≤ m
unfolding count_at
count_le t p m = min-le_left m (cell t p)

-- CELLS OF A RECORD that starts at p
cells_one : (t : List ℤ) (p : ℕ) → p + 1 ≤ length t → map nat_abs (take 1 (drop p t)) ≡ cell t p ∷ []
cells_one t p h = ap (λ l. map nat_abs (take 1 l)) (drop-cons t p (pos 0) (omega arith))

cells_two : (t : List ℤ) (p : ℕ) → p + 2 ≤ length t → map nat_abs (take 2 (drop p t)) ≡ cell t p ∷ cell t (p + 1) ∷ []
cells_two t p h =
    ap (λ l. map nat_abs (take 2 l)) (drop-cons t p (pos 0) (omega arith)) ∙ ap (λ l. cell t p ∷ map nat_abs (take 1 l)) (drop-cons t (suc p) (pos 0) (omega arith))
    ∙ ap (λ k. cell t p ∷ cell t k ∷ []) (sym (add-one p))

-- THE ROWS OF A LIST
module _ (t : List ℤ) where
  pub bonds_many : length (rows_of Bonds (decode t)) ≡ count_at t 1 512
  unfolding rows_of decode
  bonds_many = rows_length 3 bond_at (count_at t 1 512) (drop 1296 t)

  pub centres_many : length (rows_of Centres (decode t)) ≡ count_at t 4 128
  unfolding rows_of decode
  centres_many = rows_length 3 (marked_at 1) (count_at t 4 128) (drop 2960 t)

  pub pairs_many : length (rows_of Pairs (decode t)) ≡ count_at t 5 128
  unfolding rows_of decode
  pairs_many = rows_length 4 (marked_at 2) (count_at t 5 128) (drop 3344 t)

-- a row by its place p
module _ (t : List ℤ) (long : 3856 ≤ length t) (i p : ℕ) where
  pub bond_is : p ≡ row_place Bonds i → i < length (rows_of Bonds (decode t)) → row_no Bonds t i ≡ row (cell t p ∷ cell t (p + 1) ∷ []) (get_or t (p + 2) (pos 0)) 0
  unfolding row_no rows_of decode base width most
  bond_is e h =
      let k : i < count_at t 1 512 = omega (arith, h, bonds_many t) in
      let q : 1296 + 3 * i ≡ p = sym (e ∙ row_place_lem Bonds i (omega (arith, count_le t 1 512))) in
      rows_at 3 bond_at (row [] (pos 0) 0) (count_at t 1 512) (drop 1296 t) i k ∙ ap bond_at (drop-drop (3 * i) 1296 t ∙ ap (λ n. drop n t) q)
      ∙ ap₂ (λ ns v. row ns v 0) (cells_two t p (omega (arith, count_le t 1 512))) (get_or-drop p t 2 (pos 0))

  pub centre_is : p ≡ row_place Centres i → i < length (rows_of Centres (decode t)) → row_no Centres t i ≡ row (cell t p ∷ []) (get_or t (p + 1) (pos 0)) (cell t (p + 2))
  unfolding row_no rows_of decode base width most
  centre_is e h =
      let k : i < count_at t 4 128 = omega (arith, h, centres_many t) in
      let q : 2960 + 3 * i ≡ p = sym (e ∙ row_place_lem Centres i (omega (arith, count_le t 4 128))) in
      rows_at 3 (marked_at 1) (row [] (pos 0) 0) (count_at t 4 128) (drop 2960 t) i k ∙ ap (marked_at 1) (drop-drop (3 * i) 2960 t ∙ ap (λ n. drop n t) q)
      ∙ ap₂ (λ ns v. row ns v (cell (drop p t) 2)) (cells_one t p (omega (arith, count_le t 4 128))) (get_or-drop p t 1 (pos 0))
      ∙ ap (λ z. row (cell t p ∷ []) (get_or t (p + 1) (pos 0)) (nat_abs z)) (get_or-drop p t 2 (pos 0))

  pub pair_is : p ≡ row_place Pairs i → i < length (rows_of Pairs (decode t)) → row_no Pairs t i ≡ row (cell t p ∷ cell t (p + 1) ∷ []) (get_or t (p + 2) (pos 0)) (cell t (p + 3))
  unfolding row_no rows_of decode base width most
  pair_is e h =
      let k : i < count_at t 5 128 = omega (arith, h, pairs_many t) in
      let q : 3344 + 4 * i ≡ p = sym (e ∙ row_place_lem Pairs i (omega (arith, count_le t 5 128))) in
      rows_at 4 (marked_at 2) (row [] (pos 0) 0) (count_at t 5 128) (drop 3344 t) i k ∙ ap (marked_at 2) (drop-drop (4 * i) 3344 t ∙ ap (λ n. drop n t) q)
      ∙ ap₂ (λ ns v. row ns v (cell (drop p t) 3)) (cells_two t p (omega (arith, count_le t 5 128))) (get_or-drop p t 2 (pos 0))
      ∙ ap (λ z. row (cell t p ∷ cell t (p + 1) ∷ []) (get_or t (p + 2) (pos 0)) (nat_abs z)) (get_or-drop p t 3 (pos 0))

-- THE ROWS OF MEMBERS
spread_long : (p j : ℕ) (rs : List (List ℤ)) (vs : List ℤ) → length (spread_at p j rs vs) ≡ length vs
unfolding spread_at
spread_long p j rs [] = refl
spread_long p j rs (v ∷ vs) = ap suc (spread_long p (suc j) rs vs)

spread_at_lem : (p j : ℕ) (rs : List (List ℤ)) (vs : List ℤ) (i : ℕ) (d : Row) → i < length vs → get_or (spread_at p j rs vs) i d ≡ row (members_at p (j + i) 1 rs) (get_or vs i (pos 0)) 0
unfolding spread_at
spread_at_lem p j rs [] i d h = absurd (not-suc-le-zero h)
spread_at_lem p j rs (v ∷ vs) zero d h = ap (λ k. row (members_at p k 1 rs) v 0) (sym (add-zero j))
spread_at_lem p j rs (v ∷ vs) (suc i) d h =
    let q : suc j + i ≡ j + suc i = omega arith in
    spread_at_lem p (suc j) rs vs i d (le_of_suc-le-suc h) ∙ ap (λ k. row (members_at p k 1 rs) (get_or vs i (pos 0)) 0) q

spread_no : (t : List ℤ) (p from n i : ℕ) (rs : List (List ℤ)) (d : Row) → i < length (spread_at p 1 rs (take n (drop from t)))
    → get_or (spread_at p 1 rs (take n (drop from t))) i d ≡ row (members_at p (i + 1) 1 rs) (get_or t (from + i) (pos 0)) 0
spread_no t p from n i rs d h =
    let k : i < length (take n (drop from t)) = omega (arith, h, (spread_long p 1 rs (take n (drop from t)))) in
    let q : 1 + i ≡ i + 1 = omega arith in
    let m : i < n = omega (arith, k, length-take n (drop from t), min-le_left n (length (drop from t))) in
    spread_at_lem p 1 rs (take n (drop from t)) i d k
    ∙ ap₂ (λ j v. row (members_at p j 1 rs) v 0) q (get_or-take n (drop from t) i (pos 0) m ∙ get_or-drop from t i (pos 0))

module _ (t : List ℤ) (long : 3856 ≤ length t) where
  pub charges_many : length (rows_of Charges (decode t)) ≡ count_at t 2 64
  unfolding rows_of decode
  charges_many = spread_long 3 1 (atom_records t) (take (count_at t 2 64) (drop 2832 t)) ∙ length-take-le (count_at t 2 64) (drop 2832 t) (omega (arith, length-drop 2832 t, count_le t 2 64))

  pub radicals_many : length (rows_of Radicals (decode t)) ≡ count_at t 3 64
  unfolding rows_of decode
  radicals_many = spread_long 4 1 (atom_records t) (take (count_at t 3 64) (drop 2896 t)) ∙ length-take-le (count_at t 3 64) (drop 2896 t) (omega (arith, length-drop 2896 t, count_le t 3 64))

module _ (t : List ℤ) (long : 3856 ≤ length t) (i p : ℕ) where
  pub charge_is : p ≡ row_place Charges i → i < length (rows_of Charges (decode t)) → row_no Charges t i ≡ row (members_at 3 (i + 1) 1 (atom_records t)) (get_or t p (pos 0)) 0
  unfolding row_no rows_of decode base width most
  charge_is e h =
      let q : 2832 + i ≡ p = omega (arith, e, row_place_lem Charges i (omega (arith, h, charges_many t long, count_le t 2 64))) in
      spread_no t 3 2832 (count_at t 2 64) i (atom_records t) (row [] (pos 0) 0) h ∙ ap (λ n. row (members_at 3 (i + 1) 1 (atom_records t)) (get_or t n (pos 0)) 0) q

  pub radical_is : p ≡ row_place Radicals i → i < length (rows_of Radicals (decode t)) → row_no Radicals t i ≡ row (members_at 4 (i + 1) 1 (atom_records t)) (get_or t p (pos 0)) 0
  unfolding row_no rows_of decode base width most
  radical_is e h =
      let q : 2896 + i ≡ p = omega (arith, e, row_place_lem Radicals i (omega (arith, h, radicals_many t long, count_le t 3 64))) in
      spread_no t 4 2896 (count_at t 3 64) i (atom_records t) (row [] (pos 0) 0) h ∙ ap (λ n. row (members_at 4 (i + 1) 1 (atom_records t)) (get_or t n (pos 0)) 0) q

-- THE ATOMS' RECORDS
pub records_many : (t : List ℤ) → length (atom_records t) ≡ count_at t 0 256
unfolding atom_records
records_many t = rows_length 5 (take 5) (count_at t 0 256) (drop 16 t)

pub record_cell : (t : List ℤ) (i k : ℕ) → i < length (atom_records t) → k < 5 → cell (get_or (atom_records t) i []) k ≡ cell t (16 + 5 * i + k)
unfolding atom_records
record_cell t i k h g =
    let m : i < count_at t 0 256 = omega (arith, h, (records_many t)) in
    ap (λ r. cell r k) (rows_at 5 (take 5) [] (count_at t 0 256) (drop 16 t) i m ∙ ap (take 5) (drop-drop (5 * i) 16 t))
    ∙ ap nat_abs (get_or-take 5 (drop (16 + 5 * i) t) k (pos 0) g ∙ get_or-drop (16 + 5 * i) t k (pos 0))

-- at the place that the table's type answers
pub record_read : (t : List ℤ) (i p k : ℕ) → p ≡ atom_place i → i < length (atom_records t) → k < 5 → cell (get_or (atom_records t) i []) k ≡ cell t (p + k)
record_read t i p k e h g = record_cell t i k h g ∙ ap (λ n. cell t (n + k)) (sym (e ∙ atom_place_lem i (omega (arith, h, records_many t, count_le t 0 256))))
