-- The row numbers of a table's atoms at an index: what the loop over the atoms cites. Serves document 01, "The structure table". Assumes nothing.
use Prim.Native.Nat.{ℕ, suc, ◌+◌, ◌*◌, max, ◌≤◌, ◌<◌}
use mathlib.Core.Path.{◌≡◌, refl, sym, ap, ◌∙◌}
use mathlib.Core.Bool.{Bool, true, false, not, ◌&&◌, ◌||◌}
use mathlib.Core.List.{List, [], ◌∷◌}
use native.Mathlib.Nat.{max-le}
use native.Mathlib.Numerals.{add-one}
use native.Mathlib.Omega.{arith}
use lib.ListN.{length, get_or, take, drop, drop_of_length-le}
use lib.Seq.{drop-cons, get_or-take, get_or-drop}
use lib.IntN.{ℤ, pos, nat_abs}
use lib.Dec.{eqb, leb}
use Rattle.lists.specs.Lists.{all, pairs, rows_from}
use Rattle.lists.specs.Order.{ascends}
use Rattle.lists.proofs.PartLaws.{all_map}
use Rattle.lists.proofs.RegionLaws.{rows_length, rows_at}
use Rattle.format.specs.Labels.{ListOf}
use Rattle.format.specs.Rows.{Row}
use Rattle.format.specs.Structure.{meets, row_before}
use Rattle.format.specs.Table.{cell, count_at, atom_records, spread_at}
use Rattle.soundness.specs.Numbered.{column, column_of, in_turn, up_to}
use Rattle.soundness.proofs.NumberedLaws.{column_length, column_at}
use Rattle.soundness.proofs.InTurnLaws.{turn_nil, turn_beyond, turn_on, overlaps, in_turn_lem}

-- THE CELLS
column_is : (p n : ℕ) (t : List ℤ) → column_of p n t ≡ column p (rows_from 5 (take 5) n (drop 16 t))
unfolding column_of
column_is p n t = refl

pub column_size : (p n : ℕ) (t : List ℤ) → length (column_of p n t) ≡ n
column_size p n t = ap length (column_is p n t) ∙ column_length p (rows_from 5 (take 5) n (drop 16 t)) ∙ rows_length 5 (take 5) n (drop 16 t)

pub column_cell : (p n : ℕ) (t : List ℤ) (i : ℕ) → p < 5 → i < n → get_or (column_of p n t) i 0 ≡ cell t (16 + 5 * i + p)
column_cell p n t i h k =
    let s : List ℤ = drop (5 * i) (drop 16 t) in
    let q : 16 + (5 * i + p) ≡ 16 + 5 * i + p = omega arith in
    let e : get_or (take 5 s) p (pos 0) ≡ get_or t (16 + 5 * i + p) (pos 0) =
    get_or-take 5 s p (pos 0) h ∙ get_or-drop (5 * i) (drop 16 t) p (pos 0) ∙ get_or-drop 16 t (5 * i + p) (pos 0) ∙ ap (λ (m : ℕ). get_or t m (pos 0)) q in
    ap (λ (l : List ℕ). get_or l i 0) (column_is p n t) ∙ column_at p (rows_from 5 (take 5) n (drop 16 t)) i
    ∙ ap (λ (a : List ℤ). cell a p) (rows_at 5 (take 5) [] n (drop 16 t) i k) ∙ ap nat_abs e

-- no more rows are met than atoms
pub higher_le : (met row next i : ℕ) → next ≡ max met row → met ≤ i → row ≤ met + 1 → next ≤ i + 1
higher_le met row next i e h k = omega (arith, max-le {a = met} {b = row} {k = i + 1} (omega arith) (omega arith))

-- IN TURN, from atom i on
module _ (met rows p n : ℕ) (t : List ℤ) (i : ℕ) where
  abbrev rest : ℕ → List ℕ
  rest k = drop k (column_of p n t)

  first : i < n → rest i ≡ get_or (column_of p n t) i 0 ∷ rest (suc i)
  first h = drop-cons (column_of p n t) i 0 (omega (arith, column_size p n t))

  -- the number of the atom's row, read at the record's place
  number : p < 5 → i < n → (place : ℕ) → place ≡ 16 + 5 * i → (row : ℕ) → row ≡ cell t (place + p) → get_or (column_of p n t) i 0 ≡ row
  number k h place s row e = column_cell p n t i k h ∙ ap (λ (m : ℕ). cell t (m + p)) (sym s) ∙ sym e

  pub turn_at_beyond : p < 5 → i < n → (place : ℕ) → place ≡ 16 + 5 * i → (row : ℕ) → row ≡ cell t (place + p) → met + 1 < row → in_turn met rows (rest i) ≡ false
  turn_at_beyond k h place s row e b = ap (in_turn met rows) (first h) ∙ turn_beyond met rows (get_or (column_of p n t) i 0) (rest (suc i)) (omega (arith, number k h place s row e))

  pub turn_at_on : p < 5 → i < n → (place : ℕ) → place ≡ 16 + 5 * i → (row next : ℕ) → row ≡ cell t (place + p) → row ≤ met + 1 → next ≡ max met row →
      in_turn met rows (rest i) ≡ in_turn next rows (rest (i + 1))
  turn_at_on k h place s row next e b f =
      let c : get_or (column_of p n t) i 0 ≡ row = number k h place s row e in
      ap (in_turn met rows) (first h) ∙ turn_on met rows (get_or (column_of p n t) i 0) (rest (suc i)) (omega arith)
      ∙ rw (c, ← f, add-one)

  pub turn_at_end : n ≤ i → in_turn met rows (rest i) ≡ (eqb rows met || eqb rows (met + 1))
  turn_at_end h = ap (in_turn met rows) (drop_of_length-le (column_of p n t) {i = i} (omega (arith, column_size p n t))) ∙ turn_nil met rows ∙ rw add-one

-- THE TABLE'S OWN ROWS: what the loop answers is what the definitions ask of them, where no atom's number is beyond the rows
records_are : (p n : ℕ) (t : List ℤ) → n ≡ count_at t 0 256 → column_of p n t ≡ column p (atom_records t)
unfolding column_of atom_records
records_are p n t e = ap (λ (k : ℕ). column p (rows_from 5 (take 5) k (drop 16 t))) e

module _ (l : ListOf) (alike : (rs : List Row) → pairs (meets l) rs ≡ pairs overlaps rs) (p n rows : ℕ) (t vs : List ℤ) (count : n ≡ count_at t 0 256) (size : length vs ≡ rows) where
  abbrev rows_here : List Row
  rows_here = spread_at p 1 (atom_records t) vs

  pub table_turn : up_to rows (column_of p n t) ≡ true → in_turn 0 rows (column_of p n t) ≡ (ascends row_before rows_here && not (pairs (meets l) rows_here))
  table_turn h =
      let q : up_to (length vs) (column p (atom_records t)) ≡ true = ap (up_to (length vs)) (sym (records_are p n t count)) ∙ ap (λ (k : ℕ). up_to k (column_of p n t)) size ∙ h in
      ap (in_turn 0 rows) (records_are p n t count) ∙ ap (λ (k : ℕ). in_turn 0 k (column p (atom_records t))) (sym size) ∙ in_turn_lem p (atom_records t) vs q
      ∙ ap (λ (b : Bool). ascends row_before rows_here && not b) (sym (alike rows_here))

-- no number is beyond the rows: said of the records
pub up_to_records : (p rows : ℕ) (records : List (List ℤ)) → up_to rows (column p records) ≡ all (λ a. leb (cell a p) rows) records
unfolding column
up_to_records p rows records = all_map (λ (c : ℕ). leb c rows) (λ (a : List ℤ). cell a p) records
