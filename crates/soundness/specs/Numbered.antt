-- Charge and radical rows by the row numbers that the atoms' records hold: document 01, "The structure table" ("charge row, radical row (from 1; 0 none)"; "Charge
-- and radical rows ascend by lowest atom, the row without atoms last."). Assumes nothing.
use Rattle.std.specs.Prelude.{ℕ, suc, max, Bool, true, false, ◌&&◌, ◌||◌, List, [], ◌∷◌, map, take, drop, ℤ, eqb, leb}
use Rattle.lists.specs.Lists.{all, rows_from}
use Rattle.format.specs.Rows.{Row, row}
use Rattle.format.specs.Table.{cell}

-- the cells at place p of some records
unfoldable pub column : (p : ℕ) → List (List ℤ) → List ℕ
column p records = map (λ (a : List ℤ). cell a p) records

-- the same of a table's first n atoms
unfoldable pub column_of : (p n : ℕ) → List ℤ → List ℕ
column_of p n t = column p (rows_from 5 (take 5) n (drop 16 t))

-- the atoms, counted from n, whose cell is j
unfoldable pub members : (j n : ℕ) → List ℕ → List ℕ
members j n [] = []
members j n (c ∷ cs) = elim (eqb c j) [ true ↦ n ∷ members j (suc n) cs | false ↦ members j (suc n) cs ]

-- the rows with the numbers from j on, one for each value
unfoldable pub rows_by : (j n : ℕ) → (cells : List ℕ) → List ℤ → List Row
rows_by j n cs [] = []
rows_by j n cs (v ∷ vs) = row (members j n cs) v 0 ∷ rows_by (suc j) n cs vs

-- Atom by atom, each row's number is one of the `met` or the next one; at the end "one row at most has no atoms", and it stands last.
unfoldable pub in_turn : (met rows : ℕ) → List ℕ → Bool
in_turn met rows [] = eqb rows met || eqb rows (suc met)
in_turn met rows (c ∷ cs) = leb c (suc met) && in_turn (max met c) rows cs

-- no number is beyond the rows
abbrev pub up_to : (rows : ℕ) → List ℕ → Bool
up_to rows cs = all (λ c. leb c rows) cs
