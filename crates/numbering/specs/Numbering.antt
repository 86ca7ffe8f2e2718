-- Charge and radical rows renumbered at END: the number that a row has as it came, and the one it has in the sorted list. Document 01, "The structure table": "Charge
-- and radical rows ascend by lowest atom, the row without atoms last." Assumes nothing.
use Rattle.std.specs.Prelude.{ℕ, suc, ◌-◌, ◌≤◌, ◌<◌, ◌≡◌, Bool, true, false, ◌&&◌, not, List, [], ◌∷◌, map, length, get_or, set, eqb, ltb, leb}
use Rattle.lists.specs.Order.{sort}
use Rattle.format.specs.Rows.{Row}
use Rattle.format.specs.Structure.{row_before}
use Rattle.format.specs.Table.{row_with}
use Rattle.sorted.specs.Regions.{member_of, arrived, coded}

-- whether a row is one of those that `order` has room for and has no new number yet
unfoldable pub is_new : (row : ℕ) → (order : List ℕ) → Bool
is_new k order = not (eqb k 0) && (ltb k (length order) && eqb (get_or order k 0) 0)

abbrev pub next_after : (new : Bool) → (next : ℕ) → ℕ
next_after true next = suc next
next_after false next = next

abbrev pub order_after : (new : Bool) → (row next : ℕ) → (order : List ℕ) → List ℕ
order_after true k next order = set order k next
order_after false k next order = order

-- atom by atom, the row of an atom gets the next number where it has none
unfoldable pub numbered : (next : ℕ) → (members order : List ℕ) → List ℕ
numbered next [] order = order
numbered next (k ∷ ks) order = numbered (next_after (is_new k order) next) ks (order_after (is_new k order) k next order)

-- the row without atoms, where there is one, gets a number
unfoldable pub with_void : (void rows : ℕ) → (order : List ℕ) → List ℕ
with_void v n order = order_after (not (eqb v 0)) v n order

-- `order` has, for each number that a row has as it came, the row's number in the sorted list; 0 for 0
pub record Renumbered (rs : List Row) (order : List ℕ) : Type 0 where
  pub members : (n : ℕ) → get_or order (member_of n rs) 0 ≡ row_with 1 n (sort row_before rs)
  pub low : (i : ℕ) → i < length rs → 1 ≤ get_or order (suc i) 0
  pub high : (i : ℕ) → i < length rs → get_or order (suc i) 0 ≤ length rs
  pub values : (i : ℕ) → i < length rs → get_or (map (λ r. coded r.value) (sort row_before rs)) (get_or order (suc i) 0 - 1) 0 ≡ get_or (arrived rs) i 0
  pub onto : (j : ℕ) → j < length rs → (i : ℕ) × (i < length rs) × (get_or order (suc i) 0 ≡ suc j)

-- a value put to the place that a number from 1 says
unfoldable pub put_at : (place value : ℕ) → List ℕ → List ℕ
put_at p v t = order_after (not (eqb p 0) && leb p (length t)) (p - 1) v t

-- the values of the rows from row i on, each put to its row's place in the sorted list
unfoldable pub through : (order : List ℕ) → (i : ℕ) → (values region : List ℕ) → List ℕ
through order i [] t = t
through order i (v ∷ vs) t = through order (suc i) vs (put_at (get_or order (suc i) 0) v t)
