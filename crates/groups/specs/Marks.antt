-- Atoms that are marked where a bond joins them to a lower one: how marks show that there is one group. Document 02, L1. Assumes nothing.
use Rattle.std.specs.Prelude.{ℕ, zero, suc, ◌+◌, ◌-◌, ◌≡◌, Bool, true, false, ◌&&◌, List, [], ◌∷◌, length, get_or, set, drop, ℤ, pos, nat_abs, ltb}
use Rattle.lists.specs.Lists.{share}
use Rattle.format.specs.Rows.{Row}
use Rattle.format.specs.Structure.{ranging}
use Rattle.groups.specs.Grouping.{LowestAtoms}

-- one bond, by its second number and its kind: the second atom, which is the higher, is marked if the bond joins; the first atom never is
abbrev pub marked_by : (second kind : ℤ) → List ℕ → List ℕ
marked_by s k ms = elim (ranging 1 4 k && ranging 2 (length ms) s) [ true ↦ set ms (nat_abs s - 1) 1 | false ↦ ms ]

-- so many bonds, three numbers each
unfoldable pub marked : (bonds : ℕ) → List ℤ → List ℕ → List ℕ
marked zero rows ms = ms
marked (suc n) rows ms = marked_by (get_or rows 1 (pos 0)) (get_or rows 2 (pos 0)) (marked n (drop 3 rows) ms)

-- how many are marked
unfoldable pub ones : List ℕ → ℕ
ones [] = 0
ones (m ∷ ms) = share (ltb 0 m) 1 + ones ms

-- told that n atoms are of one group by these bonds: the labels are those of the lowest atoms
abbrev pub OneGroup : (n : ℕ) (rs : List Row) (told : Bool) (labels : List ℕ) → Type 0
OneGroup n rs told labels = told ≡ true → LowestAtoms n rs labels
