-- What stands at a record's place: document 01, "The structure table" ("functions giving each record's place"). Assumes nothing.
use Rattle.std.specs.Prelude.{ℕ, suc, List, [], ◌∷◌, get_or, take, drop, ℤ}
use Rattle.format.specs.Structure.{Atom, Structure}
use Rattle.format.specs.Table.{atom_cells}

-- so many numbers of a table, from a place on
abbrev pub numbers_at : (place many : ℕ) → List ℤ → List ℤ
numbers_at p n t = take n (drop p t)

-- "element, mass (0 none), implied hydrogens, charge row, radical row (from 1; 0 none)" of the atom with index i, whose number is one more; `other` stands for it
-- where there is none
abbrev pub atom_numbers : Structure → (i : ℕ) → (other : Atom) → List ℤ
atom_numbers s i other = atom_cells (suc i) s.charges s.radicals (get_or s.atoms i other ∷ [])
