-- How the scratch's numbers stand in the regions of the structure table: document 01, "The structure table". Assumes nothing.
use Rattle.std.specs.Prelude.{ℕ, zero, suc, ◌+◌, ◌-◌, ◌*◌, ◌/◌, ◌%◌, ◌≡◌, List, [], ◌∷◌, ◌++◌, true, false, get_or, ℤ, pos, neg_ℤ, ltb}
use Rattle.std.proofs.lemmas.List.Edits.{sets}
use Rattle.lists.specs.Lists.{concat, filled, rows_from}

-- a number of the scratch as one of the table: itself, as each that the reader puts there is below 2^31
unfoldable pub signed_of : ℕ → ℤ
signed_of n = elim (ltb n 2147483648) [ true ↦ pos n | false ↦ pos 0 ]

-- numbers put into a region, one behind the other: shut, so that no goal writes them out
unfoldable pub placed : List ℤ → (at : ℕ) → List ℤ → List ℤ
placed t at vs = sets t at vs

-- the records of bonds, centres and pairs, from a row's key and payload
abbrev pub bond_out : List ℕ → List ℤ
bond_out t = signed_of (get_or t 0 0 / 1024) ∷ signed_of (get_or t 0 0 % 1024) ∷ signed_of (get_or t 1 0 / 256) ∷ []

abbrev pub centre_out : List ℕ → List ℤ
centre_out t = signed_of (get_or t 0 0 / 1024) ∷ signed_of (get_or t 1 0 / 256) ∷ signed_of (get_or t 1 0 % 256) ∷ []

abbrev pub pair_out : List ℕ → List ℤ
pair_out t = signed_of (get_or t 0 0 / 1024) ∷ signed_of (get_or t 0 0 % 1024) ∷ signed_of (get_or t 1 0 / 256) ∷ signed_of (get_or t 1 0 % 256) ∷ []

-- a region of the table: n rows of the scratch, w numbers a row, each as its record; the rest is 0
unfoldable pub copied : (w : ℕ) → (out : List ℕ → List ℤ) → (size n : ℕ) → List ℕ → List ℤ
copied w out size n t = filled (pos 0) size (concat (rows_from w out n t))

-- a charge or radical value from its code, -99 to 99 as 1 to 199
unfoldable pub value_of : ℕ → ℤ
value_of c = elim (ltb c 100) [ true ↦ neg_ℤ (pos (100 - c)) | false ↦ signed_of (c - 100) ]

abbrev pub value_out : List ℕ → List ℤ
value_out t = value_of (get_or t 0 0) ∷ []

-- the number of an atom's row in the sorted list, from its number as the rows came
abbrev pub number_in : (members order : List ℕ) → (i : ℕ) → ℕ
number_in members order i = get_or order (get_or members i 0) 0

-- an atom's record: element, mass, hydrogens, charge row, radical row; i counts from 0
abbrev pub atom_out : (kinds charges charge-order radicals radical-order : List ℕ) → (i : ℕ) → List ℤ
atom_out kinds cs co rs ro i =
    signed_of (get_or kinds (3 * i) 0) ∷ signed_of (get_or kinds (3 * i + 1) 0) ∷ signed_of (get_or kinds (3 * i + 2) 0) ∷ signed_of (number_in cs co i) ∷ signed_of (number_in rs ro i) ∷ []

-- the records of n indexes, one behind the other
unfoldable pub gathered : (ℕ → List ℤ) → ℕ → List ℤ
gathered out zero = []
gathered out (suc n) = gathered out n ++ out n

-- the atoms' region of the table
unfoldable pub atoms_out : (kinds charges charge-order radicals radical-order : List ℕ) → (n : ℕ) → List ℤ
atoms_out kinds cs co rs ro n = filled (pos 0) 1280 (gathered (atom_out kinds cs co rs ro) n)

-- what is left of a region that is to be whole: so it is where lengths and counts fit, and as it was where they do not
abbrev pub FilledWhere : (fits : Type 0) → (before after whole : List ℤ) → Type 0
FilledWhere fits before after whole = (fits → after ≡ whole) × ((fits → ⊥) → after ≡ before)
