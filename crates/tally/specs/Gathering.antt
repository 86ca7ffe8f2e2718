-- The formula's entries gathered by key: document 01, "The one written form". What a tally shows of entries met so far, and what it holds in the end. Assumes
-- nothing.
use Rattle.std.specs.Prelude.{ℕ, suc, ◌+◌, ◌-◌, ◌*◌, ◌/◌, ◌%◌, ◌≤◌, ◌<◌, ◌≡◌, Bool, true, false, List, [], ◌∷◌, ◌++◌, map, length, get_or, take, drop, ℤ, eqb, ltb}
use Rattle.lists.specs.Lists.{all, any, flat, rows_from}
use Rattle.lists.specs.Order.{sort, ascends}
use Rattle.format.specs.Formula.{Counted, counted}
use Rattle.format.specs.Structure.{Isotope, isotope_of, Atom, entries_of, total, kinds, groups_by, atom_ok}
use Rattle.format.specs.Table.{cell, atom_at, decode}
use Rattle.format.specs.Writing.{spelt, formula_before}
use Rattle.tally.specs.Ranks.{element_of, key_of}
use Rattle.tally.specs.declared.entries.Entry.{Entry}

-- THE FORMULA'S ENTRIES: the kinds in the formula's order
unfoldable pub in_formula : List Atom → List Isotope
in_formula atoms = sort formula_before (kinds (entries_of atoms))

-- a kind's key in the group with this number: groups ascend by their numbers, and within a group the formula's order goes on
abbrev pub in_group : (group key : ℕ) → ℕ
in_group l k = 65536 * l + k

-- the keys and the counts of groups one after another, the first with this number
unfoldable pub group_keys : (first : ℕ) → List (List Atom) → List ℕ
group_keys j [] = []
group_keys j (g ∷ gs) = map (λ i. in_group j (key_of i)) (in_formula g) ++ group_keys (suc j) gs

unfoldable pub group_counts : List (List Atom) → List ℕ
group_counts gs = flat (λ g. map (λ i. total i (entries_of g)) (in_formula g)) gs

-- the keys and the counts of entries
abbrev pub keys_in : List Entry → List ℕ
keys_in es = map (λ e. e.key) es

abbrev pub counts_in : List Entry → List ℕ
counts_in es = map (λ e. e.count) es

-- what entries hold of them
pub record Gathered (gs : List (List Atom)) (entries : List Entry) : Type 0 where
  pub sorted : keys_in entries ≡ group_keys 0 gs
  pub totals : counts_in entries ≡ group_counts gs

-- labels that name, for each of n atoms, an atom by its index
pub record Labels (n : ℕ) (labels : List ℕ) : Type 0 where
  pub enough : n ≤ length labels
  pub named : all (λ l. ltb l n) (take n labels) ≡ true

-- the groups of a table's atoms by such labels
abbrev pub groups_in : List ℤ → (labels : List ℕ) → List (List Atom)
groups_in t labels = groups_by (map suc (take (length (decode t).atoms) labels)) (decode t).atoms

-- of every table whose atoms are as a sound table has them
abbrev pub Gathers : (table : List ℤ) (labels : List ℕ) (entries : List Entry) → Type 0
Gathers t labels entries = all (atom_ok 103) (decode t).atoms ≡ true → Labels (length (decode t).atoms) labels → Gathered (groups_in t labels) entries

-- the same of the part of a table that has the atoms, a label for each
abbrev pub atoms_in : List ℤ → (n : ℕ) → List Atom
atoms_in a n = map atom_at (rows_from 5 (take 5) n a)

abbrev pub GathersAtoms : (atoms : List ℤ) (labels : List ℕ) (entries : List Entry) → Type 0
GathersAtoms a labels entries =
    all (atom_ok 103) (atoms_in a (length labels)) ≡ true → all (λ l. ltb l (length labels)) labels ≡ true → Gathered (groups_by (map suc labels) (atoms_in a (length labels))) entries

-- the entry that a key and its count stand for
unfoldable pub entry_of : (key count : ℕ) → Counted
entry_of k n = counted (spelt (isotope_of (element_of (k / 512)) (k % 512))) n

-- ENTRIES BY KEY: whether an entry has a key, and how many the entries with a key count together
abbrev pub tallied : (key count : ℕ) → Entry
tallied k n = record { key = k; count = n }

abbrev pub keyed : ℕ → Entry → Bool
keyed k e = eqb k e.key

unfoldable pub sum_of : ℕ → List Entry → ℕ
sum_of k [] = 0
sum_of k (e ∷ es) = elim (keyed k e) [ true ↦ e.count + sum_of k es | false ↦ sum_of k es ]

-- some keys and counts show entries: the keys ascend, they are those of the entries, and each has its sum
pub record Shows (es : List Entry) (ks cs : List ℕ) : Type 0 where
  pub up : ascends ltb ks ≡ true
  pub there : (k : ℕ) → any (eqb k) ks ≡ any (keyed k) es
  pub sums : cs ≡ map (λ k. sum_of k es) ks

-- a tally shows the entries that were put to it
abbrev pub TallyShows : (es tally : List Entry) → Type 0
TallyShows es t = Shows es (keys_in t) (counts_in t)

-- THE PLACE OF A KEY in a tally: the keys before it are lower, those from it on are not
abbrev pub KeysAscend : (tally : List Entry) → Type 0
KeysAscend t = (i j : ℕ) → i < j → j < length t → get_or (keys_in t) i 0 < get_or (keys_in t) j 0

pub record PlaceOf (key : ℕ) (tally : List Entry) (place : ℕ) : Type 0 where
  pub lower : (i : ℕ) → i < place → get_or (keys_in tally) i 0 < key
  pub others : (i : ℕ) → place ≤ i → i < length tally → key ≤ get_or (keys_in tally) i 0

-- one entry more
abbrev pub AddShows : (place key more : ℕ) (tally later : List Entry) → Type 0
AddShows place key more t t' = (es : List Entry) (e : Entry) → e.key ≡ key → e.count ≡ more → PlaceOf key t place → TallyShows es t → TallyShows (e ∷ es) t'

-- THE ATOMS of a table one by one: the first has index 0
unfoldable pub atom_no : List ℤ → ℕ → Atom
atom_no t i = record { kind = isotope_of (cell t (16 + 5 * i)) (cell t (16 + 5 * i + 1)); hydrogens = cell t (16 + 5 * i + 2) }

-- and those of its part that has them, which begins with the first
unfoldable pub atom_in : List ℤ → ℕ → Atom
atom_in a i = record { kind = isotope_of (cell a (5 * i)) (cell a (5 * i + 1)); hydrogens = cell a (5 * i + 2) }

-- A GROUP CLOSED: its implied hydrogens, if it has any, are one entry more, "counted as hydrogen without mass", whose key is 1024
unfoldable pub closed : (group hydrogens : ℕ) → List Entry → List Entry
closed l h es = elim (eqb h 0) [ true ↦ es | false ↦ tallied (in_group l 1024) h ∷ es ]

abbrev pub CloseShows : (group hydrogens : ℕ) (tally later : List Entry) → Type 0
CloseShows l h t t' = (es : List Entry) → TallyShows es t → TallyShows (closed l h es) t'

-- a gap at a place: what stands from there up to `count` has moved up by one
unfoldable pub opened : {A : Type 0} → List A → (place count : ℕ) → List A
opened xs place count = take (place + 1) xs ++ (take (count - place) (drop place xs) ++ drop (count + 1) xs)
