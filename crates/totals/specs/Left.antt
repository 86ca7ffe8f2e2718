-- What is left of the atoms while the formula's entries are taken from them: document 01, "At END, for every element and mass, the formula's total over all
-- fragments equals the atoms listed, with implied hydrogens counted as hydrogen without mass." Assumes nothing.
use Rattle.std.specs.Prelude.{ℕ, zero, suc, ◌+◌, ◌<◌, ◌≡◌, Bool, true, false, List, [], ◌∷◌, length, get_or, take, eqb}
use Rattle.std.specs.declared.option.Option.{Option}
use Rattle.std.specs.declared.option.Option.TheVariants.{None, Some}
use Rattle.lists.specs.Lists.{all}
use Rattle.format.specs.Formula.{Counted as Told}
use Rattle.format.specs.Structure.{Isotope, isotope_of, Atom, atom_ok, Entry, entry, entries_of, same_isotope, total}
use Rattle.sorted.specs.Regions.{kinds_region}
use Rattle.totals.specs.declared.left.Left.{Left}
use Rattle.gather.specs.Progress.{entries_from, entry_fine}

-- Atoms that have a mass, each in one cell of two lists: how many are of an isotope. A mass of 0 is no atom.
unfoldable pub heavy_of : Isotope → (elements masses : List ℕ) → ℕ
heavy_of i [] ms = 0
heavy_of i (e ∷ es) [] = 0
heavy_of i (e ∷ es) (m ∷ ms) = elim (same_isotope i (isotope_of e m)) [ true ↦ suc (heavy_of i es ms) | false ↦ heavy_of i es ms ]

-- how many of an isotope are left: those without mass are counted by element
abbrev pub by_mass : (mass light heavy : ℕ) → ℕ
by_mass zero light heavy = light
by_mass (suc m) light heavy = heavy

unfoldable pub left_of : (counts elements masses : List ℕ) → Isotope → ℕ
left_of counts elements masses i = by_mass i.mass (get_or counts i.element 0) (heavy_of i elements masses)

abbrev pub left_in : Left → Isotope → ℕ
left_in l = left_of l.counts l.elements l.masses

-- what one cell holds for an isotope
abbrev pub cell_of : Isotope → (e m : ℕ) → ℕ
cell_of i e m = total i (entry (isotope_of e m) 1 ∷ [])

abbrev pub is_zero : ℕ → Bool
is_zero n = eqb n 0

abbrev pub Blank : List ℕ → Type 0
Blank cells = (n : ℕ) → get_or cells n 0 ≡ 0

-- so many of an isotope come to what is left
abbrev pub Adds : (left next : Isotope → ℕ) → Entry → Type 0
Adds left next e = (i : Isotope) → next i ≡ left i + total i (e ∷ [])

-- so many of an isotope are taken from what is left, or there are too few
abbrev pub Takes : (left next : Isotope → ℕ) → Entry → Bool → Type 0
Takes left next e true = (i : Isotope) → next i + total i (e ∷ []) ≡ left i
Takes left next e false = left e.kind < e.count

pub record Took (left next : Isotope → ℕ) (e : Entry) (r : Bool) : Type 0 where
  pub is : Takes left next e r

-- what is left is what some entries count, isotope by isotope
abbrev pub Counts : (left : Isotope → ℕ) → List Entry → Type 0
Counts left es = (i : Isotope) → left i ≡ total i es

-- the first n of the atoms that a region shows are tallied
abbrev pub Tallied : (region : List ℕ) → (atoms n : ℕ) → (left : Isotope → ℕ) → Type 0
Tallied region atoms n left = (listed : List Atom) → length listed ≡ atoms → region ≡ kinds_region listed → all (atom_ok 103) listed ≡ true → Counts left (entries_of (take n listed))

abbrev pub Says : Bool → Type 0 → Type 0
Says true P = P
Says false P = P → ⊥

-- whether what is left is what a value's entries count, k elements known: not so where the value has no shape
abbrev pub Answers : (k : ℕ) → (left : Isotope → ℕ) → Option (List Told) → Bool → Type 0
Answers k left None r = r ≡ false
Answers k left (Some cs) r = all (entry_fine k) (entries_from k (Some cs)) ≡ true → Says r (Counts left (entries_from k (Some cs)))

pub record Answered (k : ℕ) (left : Isotope → ℕ) (o : Option (List Told)) (r : Bool) : Type 0 where
  pub is : Answers k left o r
