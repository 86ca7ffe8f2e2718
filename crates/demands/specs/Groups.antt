-- What a group of L1 is, document 02, said of the bonds alone: "each group of atoms joined by S, D, T or Q bonds, `A` not counting". Nobody has to believe how the
-- lowest atoms are found: they are the same exactly where a path joins. Assumes nothing.
use Rattle.std.specs.Prelude.{ℕ, ◌≤◌, ◌≡◌, Bool, true, false, ◌&&◌, ◌||◌, List, [], ◌∷◌, length, nat_abs, eqb}
use Rattle.lists.specs.Lists.{any, flat, count_up}
use Rattle.format.specs.Bytes.{within, same}
use Rattle.format.specs.Rows.{Row}
use Rattle.format.specs.Formula.{Counted}
use Rattle.format.specs.Structure.{Atom, Structure, lowest, lowest_of, group_of}
use Rattle.format.specs.Writing.{Fragment}

-- a bond of kind S, D, T or Q, which are 1 to 4; such a bond that names the two; one of the bonds
abbrev pub joining : Row → Bool
joining r = within 1 4 (nat_abs r.value)

abbrev pub joins_both : (a b : ℕ) → Row → Bool
joins_both a b r = joining r && (same r.atoms (a ∷ b ∷ []) || same r.atoms (b ∷ a ∷ []))

abbrev pub bonded : List Row → (a b : ℕ) → Bool
bonded bonds a b = any (joins_both a b) bonds

-- a path of such bonds leads from one to the other
pub data Joined (bonds : List Row) : (a b : ℕ) → Type 0 where
  here : (a : ℕ) → Joined bonds a a
  along : (a b c : ℕ) → bonded bonds a b ≡ true → Joined bonds b c → Joined bonds a c

abbrev pub lowest_in : Structure → (atom : ℕ) → ℕ
lowest_in s a = lowest_of (lowest (length s.atoms) s.bonds) a

-- an atom of the structure
abbrev pub AtomOf : Structure → ℕ → Type 0
AtomOf s a = within 1 (length s.atoms) a ≡ true

-- an atom's lowest one is of its group, and none of the group is lower
pub record IsLowest (s : Structure) (a : ℕ) : Type 0 where
  pub of_group : Joined s.bonds a (lowest_in s a)
  pub none_lower : (b : ℕ) → Joined s.bonds a b → lowest_in s a ≤ b

-- ONE FRAGMENT FOR EACH GROUP: the atoms that are the lowest of theirs, ascending; the atoms of such a group; a fragment's entries
abbrev pub lowest_atoms : Structure → List ℕ
lowest_atoms s = flat (λ i. elim (eqb (lowest_in s i) i) [ true ↦ i ∷ [] | false ↦ [] ]) (count_up 1 (length s.atoms))

abbrev pub group_in : Structure → (low : ℕ) → List Atom
group_in s i = group_of i (lowest (length s.atoms) s.bonds) s.atoms

abbrev pub entries_in : Fragment → List Counted
entries_in f = f.head ∷ f.tail
