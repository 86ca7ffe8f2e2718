-- Atoms that point to atoms of their group, by index, none to a higher one: how pointers show for each atom the lowest of its group. Document 02, L1. Assumes nothing.
use Rattle.std.specs.Prelude.{ℕ, suc, ◌≤◌, ◌<◌, ◌≡◌, List, length, get_or}
use Rattle.format.specs.Structure.{united}

-- no atom points to a higher one
abbrev pub Pointing : List ℕ → Type 0
Pointing ps = (i : ℕ) → i < length ps → get_or ps i 0 ≤ i

-- the pointers lead to these lowest atoms: along a pointer the lowest atom stays the same, and an atom that points to itself is the lowest of its group
pub record Leads (ls ps : List ℕ) : Type 0 where
  pub long : length ls ≡ length ps
  pub same : (i : ℕ) → i < length ps → get_or ls (get_or ps i 0) 0 ≡ get_or ls i 0
  pub own : (i : ℕ) → i < length ps → get_or ps i 0 ≡ i → get_or ls i 0 ≡ suc i

-- pointers changed, and none to a higher atom
abbrev pub Changed : (ps qs : List ℕ) → Type 0
Changed ps qs = (length qs ≡ length ps) × Pointing qs

-- an atom's lowest one found: the pointers lead to the same lowest atoms as before
abbrev pub Found : (ps : List ℕ) (atom : ℕ) (qs : List ℕ) (r : ℕ) → Type 0
Found ps atom qs r = Changed ps qs × (r < length ps) × ((ls : List ℕ) → Leads ls ps → Leads ls qs × (suc r ≡ get_or ls atom 0) × (get_or ls r 0 ≡ suc r))

-- the groups of two atoms united
abbrev pub Joins : (ps : List ℕ) (first second : ℕ) (qs : List ℕ) → Type 0
Joins ps first second qs = Changed ps qs × ((ls : List ℕ) → Leads ls ps → Leads (united (get_or ls first 0) (get_or ls second 0) ls) qs)
