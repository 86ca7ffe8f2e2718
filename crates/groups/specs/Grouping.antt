-- What the labels of a table's atoms say: document 02, L1, "each group of atoms joined by S, D, T or Q bonds, `A` not counting". Assumes nothing.
use Rattle.std.specs.Prelude.{ℕ, suc, ◌≤◌, ◌≡◌, true, List, map, length, take, drop, ℤ, ltb}
use Rattle.lists.specs.Lists.{all}
use Rattle.format.specs.Bytes.{within}
use Rattle.format.specs.Labels.{Bonds}
use Rattle.format.specs.Rows.{Row}
use Rattle.format.specs.Structure.{row_ok, joined_by, lowest}
use Rattle.format.specs.Table.{decode}
use Rattle.groups.specs.Pointers.{Leads, Changed}

-- a bond, and every bond, names atoms of n
abbrev pub Named : (n : ℕ) → Row → Type 0
Named n r = all (within 1 n) r.atoms ≡ true

abbrev pub AllNamed : (n : ℕ) → List Row → Type 0
AllNamed n rs = all (λ (r : Row). all (within 1 n) r.atoms) rs ≡ true

-- one bond more, and so many from none: the pointers lead to the lowest atoms that the definition gives, where the bonds name atoms
abbrev pub JoinsBond : (ps : List ℕ) (r : Row) (qs : List ℕ) → Type 0
JoinsBond ps r qs = Changed ps qs × ((ls : List ℕ) → Leads ls ps → Named (length ps) r → Leads (joined_by r ls) qs)

abbrev pub JoinsAll : (ps : List ℕ) (rs : List Row) (qs : List ℕ) → Type 0
JoinsAll ps rs qs = Changed ps qs × (AllNamed (length ps) rs → Leads (lowest (length ps) rs) qs)

-- every bond is one that a sound table of n atoms has
abbrev pub AllFine : (n : ℕ) → List Row → Type 0
AllFine n rs = all (row_ok Bonds n) rs ≡ true

-- n labels, each the index of the lowest atom of its atom's group
abbrev pub LowestAtoms : (n : ℕ) (rs : List Row) (labels : List ℕ) → Type 0
LowestAtoms n rs labels = (length labels ≡ n) × (all (λ l. ltb l n) labels ≡ true) × (AllFine n rs → map suc labels ≡ lowest n rs)

-- labels of r atoms of a table in front of what was lent: for each atom one that names an atom, and the index of its group's lowest where the bonds are those of a sound
-- table
pub record GroupsOf (t : List ℤ) (lent : List ℕ) (r : ℕ) (labels : List ℕ) : Type 0 where
  pub few : r ≤ 256
  pub long : length labels ≡ length lent
  pub rest : drop r labels ≡ drop r lent
  pub atoms : r ≡ length (decode t).atoms
  pub named : all (λ l. ltb l r) (take r labels) ≡ true
  pub lows : AllFine (length (decode t).atoms) (decode t).bonds → map suc (take r labels) ≡ lowest (length (decode t).atoms) (decode t).bonds
