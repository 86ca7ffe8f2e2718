-- The reader's scratch, 2,973 natural numbers in eight regions, and the part of a state that each shows. Assumes nothing.
use Rattle.std.specs.Prelude.{ℕ, zero, suc, ◌+◌, ◌-◌, ◌*◌, max, ◌≡◌, Bool, true, false, List, [], ◌∷◌, ◌++◌, length, get_or, ℤ, pos, negsuc, nat_abs, eqb}
use Rattle.lists.specs.Lists.{is_nil, all, any, pairs, flat, filled}
use Rattle.lists.specs.Order.{sort}
use Rattle.format.specs.Bytes.{is_in}
use Rattle.format.specs.Labels.{ListOf, Label}
use Rattle.format.specs.Rows.{Row}
use Rattle.format.specs.Structure.{Atom, most, meets, row_before, row_ok}

-- 0 to 767, the atoms: element, mass, implied hydrogens
abbrev pub kind_cells : Atom → List ℕ
kind_cells a = a.kind.element ∷ a.kind.mass ∷ a.hydrogens ∷ []

unfoldable pub kinds_region : List Atom → List ℕ
kinds_region listed = filled 0 768 (flat kind_cells listed)

-- Charge rows and radical rows, 321 numbers each: for each of 256 atoms the number of its row (0 none), 64 values, and the number of the row without atoms (0
-- none). Rows are numbered from 1 as they came, so that in a list with the latest first a row's number is the count of rows up to it.
unfoldable pub member_of : (n : ℕ) → List Row → ℕ
member_of n [] = 0
member_of n (r ∷ rs) = elim (is_in n r.atoms) [ true ↦ suc (length rs) | false ↦ member_of n rs ]

-- the rows' numbers of k atoms from atom n on
unfoldable pub members_from : (k n : ℕ) → List Row → List ℕ
members_from zero n rs = []
members_from (suc k) n rs = member_of n rs ∷ members_from k (suc n) rs

-- a value as a natural number: -99 to 99 as 1 to 199
abbrev pub coded : ℤ → ℕ
coded (pos n) = 100 + n
coded (negsuc n) = 99 - n

unfoldable pub arrived : List Row → List ℕ
arrived [] = []
arrived (r ∷ rs) = arrived rs ++ (coded r.value ∷ [])

unfoldable pub void_of : List Row → ℕ
void_of [] = 0
void_of (r ∷ rs) = elim (is_nil r.atoms) [ true ↦ suc (length rs) | false ↦ void_of rs ]

unfoldable pub spread_region : List Row → List ℕ
spread_region rs = members_from 256 1 rs ++ (filled 0 64 (arrived rs) ++ (void_of rs ∷ []))

-- Bonds, centres and pairs, sorted, two numbers a row: the atoms as one key, the value and the group as one number
abbrev pub key_from : List ℕ → ℕ
key_from ns = 1024 * get_or ns 0 0 + get_or ns 1 0

abbrev pub key_of : Row → ℕ
key_of r = key_from r.atoms

abbrev pub payload_of : Row → ℕ
payload_of r = 256 * nat_abs r.value + r.group

abbrev pub keyed_cells : Row → List ℕ
keyed_cells r = key_of r ∷ payload_of r ∷ []

unfoldable pub keyed_region : ListOf → List Row → List ℕ
keyed_region l rs = filled 0 (2 * most l) (flat keyed_cells (sort row_before rs))

-- the labels that were seen, by code: 1 seen, 0 not; k of them from code c on
abbrev pub mark : Bool → ℕ
mark true = 1
mark false = 0

abbrev pub saw_code : (c : ℕ) → List Label → Bool
saw_code c seen = any (λ y. eqb y.code c) seen

unfoldable pub seen_from : (k c : ℕ) → List Label → List ℕ
seen_from zero c seen = []
seen_from (suc k) c seen = mark (saw_code c seen) ∷ seen_from k (suc c) seen

-- the highest beginning of an interval among the seen labels; 0 where none was seen
unfoldable pub top_of : List Label → ℕ
top_of [] = 0
top_of (y ∷ ys) = max y.low (top_of ys)

-- What the rows of a list keep as they come, n atoms listed: each is one of the list's, no two meet, and the list is not over its limit
pub record Fits (l : ListOf) (n : ℕ) (rs : List Row) : Type 0 where
  pub each : all (row_ok l n) rs ≡ true
  pub apart : pairs (meets l) rs ≡ false
