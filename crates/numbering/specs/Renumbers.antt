-- What a renumbering promises: document 01, "Charge and radical rows ascend by lowest atom, the row without atoms last". Assumes nothing.
use Rattle.std.specs.Prelude.{ℕ, ◌≤◌, ◌<◌, ◌≡◌, Bool, List, [], length, get_or, pos}
use Rattle.lists.specs.Lists.{filled}
use Rattle.lists.specs.Order.{sort}
use Rattle.format.specs.Rows.{Row, row}
use Rattle.format.specs.Structure.{row_before}
use Rattle.format.specs.Table.{row_with}
use Rattle.sorted.specs.Regions.{member_of, coded, spread_region, Fits}
use Rattle.spread.specs.Members.{list_of}

-- What a renumbering of charge or radical rows says: for each atom its row's number among the sorted rows, and the sorted rows' values as codes
pub record Renumbers (rs : List Row) (order values : List ℕ) : Type 0 where
  pub number : (n : ℕ) → 1 ≤ n → n ≤ 256 → get_or order (member_of n rs) 0 ≡ row_with 1 n (sort row_before rs)
  pub value : (i : ℕ) → i < length rs → get_or values i 0 ≡ coded (get_or (sort row_before rs) i (row [] (pos 0) 0)).value

-- what a renumbering promises of the rows that a region shows, each lent part of its length, `order` and `values` all zeros before it
abbrev pub Renumbering : (region : List ℕ) → (atoms rows : ℕ) → (order₀ values₀ order values : List ℕ) → Type 0
Renumbering region atoms n order₀ values₀ order values =
    length region ≡ 321 → atoms ≤ 256 → n ≤ 64 → length order₀ ≡ 65 → length values₀ ≡ 64
    → (s : Bool) (rs : List Row) → length rs ≡ n → Fits (list_of s) atoms rs → region ≡ spread_region rs → order₀ ≡ filled 0 65 [] → values₀ ≡ filled 0 64 [] → Renumbers rs order values
