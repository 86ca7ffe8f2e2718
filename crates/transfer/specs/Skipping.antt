-- The bytes that no line starts at which matters, so that the walk need not look at their lines: document 01, "A label line starts with `##` in its first column",
-- and of the label lines the walk heeds TITLE and END alone. Assumes nothing.
use Rattle.std.specs.Prelude.{ℕ, suc, ◌-◌, Bool, true, false, ◌&&◌, ◌||◌, not, [], ◌∷◌, get_or, drop, eqb}
use Rattle.format.specs.Bytes.{Bytes, is_in, hash}
use Rattle.format.specs.Rows.{upper, lower}

-- a letter that neither TITLE nor END starts with, in either case
unfoldable pub foreign : ℕ → Bool
foreign b = (upper b || lower b) && not (is_in b (84 ∷ 116 ∷ 69 ∷ 101 ∷ []))

-- a byte that is none: of the label lines the walk heeds TITLE and END alone
unfoldable pub turning : ℕ → Bool
turning b = not (foreign b)

-- where every label line counts
abbrev pub any_byte : ℕ → Bool
any_byte b = true

-- whether a line that has these bytes in front is looked at: it starts with `#`, and its label's first byte is of a kind
unfoldable pub starts : (kind : ℕ → Bool) → Bytes → Bool
starts kind [] = false
starts kind (b ∷ s) = hash b && kind (get_or s 1 0)

-- how many bytes stand before the first line that is looked at; `fresh`: whether a line starts at the first byte
unfoldable pub skipped : (kind : ℕ → Bool) → (fresh : Bool) → Bytes → ℕ
skipped kind fresh [] = 0
skipped kind fresh (b ∷ s) = elim (starts kind (b ∷ s) && fresh) [ true ↦ 0 | false ↦ suc (skipped kind (eqb b 10) s) ]

-- whether a line starts at i, where one starts at `at` and i is not before it
unfoldable pub fresh_at : Bytes → (at i : ℕ) → Bool
fresh_at s at i = eqb i at || eqb (get_or s (i - 1) 0) 10

-- whether a line that is looked at starts there
unfoldable pub starts_at : (kind : ℕ → Bool) → Bytes → (at i : ℕ) → Bool
starts_at kind s at i = starts kind (drop i s) && fresh_at s at i
