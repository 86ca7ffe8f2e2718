-- The letters that have a number in the table of elements, and the elements up to one: document 01, "Rows", ATOMLIST. Assumes nothing.
use Rattle.std.specs.Prelude.{ℕ, zero, suc, ◌+◌, ◌/◌, ◌%◌, true, false, [], ◌∷◌, leb}
use Rattle.format.specs.Bytes.{Bytes}

-- no letter, or a lower-case one: 1 is `a`
abbrev pub lower_at : ℕ → Bytes
lower_at zero = []
lower_at (suc n) = (97 + n) ∷ []

-- 27 numbers for each upper-case letter: alone, then with `a` to `z`
unfoldable pub spelling : ℕ → Bytes
spelling k = (65 + k / 27) ∷ lower_at (k % 27)

-- a place in a list of which only the first `last` count
abbrev pub up_to : (last place : ℕ) → ℕ
up_to last p = elim (leb p last) [ true ↦ p | false ↦ 0 ]
