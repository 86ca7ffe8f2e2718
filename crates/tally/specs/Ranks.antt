-- The elements in the formula's order, and the number that an element with its mass has: document 01, "The one written form": "C, H, then by symbol, a shorter
-- symbol before its extension; no mass before ascending masses". Assumes nothing.
use Rattle.std.specs.Prelude.{ℕ, zero, suc, ◌+◌, ◌*◌, Bool, true, false, ◌&&◌, Option, Some, None, List, [], ◌∷◌, get_or, eqb, leb}
use Rattle.lists.specs.Order.{lex_before, sort}
use Rattle.format.specs.Bytes.{within}
use Rattle.format.specs.Structure.{Isotope}
use Rattle.format.specs.Writing.{rank}

abbrev pub element_before : (e f : ℕ) → Bool
element_before e f = lex_before (rank e) (rank f)

-- n down to 1
unfoldable pub down : ℕ → List ℕ
down zero = []
down (suc n) = suc n ∷ down n

-- the elements in the formula's order
unfoldable pub in_order : List ℕ
in_order = sort element_before (down 103)

-- the place of a number among numbers, counted from n; 0 where it is not there
unfoldable pub place_from : (n number : ℕ) → List ℕ → ℕ
place_from n x [] = 0
place_from n x (y ∷ ys) = elim (eqb x y) [ true ↦ n | false ↦ place_from (suc n) x ys ]

-- An element's rank, 1 (C) to 103 (Zr), 0 for no element; and the element that has a rank, 0 for no rank
unfoldable pub rank_of : (element : ℕ) → ℕ
rank_of e = place_from 1 e in_order

unfoldable pub element_of : (rank : ℕ) → ℕ
element_of r = get_or (0 ∷ in_order) r 0

-- an element and a mass as one number, which orders them as the formula does
unfoldable pub key_of : Isotope → ℕ
key_of i = 512 * rank_of i.element + i.mass

-- an element and a mass that an atom of a sound table can have
unfoldable pub fine : Isotope → Bool
fine i = within 1 103 i.element && leb i.mass 300

-- the key of an element and a mass, none where no atom can have them
unfoldable pub key_if : Isotope → Option ℕ
key_if i = elim (fine i) [ true ↦ Some (key_of i) | false ↦ None ]
