-- How a position in code is shown as the definitions' one, and an atom's four numbers in the lent table: document 02, L2 ("per atom 1 if given, X, Y, Z; else four
-- 0"). Assumes nothing.
use Rattle.std.specs.Prelude.{ℕ, ◌+◌, ◌-◌, ◌*◌, Bool, true, false, ◌&&◌, List, ◌++◌, length, take, drop, get_or, pos, leb, Float}
use Rattle.std.specs.Float.{nan, fin}
use Rattle.std.specs.Float.Ieee.{eq}
use Rattle.format.specs.Bytes.{within}
use Rattle.std.specs.declared.option.Option.{Option}
use Rattle.std.specs.declared.option.Option.TheVariants.{None, Some}
use Rattle.format.specs.Coordinates.{Factor, XyzRow, Position, At, NotGiven, position_numbers}
use Rattle.factor.specs.ShownFactors.{scaled}
use Rattle.coordinates.specs.declared.Point.{Point}

abbrev pub shown_point : Point → Position
shown_point p = At p.x p.y p.z

abbrev pub shown_position : Option Point → Position
shown_position None = NotGiven
shown_position (Some p) = shown_point p

-- the position that a row's three whole numbers give
abbrev pub row_position : Factor → XyzRow → Position
row_position f r = At (scaled f r.x) (scaled f r.y) (scaled f r.z)

-- 256 atoms, numbered from 1, four numbers an atom
unfoldable pub has_place : (length atom : ℕ) → Bool
has_place l n = within 1 256 n && leb (4 * n) l

-- a table with one atom's numbers written; one without a place for them stays
unfoldable pub placed : List Float → (atom : ℕ) → Position → List Float
placed t n p = elim (has_place (length t) n) [ true ↦ take (4 * (n - 1)) t ++ (position_numbers p ++ drop (4 * n) t) | false ↦ t ]

-- "per atom 1 if given": read back
abbrev pub four_at : List Float → ℕ → Position
four_at t at = elim (eq (get_or t at nan) (fin false 1 (pos 0))) [ true ↦ At (get_or t (at + 1) nan) (get_or t (at + 2) nan) (get_or t (at + 3) nan) | false ↦ NotGiven ]

unfoldable pub position_at : List Float → (atom : ℕ) → Position
position_at t n = elim (has_place (length t) n) [ true ↦ four_at t (4 * (n - 1)) | false ↦ NotGiven ]

-- a table with other numbers in its first 1,024 places; a shorter one stays
unfoldable pub fronted : (front table : List Float) → List Float
fronted s t = elim (leb 1024 (length t)) [ true ↦ s ++ drop 1024 t | false ↦ t ]
