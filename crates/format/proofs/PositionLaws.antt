-- The table of positions has 1,024 numbers, the four of atom n from place 4 (n - 1) on; and an atom's position: not given where no row names the atom, else that of the
-- row that does, from whichever end the rows are looked at, where they ascend. Document 02, L2. Assumes nothing.
use Prim.Native.Nat.{ℕ, zero, suc, ◌+◌, ◌-◌, ◌*◌, ◌≤◌, ◌<◌}
use mathlib.Core.Path.{◌≡◌, refl, sym, ap, ◌∙◌}
use mathlib.Core.Bool.{Bool, true, false, ◌||◌}
use mathlib.Core.List.{List, [], ◌∷◌, ◌++◌, reverse, reverse_aux}
use native.Mathlib.Omega.{arith}
use lib.ListN.{length, get_or, take, drop, length-append}
use lib.Seq.{take_at, drop-append-add}
use lib.IntN.{pos}
use lib.Dec.{eqb, leb}
use lib.Ieee.{Float, fin}
use borrow.Author.Tests.{eqb-true, eq-eqb, ne_eqb, le-leb}
use Rattle.lists.specs.Lists.{any, pairs, flat, count_up}
use Rattle.lists.proofs.Bools.{torn, or_parts}
use Rattle.lists.proofs.ListLaws.{any_nil, any_cons}
use Rattle.lists.proofs.IndexLaws.{any_index}
use Rattle.lists.proofs.PartLaws.{flat_behind}
use Rattle.format.specs.Coordinates.{XyzRow, Factor, Geometry, coordinate, Position, At, NotGiven, position_in, nought, position_numbers, position_table}

-- THE TABLE
four_wide : (x : Position) → length (position_numbers x) ≡ 4
four_wide (At x y z) = refl
four_wide NotGiven = refl

module _ (f : ℕ → Position) where
  abbrev cells : ℕ → List Float
  cells n = position_numbers (f n)

  cells_length : (a m : ℕ) → length (flat cells (count_up a m)) ≡ 4 * m
  unfolding flat count_up
  cells_length a zero = refl
  cells_length a (suc m) = omega (arith, length-append (cells a) (flat cells (count_up (suc a) m)), four_wide (f a), cells_length (suc a) m)

  cells_at : (a m i : ℕ) (z : List Float) → i < m → take 4 (drop (4 * i) (flat cells (count_up a m) ++ z)) ≡ cells (a + i)
  unfolding count_up
  cells_at a zero i z h = absurd (omega arith)
  cells_at a (suc m) zero z h =
      let q : a ≡ a + 0 = omega arith in
      ap (take 4) (flat_behind cells a (count_up (suc a) m) z) ∙ take_at (cells a) (flat cells (count_up (suc a) m) ++ z) 4 (four_wide (f a)) ∙ ap cells q
  cells_at a (suc m) (suc i) z h =
      let q : 4 * suc i ≡ length (cells a) + 4 * i = omega (arith, four_wide (f a)) in
      let r : suc a + i ≡ a + suc i = omega arith in
      ap (λ (l : List Float). take 4 (drop (4 * suc i) l)) (flat_behind cells a (count_up (suc a) m) z)
      ∙ ap (λ (n : ℕ). take 4 (drop n (cells a ++ (flat cells (count_up (suc a) m) ++ z)))) q
      ∙ ap (take 4) (drop-append-add (cells a) (flat cells (count_up (suc a) m) ++ z) (4 * i)) ∙ cells_at (suc a) m i z (omega arith) ∙ ap cells r

module _ (g : Geometry) where
  pub table_length : length (position_table g) ≡ 1024
  unfolding position_table
  table_length = cells_length (λ n. position_in g.scale g.rows n) 1 256

  -- whatever stands behind the table
  pub position_at_lem : (n : ℕ) (z : List Float) → 1 ≤ n → n ≤ 256 → take 4 (drop (4 * (n - 1)) (position_table g ++ z)) ≡ position_numbers (position_in g.scale g.rows n)
  unfolding position_table
  position_at_lem n z h k =
      let q : 1 + (n - 1) ≡ n = omega arith in
      cells_at (λ m. position_in g.scale g.rows m) 1 256 (n - 1) z (omega arith) ∙ ap (λ (m : ℕ). position_numbers (position_in g.scale g.rows m)) q

-- AN ATOM'S POSITION
abbrev not_above : XyzRow → XyzRow → Bool
not_above q r = leb r.atom q.atom

module _ (f : Factor) (n : ℕ) where
  abbrev names : XyzRow → Bool
  names r = eqb r.atom n

  abbrev pub row_position : XyzRow → Position
  row_position r = At (coordinate f r.x) (coordinate f r.y) (coordinate f r.z)

  position_here : (r : XyzRow) (rs : List XyzRow) → names r ≡ true → position_in f (r ∷ rs) n ≡ row_position r
  unfolding position_in
  position_here r rs e = rw (e, position_in)

  position_past : (r : XyzRow) (rs : List XyzRow) → names r ≡ false → position_in f (r ∷ rs) n ≡ position_in f rs n
  unfolding position_in
  position_past r rs e = rw (e, position_in)

  pub position_none : (rs : List XyzRow) → any names rs ≡ false → position_in f rs n ≡ NotGiven
  unfolding position_in
  position_none [] e = refl
  position_none (r ∷ rs) e =
      let p : (names r ≡ false) × (any names rs ≡ false) = or_parts (names r) (any names rs) (sym (any_cons names r rs) ∙ e) in
      position_past r rs p.0 ∙ position_none rs p.1

  -- the first number, which says whether it is given
  pub position_flag : (rs : List XyzRow) → any names rs ≡ true → get_or (position_numbers (position_in f rs n)) 0 nought ≡ fin false 1 (pos 0)
  position_flag [] e = torn (any names []) e (any_nil names)
  position_flag (r ∷ rs) e = by (names r) refl (position_flag rs)
    where
      by : (t : Bool) → names r ≡ t → (any names rs ≡ true → get_or (position_numbers (position_in f rs n)) 0 nought ≡ fin false 1 (pos 0)) → get_or (position_numbers (position_in f (r ∷ rs) n)) 0 nought ≡ fin false 1 (pos 0)
      by true h ih = ap (λ (x : Position). get_or (position_numbers x) 0 nought) (position_here r rs h)
      by false h ih =
          ap (λ (x : Position). get_or (position_numbers x) 0 nought) (position_past r rs h) ∙ ih (sym (any_cons names r rs ∙ ap (λ (t : Bool). t || any names rs) h) ∙ e)

  -- ascending rows: no other row names the atom of one
  others_above : (r : XyzRow) (rs : List XyzRow) → names r ≡ true → any (not_above r) rs ≡ false → any names rs ≡ false
  others_above r [] h e = any_nil names
  others_above r (q ∷ rs) h e =
      let p : (not_above r q ≡ false) × (any (not_above r) rs ≡ false) = or_parts (not_above r q) (any (not_above r) rs) (sym (any_cons (not_above r) q rs) ∙ e) in
      let d : names q ≡ false = ne_eqb q.atom n (λ s. torn (not_above r q) (le-leb q.atom r.atom (omega (arith, s, eqb-true r.atom n h))) p.0) in
      any_cons names q rs ∙ rw (d, others_above r rs h p.1)

  apart_parts : (r : XyzRow) (rs : List XyzRow) → pairs not_above (r ∷ rs) ≡ false → (any (not_above r) rs ≡ false) × (pairs not_above rs ≡ false)
  unfolding pairs
  apart_parts r rs e = or_parts (any (not_above r) rs) (pairs not_above rs) e

  pub position_of : (other : XyzRow) (rs : List XyzRow) (i : ℕ) → pairs not_above rs ≡ false → i < length rs → (get_or rs i other).atom ≡ n → position_in f rs n ≡ row_position (get_or rs i other)
  position_of other [] i a h e = absurd (omega arith)
  position_of other (r ∷ rs) zero a h e = position_here r rs (eq-eqb r.atom n e)
  position_of other (r ∷ rs) (suc i) a h e = by (names r) refl (position_of other rs i (apart_parts r rs a).1 (omega arith) e)
    where
      by : (t : Bool) → names r ≡ t → position_in f rs n ≡ row_position (get_or rs i other) → position_in f (r ∷ rs) n ≡ row_position (get_or rs i other)
      by true s ih =
          let none_else : any names rs ≡ false = others_above r rs s (apart_parts r rs a).0 in
          torn (any names rs) (any_index names other rs i (omega arith) (eq-eqb (get_or rs i other).atom n e)) none_else
      by false s ih = position_past r rs s ∙ ih

  -- and from the last row on
  abbrev either : Bool → Position → Position → Position
  either true x y = x
  either false x y = y

  position_aux : (rs before : List XyzRow) → pairs not_above rs ≡ false → position_in f (reverse_aux rs before) n ≡ either (any names rs) (position_in f rs n) (position_in f before n)
  position_aux [] before a = ap (λ (t : Bool). either t (position_in f [] n) (position_in f before n)) (sym (any_nil names))
  position_aux (r ∷ rs) before a =
      position_aux rs (r ∷ before) (apart_parts r rs a).1 ∙ by (names r) refl ∙ ap (λ (t : Bool). either t (position_in f (r ∷ rs) n) (position_in f before n)) (sym (any_cons names r rs))
    where
      by : (t : Bool) → names r ≡ t → either (any names rs) (position_in f rs n) (position_in f (r ∷ before) n) ≡ either (names r || any names rs) (position_in f (r ∷ rs) n) (position_in f before n)
      by true s = rw (others_above r rs s (apart_parts r rs a).0, s, position_here r before s, position_here r rs s)
      by false s = rw (s, position_past r before s, position_past r rs s)

  pub position_reverse : (rs : List XyzRow) → pairs not_above rs ≡ false → position_in f (reverse rs) n ≡ position_in f rs n
  position_reverse rs a = position_aux rs [] a ∙ by (any names rs) refl
    where
      by : (t : Bool) → any names rs ≡ t → either (any names rs) (position_in f rs n) (position_in f [] n) ≡ position_in f rs n
      by true e = ap (λ (t : Bool). either t (position_in f rs n) (position_in f [] n)) e
      by false e = ap (λ (t : Bool). either t (position_in f rs n) (position_in f [] n)) e ∙ position_none [] (any_nil names) ∙ sym (position_none rs e)
