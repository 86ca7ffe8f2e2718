-- Rows kept in a store are read back, latest first, and a further row leaves the earlier ones as they were. Serves document 02, L2 ("in any order with the other
-- shell labels"). Assumes nothing.
use Prim.Native.Nat.{ℕ, zero, suc, ◌+◌, ◌*◌, ◌/◌, ◌≤◌, ◌<◌}
use mathlib.Core.Path.{◌≡◌, refl, sym, ap, ap₂, ◌∙◌}
use mathlib.Core.Bool.{Bool, true, false, ◌&&◌}
use mathlib.Core.List.{List, [], ◌∷◌, ◌++◌}
use native.Mathlib.Nat.{le-div_iff_mul-le, le-max_left, le-max_right, max-le}
use Rattle.std.specs.Prelude.{max}
use native.Mathlib.Omega.{arith}
use borrow.Author.Tests.{ltb-true, leb-true, leb-false, lt-ltb, le-leb, lt-leb}
use lib.Dec.{leb, ltb, lit<}
use lib.ListN.{length, take, drop, get_or, length-append, length-drop}
use lib.Seq.{drop-drop, length-take-le, take_at, get_or-take, get_or-append-add, get_or_at}
use lib.IntN.{ℤ, pos, nat_abs}
use mir.Facts.{to_z_pos}
use mir.Syntax.{w32}
use mir.Val.{to_z}
use Rattle.lists.proofs.Bools.{both_ways, and_parts, and_both, and_left_false, and_right_false}
use Rattle.format.specs.Coordinates.{XyzRow}
use Rattle.format.specs.Table.{cell}
use Rattle.rows.specs.Raised.{lowered, six_digits, row_small, xyz_row_of}
use Rattle.rows.specs.declared.xyz.XyzRow.{XyzRow as Raised}
use Rattle.rows.proofs.XyzLaws.{three_small}
use Rattle.factor.proofs.QuotientLaws.{lowered_far}
use Rattle.coordinates.specs.KeptRows.{has_row, row_from, row_at, rows_in, modest, kept, Stored}

-- ROOM for a row
pub row_by : (l i : ℕ) → ltb i (l / 4) ≡ has_row l i
unfolding has_row
row_by l i =
    both_ways (ltb i (l / 4)) (leb (4 * suc i) l)
    (λ e. le-leb (4 * suc i) l (omega (arith, (le-div_iff_mul-le {k = 4} {x = suc i} {y = l} (lit< tt)).0 (ltb-true i (l / 4) e))))
    (λ e. lt-ltb i (l / 4) ((le-div_iff_mul-le {k = 4} {x = suc i} {y = l} (lit< tt)).1 (omega (arith, leb-true (4 * suc i) l e))))

pub row_held : (l i : ℕ) → i < l / 4 → has_row l i ≡ true
row_held l i h = sym (row_by l i) ∙ lt-ltb i (l / 4) h

pub row_told : (l i : ℕ) → has_row l i ≡ true → 4 * i + 4 ≤ l
unfolding has_row
row_told l i e = omega (arith, leb-true (4 * suc i) l e)

row_room : (l i : ℕ) → 4 * suc i ≤ l → has_row l i ≡ true
unfolding has_row
row_room l i h = le-leb (4 * suc i) l h

-- where one row has none, no later one has any
pub no_row_later : (l i k : ℕ) → has_row l i ≡ false → has_row l (k + i) ≡ false
unfolding has_row
no_row_later l i k e = lt-leb (4 * suc (k + i)) l (omega (arith, leb-false (4 * suc i) l e))

pub row_none : (w : List ℤ) (i : ℕ) → has_row (length w) i ≡ false → row_at w i ≡ row_from 0 0 0 0
unfolding row_at
row_none w i e = rw (e, row_at)

pub row_is : (w : List ℤ) (i : ℕ) → has_row (length w) i ≡ true → row_at w i ≡ row_from (cell w (4 * i)) (cell w (4 * i + 1)) (cell w (4 * i + 2)) (cell w (4 * i + 3))
unfolding row_at
row_is w i e = rw (e, row_at)

-- NUMBERS that a row can have
module _ (r : Raised) where
  pub modest_by : leb (max (max r.atom r.x) (max r.y r.z)) 2000000 ≡ modest r
  unfolding modest
  modest_by =
      both_ways (leb (max (max r.atom r.x) (max r.y r.z)) 2000000) (leb r.atom 2000000 && (leb r.x 2000000 && (leb r.y 2000000 && leb r.z 2000000)))
      (λ e.
      let m : max (max r.atom r.x) (max r.y r.z) ≤ 2000000 = leb-true (max (max r.atom r.x) (max r.y r.z)) 2000000 e in
      let f = le-max_left (max r.atom r.x) (max r.y r.z) in
      let g = le-max_right (max r.atom r.x) (max r.y r.z) in
      let a = le-leb r.atom 2000000 (omega (arith, m, f, le-max_left r.atom r.x)) in
      let x = le-leb r.x 2000000 (omega (arith, m, f, le-max_right r.atom r.x)) in
      let y = le-leb r.y 2000000 (omega (arith, m, g, le-max_left r.y r.z)) in
      let z = le-leb r.z 2000000 (omega (arith, m, g, le-max_right r.y r.z)) in
      rw (a, x, y, z) refl)
      (λ e.
      let p = and_parts (leb r.atom 2000000) (leb r.x 2000000 && (leb r.y 2000000 && leb r.z 2000000)) e in
      let q = and_parts (leb r.x 2000000) (leb r.y 2000000 && leb r.z 2000000) p.1 in
      let s = and_parts (leb r.y 2000000) (leb r.z 2000000) q.1 in
      le-leb (max (max r.atom r.x) (max r.y r.z)) 2000000 (max-le (max-le (leb-true r.atom 2000000 p.0) (leb-true r.x 2000000 q.0)) (max-le (leb-true r.y 2000000 s.0) (leb-true r.z 2000000 s.1))))

  pub modest_told : modest r ≡ true → (r.atom ≤ 2000000) × (r.x ≤ 2000000) × (r.y ≤ 2000000) × (r.z ≤ 2000000)
  unfolding modest
  modest_told e =
      let p = and_parts (leb r.atom 2000000) (leb r.x 2000000 && (leb r.y 2000000 && leb r.z 2000000)) e in
      let q = and_parts (leb r.x 2000000) (leb r.y 2000000 && leb r.z 2000000) p.1 in
      let s = and_parts (leb r.y 2000000) (leb r.z 2000000) q.1 in
      (leb-true r.atom 2000000 p.0, leb-true r.x 2000000 q.0, leb-true r.y 2000000 s.0, leb-true r.z 2000000 s.1)

-- ONE ROW WRITTEN
module _ (w : List ℤ) (i : ℕ) (r : Raised) where
  abbrev cells : List ℤ
  cells = pos r.atom ∷ pos r.x ∷ pos r.y ∷ pos r.z ∷ []

  pub kept_roomless : has_row (length w) i ≡ false → w ≡ kept w i r
  unfolding kept
  kept_roomless e = sym (rw (and_left_false (has_row (length w) i) (modest r) e, kept))

  pub kept_immodest : modest r ≡ false → w ≡ kept w i r
  unfolding kept
  kept_immodest e = sym (rw (and_right_false (has_row (length w) i) (modest r) e, kept))

  module _ (has : has_row (length w) i ≡ true) (fine : modest r ≡ true) where
    kept_is : kept w i r ≡ take (4 * i) w ++ (cells ++ drop (4 * suc i) w)
    unfolding kept
    kept_is = rw (and_both (has_row (length w) i) (modest r) has fine, kept)

    -- the part written, each number as the machine holds it
    pub kept_written : (n : ℕ) → n ≡ 4 → take (4 * i) w ++ ((to_z w32 r.atom ∷ to_z w32 r.x ∷ to_z w32 r.y ∷ to_z w32 r.z ∷ []) ++ drop n (drop (4 * i) w)) ≡ kept w i r
    kept_written n q =
        let b = modest_told r fine in
        let a : to_z w32 r.atom ≡ pos r.atom = to_z_pos w32 {n = r.atom} (omega arith) in
        let x : to_z w32 r.x ≡ pos r.x = to_z_pos w32 {n = r.x} (omega arith) in
        let y : to_z w32 r.y ≡ pos r.y = to_z_pos w32 {n = r.y} (omega arith) in
        let z : to_z w32 r.z ≡ pos r.z = to_z_pos w32 {n = r.z} (omega arith) in
        let e : 4 * i + n ≡ 4 * suc i = omega arith in
        rw (a, x, y, z) (ap (λ (l : List ℤ). take (4 * i) w ++ (cells ++ l)) (drop-drop n (4 * i) w ∙ ap (λ (m : ℕ). drop m w) e) ∙ sym kept_is)

    front_length : length (take (4 * i) w) ≡ 4 * i
    front_length = length-take-le (4 * i) w (omega (arith, row_told (length w) i has))

    written_length : length (kept w i r) ≡ length w
    written_length =
        ap length kept_is
        ∙ length-append (take (4 * i) w) (cells ++ drop (4 * suc i) w)
        ∙ omega (arith, front_length, row_told (length w) i has, length-drop (4 * suc i) w)

    -- what is read: the row itself, and before it what stood there
    written_front : take (4 * i) (kept w i r) ≡ take (4 * i) w
    written_front = ap (take (4 * i)) kept_is ∙ take_at (take (4 * i) w) (cells ++ drop (4 * suc i) w) (4 * i) front_length

    number_at : (j : ℕ) → get_or (kept w i r) (4 * i + j) (pos 0) ≡ get_or (cells ++ drop (4 * suc i) w) j (pos 0)
    number_at j =
        ap (λ (l : List ℤ). get_or l (4 * i + j) (pos 0)) kept_is
        ∙ ap (λ (n : ℕ). get_or (take (4 * i) w ++ (cells ++ drop (4 * suc i) w)) (n + j) (pos 0)) (sym front_length)
        ∙ get_or-append-add (take (4 * i) w) (cells ++ drop (4 * suc i) w) j (pos 0)

    first_at : get_or (kept w i r) (4 * i) (pos 0) ≡ pos r.atom
    first_at = ap (λ (l : List ℤ). get_or l (4 * i) (pos 0)) kept_is ∙ get_or_at (take (4 * i) w) (pos r.atom) _ (pos 0) (4 * i) front_length

    pub written_row : row_at (kept w i r) i ≡ xyz_row_of r
    written_row =
        row_is (kept w i r) i (ap (λ (l : ℕ). has_row l i) written_length ∙ has)
        ∙ rw (first_at, number_at 1, number_at 2, number_at 3)

pub kept_length : (w : List ℤ) (i : ℕ) (r : Raised) → length (kept w i r) ≡ length w
kept_length w i r = go (has_row (length w) i) refl (modest r) refl
  where
    go : (s : Bool) → has_row (length w) i ≡ s → (t : Bool) → modest r ≡ t → length (kept w i r) ≡ length w
    go true p true q = written_length w i r p q
    go true p false q = ap length (sym (kept_immodest w i r q))
    go false p t q = ap length (sym (kept_roomless w i r p))

-- ROWS IN FRONT: those of two stores that begin alike are the same
module _ (v w : List ℤ) (n : ℕ) (long : length v ≡ length w) (front : take (4 * n) v ≡ take (4 * n) w) where
  same_at : (k : ℕ) → k < 4 * n → get_or v k (pos 0) ≡ get_or w k (pos 0)
  same_at k h = sym (get_or-take (4 * n) v k (pos 0) h) ∙ ap (λ (l : List ℤ). get_or l k (pos 0)) front ∙ get_or-take (4 * n) w k (pos 0) h

  same_row : (i : ℕ) → i < n → row_at v i ≡ row_at w i
  same_row i h = go (has_row (length w) i) refl
    where
      go : (t : Bool) → has_row (length w) i ≡ t → row_at v i ≡ row_at w i
      go true e =
          let p : 4 * i + 3 < 4 * n = omega arith in
          row_is v i (ap (λ (l : ℕ). has_row l i) long ∙ e)
          ∙ rw (same_at (4 * i) (omega arith), same_at (4 * i + 1) (omega arith), same_at (4 * i + 2) (omega arith), same_at (4 * i + 3) p)
          (sym (row_is w i e))
      go false e = row_none v i (ap (λ (l : ℕ). has_row l i) long ∙ e) ∙ sym (row_none w i e)

  same_rows : (m : ℕ) → m ≤ n → rows_in m v ≡ rows_in m w
  unfolding rows_in
  same_rows zero h = refl
  same_rows (suc m) h = ap₂ (λ (r : XyzRow) (rs : List XyzRow). r ∷ rs) (same_row m h) (same_rows m (omega arith))

-- THE STORE HOLDS THE ROWS
pub stored_none : (w : List ℤ) → Stored w []
unfolding rows_in
stored_none w h = refl

-- without room for the later row too, the store need not hold the earlier ones
pub stored_less : (w : List ℤ) (r : XyzRow) (rows : List XyzRow) → 4 * length (r ∷ rows) ≤ length w → Stored w (r ∷ rows) → Stored w rows
unfolding rows_in
stored_less w r rows room s h = ap (drop 1) (s room)

-- a row's numbers are none above 2,000,000 where the numbers that they stand for have six digits
raised_modest : (n : ℕ) → six_digits (lowered n) ≡ true → leb n 2000000 ≡ true
raised_modest n h = go (leb n 2000000) refl
  where
    go : (t : Bool) → leb n 2000000 ≡ t → leb n 2000000 ≡ true
    go true e = e
    go false e = let f : 1000000 < nat_abs (lowered n) = lowered_far n (leb-false n 2000000 e) in let b = leb-true (nat_abs (lowered n)) 999999 h in absurd (omega arith)

row_modest : (r : Raised) → row_small (xyz_row_of r) ≡ true → r.atom ≤ 2000000 → modest r ≡ true
unfolding modest
row_modest r small h =
    let s = three_small (xyz_row_of r) small in
    rw (le-leb r.atom 2000000 h, raised_modest r.x s.0, raised_modest r.y s.1, raised_modest r.z s.2) refl

pub kept_stored : (w : List ℤ) (r : Raised) (rows : List XyzRow) → row_small (xyz_row_of r) ≡ true → r.atom ≤ 2000000 → Stored w rows
    → Stored (kept w (length rows) r) (xyz_row_of r ∷ rows)
unfolding rows_in
kept_stored w r rows small low s h =
    let n = length rows in
    let room : 4 * suc n ≤ length w = omega (arith, h, kept_length w n r) in
    let has = row_room (length w) n room in
    let fine = row_modest r small low in
    ap₂ (λ (q : XyzRow) (qs : List XyzRow). q ∷ qs)
    (written_row w n r has fine)
    (same_rows (kept w n r) w n (written_length w n r has fine) (written_front w n r has fine) n (omega arith) ∙ s (omega (arith, room)))
