-- One row's position more in the table, and that the table which the kept rows give is the definition's. Serves document 02, L2 ("Positions stand in a lent table of
-- their own"). Assumes nothing.
use Prim.Native.Nat.{ℕ, zero, suc, ◌+◌, ◌-◌, ◌*◌, ◌/◌, ◌≤◌}
use mathlib.Core.Path.{◌≡◌, refl, sym, ap, ap₂, ◌∙◌}
use mathlib.Core.Bool.{Bool, true, false}
use mathlib.Core.List.{List, [], ◌∷◌, ◌++◌}
use native.Mathlib.Nat.{zero-add, le_of_lt, min-eq_left, min-eq_right}
use native.Mathlib.Numerals.{add-one}
use native.Mathlib.Omega.{arith}
use borrow.Author.Tests.{ne_eqb, leb-true, leb-false, le-ltb}
use Rattle.std.specs.Prelude.{min}
use lib.Dec.{eqb, leb}
use lib.ListN.{length, drop, length-replicate}
use lib.Seq.{drop_at}
use lib.IntN.{ℤ}
use lib.Ieee.{Float}
use Rattle.lists.specs.Lists.{all, flat, count_up}
use Rattle.lists.proofs.Bools.{eqb_same}
use Rattle.lists.proofs.ListLaws.{all_parts}
use Rattle.lists.proofs.PartLaws.{flat_same}
use Rattle.format.specs.Coordinates.{Factor, XyzRow, Geometry, At, nought, coordinate, position_numbers, position_in, position_table}
use Rattle.format.specs.Table.{noughts}
use Rattle.rows.specs.Raised.{six_digits, row_small, xyz_row_of}
use Rattle.rows.specs.declared.xyz.XyzRow.{XyzRow as Raised}
use Rattle.factor.proofs.QuotientLaws.{scaled_is}
use Rattle.coordinates.specs.ShownPositions.{shown_point, row_position, placed, fronted}
use Rattle.coordinates.specs.declared.Point.{Point}
use Rattle.coordinates.specs.KeptRows.{has_row, row_at, rows_in, Stored}
use Rattle.coordinates.specs.Filled.{scaled_in, scaled_table, placed_row}
use Rattle.coordinates.proofs.ClearLaws.{fronted_long}
use Rattle.coordinates.proofs.TableLaws.{numbers_of, flat_up, one_placed}
use Rattle.coordinates.proofs.KeptLaws.{row_by, row_none, no_row_later}

module _ (f : Factor) where
  -- AN ATOM'S POSITION: its own row's, or that of the rows before
  scaled_here : (r : XyzRow) (rs : List XyzRow) → scaled_in f (r ∷ rs) r.atom ≡ row_position f r
  unfolding scaled_in
  scaled_here r rs = rw (eqb_same r.atom, scaled_in)

  scaled_past : (r : XyzRow) (rs : List XyzRow) (n : ℕ) → (r.atom ≡ n → ⊥) → scaled_in f (r ∷ rs) n ≡ scaled_in f rs n
  unfolding scaled_in
  scaled_past r rs n h = rw (ne_eqb r.atom n h, scaled_in)

  -- NO ROW: noughts
  none_counted : (a k : ℕ) → flat (numbers_of (scaled_in f [])) (count_up a k) ≡ noughts (4 * k)
  unfolding count_up flat noughts scaled_in
  none_counted a zero = refl
  none_counted a (suc k) =
      let q : suc (suc (suc (suc (4 * k)))) ≡ 4 * suc k = omega arith in
      ap (λ (l : List Float). nought ∷ nought ∷ nought ∷ nought ∷ l) (none_counted (suc a) k) ∙ ap noughts q

  none_table : scaled_table f [] ≡ noughts 1024
  unfolding scaled_table
  none_table = none_counted 1 256

  -- ONE ROW MORE
  pub row_placed : (r : XyzRow) (rs : List XyzRow) (z : List Float) → placed_row f (scaled_table f rs ++ z) r ≡ scaled_table f (r ∷ rs) ++ z
  unfolding scaled_table
  row_placed r rs z =
      ap (placed (scaled_table f rs ++ z) r.atom) (sym (scaled_here r rs))
      ∙ one_placed (scaled_in f rs) (scaled_in f (r ∷ rs)) r.atom (λ m h. sym (scaled_past r rs m (λ e. h (sym e)))) z

  -- a row of atom 0 has no place
  placeless : (r : XyzRow) (rs : List XyzRow) → r.atom ≡ 0 → scaled_table f (r ∷ rs) ≡ scaled_table f rs
  unfolding scaled_table
  placeless r rs e =
      flat_up (numbers_of (scaled_in f (r ∷ rs))) (numbers_of (scaled_in f rs)) 1 256
      (λ n p q. ap position_numbers (scaled_past r rs n (λ d. omega (arith, p, d, e))))

  module _ (w : List ℤ) where
    rows_cons : (n : ℕ) → rows_in (suc n) w ≡ row_at w n ∷ rows_in n w
    unfolding rows_in
    rows_cons n = refl

    -- a row as the code reads it, and its position written
    pub row_placed_at : (i : ℕ) (t : List Float) (r : Raised) (p : Point) → xyz_row_of r ≡ row_at w i → shown_point p ≡ row_position f (xyz_row_of r)
        → placed t r.atom (shown_point p) ≡ placed_row f t (row_at w i)
    row_placed_at i t r p e h = ap (placed t r.atom) h ∙ ap (placed_row f t) e

    -- rows beyond the store change nothing
    beyond : (i : ℕ) → has_row (length w) i ≡ false → (k : ℕ) → scaled_table f (rows_in (k + i) w) ≡ scaled_table f (rows_in i w)
    beyond i e zero = ap (λ (n : ℕ). scaled_table f (rows_in n w)) (zero-add i)
    beyond i e (suc k) =
        let q : suc k + i ≡ suc (k + i) = omega arith in
        ap (λ (n : ℕ). scaled_table f (rows_in n w)) q
        ∙ ap (scaled_table f) (rows_cons (k + i))
        ∙ placeless (row_at w (k + i)) (rows_in (k + i) w) (ap (λ (r : XyzRow). r.atom) (row_none w (k + i) (no_row_later (length w) i k e))) ∙ beyond i e k

    -- THE LOOP: one row more; and, t₁ being the table t₀ cleared, where it starts and where it ends
    pub fill_more : (i : ℕ) (z t u : List Float) → t ≡ scaled_table f (rows_in i w) ++ z → u ≡ placed_row f t (row_at w i) → u ≡ scaled_table f (rows_in (i + 1) w) ++ z
    fill_more i z t u e h =
        h
        ∙ ap (λ (l : List Float). placed_row f l (row_at w i)) e
        ∙ row_placed (row_at w i) (rows_in i w) z
        ∙ ap (λ (rs : List XyzRow). scaled_table f rs ++ z) (sym (ap (λ (n : ℕ). rows_in n w) (add-one i) ∙ rows_cons i))

    module _ (t₀ t₁ : List Float) (long : 1024 ≤ length t₀) (start : t₁ ≡ fronted (noughts 1024) t₀) where
      same_behind : drop 1024 t₁ ≡ drop 1024 t₀
      unfolding noughts
      same_behind = ap (drop 1024) (start ∙ fronted_long (noughts 1024) t₀ long) ∙ drop_at (noughts 1024) (drop 1024 t₀) 1024 (length-replicate 1024 nought)

      pub fill_start : t₁ ≡ scaled_table f (rows_in 0 w) ++ drop 1024 t₁
      unfolding rows_in
      fill_start = start ∙ fronted_long (noughts 1024) t₀ long ∙ ap₂ (λ (l k : List Float). l ++ k) (sym none_table) (sym same_behind)

      ended : (i n : ℕ) (t : List Float) → scaled_table f (rows_in i w) ≡ scaled_table f (rows_in n w) → t ≡ scaled_table f (rows_in i w) ++ drop 1024 t₁
          → t ≡ fronted (scaled_table f (rows_in n w)) t₀
      ended i n t e p = p ∙ ap₂ (λ (l k : List Float). l ++ k) e same_behind ∙ sym (fronted_long (scaled_table f (rows_in n w)) t₀ long)

      fill_beyond : (i n : ℕ) (t : List Float) → i ≤ n → has_row (length w) i ≡ false → t ≡ scaled_table f (rows_in i w) ++ drop 1024 t₁
          → t ≡ fronted (scaled_table f (rows_in n w)) t₀
      fill_beyond i n t h e p = let q : n - i + i ≡ n = omega arith in ended i n t (sym (beyond i e (n - i)) ∙ ap (λ (k : ℕ). scaled_table f (rows_in k w)) q) p

      fill_end : (i n : ℕ) (t : List Float) → i ≤ n → n ≤ i → t ≡ scaled_table f (rows_in i w) ++ drop 1024 t₁ → t ≡ fronted (scaled_table f (rows_in n w)) t₀
      fill_end i n t h k p = let q : i ≡ n = omega arith in ended i n t (ap (λ (m : ℕ). scaled_table f (rows_in m w)) q) p

      pub filled : (n i : ℕ) (t : List Float) → i ≤ min n (length w / 4) → min n (length w / 4) ≤ i → t ≡ scaled_table f (rows_in i w) ++ drop 1024 t₁ → t ≡ fronted (scaled_table f (rows_in n w)) t₀
      filled n i t low high e = go (leb n (length w / 4)) refl
        where
          go : (b : Bool) → leb n (length w / 4) ≡ b → t ≡ fronted (scaled_table f (rows_in n w)) t₀
          go true b = let p = min-eq_left (leb-true n (length w / 4) b) in fill_end i n t (omega arith) (omega arith) e
          go false b =
              let l = leb-false n (length w / 4) b in
              let p = min-eq_right (le_of_lt l) in
              fill_beyond i n t (omega arith) (sym (row_by (length w) i) ∙ le-ltb i (length w / 4) (omega arith)) e

  -- THE DEFINITION'S POSITION, where rows and factor have their size
  module _ (decimals : f.decimals ≤ 9) where
    row_exact : (r : XyzRow) → row_small r ≡ true → row_position f r ≡ At (coordinate f r.x) (coordinate f r.y) (coordinate f r.z)
    row_exact r h =
        let p = all_parts six_digits r.x (r.y ∷ r.z ∷ []) h in
        let q = all_parts six_digits r.y (r.z ∷ []) p.1 in
        rw (scaled_is f r.x p.0 decimals, scaled_is f r.y q.0 decimals, scaled_is f r.z (all_parts six_digits r.z [] q.1).0 decimals)

    pub scaled_in_lem : (rs : List XyzRow) → all row_small rs ≡ true → (n : ℕ) → scaled_in f rs n ≡ position_in f rs n
    unfolding scaled_in position_in
    scaled_in_lem [] h n = refl
    scaled_in_lem (r ∷ rs) h n = go (eqb r.atom n) refl (all_parts row_small r rs h) (scaled_in_lem rs (all_parts row_small r rs h).1 n)
      where
        go : (t : Bool) → eqb r.atom n ≡ t → (row_small r ≡ true) × (all row_small rs ≡ true) → scaled_in f rs n ≡ position_in f rs n → scaled_in f (r ∷ rs) n ≡ position_in f (r ∷ rs) n
        go true e p ih =
            let a : scaled_in f (r ∷ rs) n ≡ row_position f r = rw (e, scaled_in) in
            let b : position_in f (r ∷ rs) n ≡ At (coordinate f r.x) (coordinate f r.y) (coordinate f r.z) = rw (e, position_in) in
            a ∙ row_exact r p.0 ∙ sym b
        go false e p ih =
            let a : scaled_in f (r ∷ rs) n ≡ scaled_in f rs n = rw (e, scaled_in) in
            let b : position_in f (r ∷ rs) n ≡ position_in f rs n = rw (e, position_in) in
            a ∙ ih ∙ sym b

-- THE DEFINITION'S TABLE, from a store that holds the geometry's rows
pub filled_is : (g : Geometry) (w : List ℤ) → Stored w g.rows → 4 * length g.rows ≤ length w → all row_small g.rows ≡ true → g.scale.decimals ≤ 9
    → scaled_table g.scale (rows_in (length g.rows) w) ≡ position_table g
unfolding scaled_table position_table
filled_is g w s room small decimals =
    ap (scaled_table g.scale) (s room)
    ∙ flat_same (numbers_of (scaled_in g.scale g.rows)) (numbers_of (position_in g.scale g.rows)) (λ n. ap position_numbers (scaled_in_lem g.scale decimals g.rows small n)) (count_up 1 256)
