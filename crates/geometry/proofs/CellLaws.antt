-- The cells of the geometry's region: what they become with one row more, the latest row's atom against a further one, the largest size against MAX_XYZ.
-- Document 02, L2. Assumes nothing.
use Rattle.std.proofs.Common.{◌≡◌, ℕ, suc, ◌+◌, ◌-◌, ◌%◌, ◌^◌, ◌<◌, ◌≤◌, max, Bool, true, false, ◌||◌, ltb, leb, List, [], ◌∷◌, length, get_or, nat_abs, sym, refl, ap, ◌∙◌, mod-eq_of_lt, add-one, arith, ltb-false, ltb-true, le-ltb, lt-ltb, leb-false}
use native.Mathlib.Nat.{le-max_left, le-max_right, max-le}
use lib.Seq.{sets, length-sets}
use borrow.Author.Tests.{lt-leb}
use Rattle.lists.specs.Lists.{any}
use Rattle.lists.proofs.Bools.{or_left, or_right, or_neither}
use Rattle.lists.proofs.ListLaws.{all_both, any_nil, any_hit, any_miss}
use Rattle.format.specs.Coordinates.{XyzRow, values, Factor, Geometry, geometry, exceeds}
use Rattle.rows.specs.Raised.{lowered, row_small, xyz_row_of}
use Rattle.rows.specs.declared.xyz.XyzRow.{XyzRow as Raised}
use Rattle.rows.proofs.XyzLaws.{lowered_low, lowered_high, raised_lowered}
use Rattle.sorted.specs.GeometryRegion.{largest_with, largest_of, row_cells, latest_atom, Descends, geometry_region, GeometryFine}
use Rattle.sorted.proofs.GeometryLaws.{region_nine}
use Rattle.geometry.specs.Cells.{size_of, largest_by, row_put}
use Rattle.geometry.specs.SizesTold.{SizesTold}

-- SIZES
size_below : (n : ℕ) → n < 1000000 → 1000000 - n ≡ size_of n
unfolding size_of
size_below n h = sym (rw (lt-ltb n 1000000 h, size_of))

size_above : (n : ℕ) → 1000000 ≤ n → n - 1000000 ≡ size_of n
unfolding size_of
size_above n h = sym (rw (le-ltb n 1000000 h, size_of))

pub size_by : (n : ℕ) → (n - 1000000) + (1000000 - n) ≡ size_of n
size_by n = go (ltb n 1000000) refl
  where
    go : (t : Bool) → ltb n 1000000 ≡ t → (n - 1000000) + (1000000 - n) ≡ size_of n
    go true e = let h = ltb-true n 1000000 e in omega arith ∙ size_below n h
    go false e = let h = ltb-false n 1000000 e in omega arith ∙ size_above n h

size_is : (n : ℕ) → size_of n ≡ nat_abs (lowered n)
size_is n = go (ltb n 1000000) refl
  where
    go : (t : Bool) → ltb n 1000000 ≡ t → size_of n ≡ nat_abs (lowered n)
    go true e = let h = ltb-true n 1000000 e in sym (size_below n h) ∙ omega arith ∙ sym (ap nat_abs (lowered_low n h))
    go false e = let h = ltb-false n 1000000 e in sym (size_above n h) ∙ sym (ap nat_abs (lowered_high n h))

largest_is : (k : Raised) (m : ℕ) → largest_by k m ≡ largest_with (xyz_row_of k) m
unfolding largest_by
largest_is k m = rw (size_is k.x, size_is k.y, size_is k.z) refl

-- A FURTHER ATOM is not above some row's exactly where it is not above the latest one's
pub any_latest : (a : ℕ) (rs : List XyzRow) → 1 ≤ a → Descends rs → any (λ q. leb a q.atom) rs ≡ leb a (latest_atom rs)
any_latest a [] h d = any_nil (λ (q : XyzRow). leb a q.atom) ∙ sym (lt-leb a 0 h)
any_latest a (r ∷ rs) h d = go (leb a r.atom) refl (any_latest a rs h d.1)
  where
    go : (t : Bool) → leb a r.atom ≡ t → any (λ q. leb a q.atom) rs ≡ leb a (latest_atom rs) → any (λ q. leb a q.atom) (r ∷ rs) ≡ leb a r.atom
    go true e ih = any_hit (λ (q : XyzRow). leb a q.atom) r rs e ∙ sym e
    go false e ih =
        let k : r.atom < a = leb-false a r.atom e in
        any_miss (λ (q : XyzRow). leb a q.atom) r rs e ∙ ih ∙ lt-leb a (latest_atom rs) (omega (arith, d.0)) ∙ sym e

-- ONE ROW MORE
abbrev pub with_xyz : Geometry → XyzRow → Geometry
with_xyz g r = geometry g.greatest g.scale (r ∷ g.rows)

counted : (rs : List XyzRow) → length rs < 4294967295 → (length rs + 1) % 2 ^ 32 ≡ suc (length rs)
counted rs h = mod-eq_of_lt (omega arith) ∙ add-one (length rs)

cells_are : (k : Raised) → row_cells (xyz_row_of k) ≡ k.atom ∷ k.x ∷ k.y ∷ k.z ∷ []
cells_are k = rw (raised_lowered k.x, raised_lowered k.y, raised_lowered k.z) refl

module _ (m : ℕ) (f : Factor) (k : Raised) where
  put_by : (rs : List XyzRow) → length rs < 4294967295 → row_put (geometry_region (geometry m f rs)) k ≡ geometry_region (geometry m f (xyz_row_of k ∷ rs))
  unfolding row_put geometry_region largest_of
  put_by [] h = rw (largest_is k 0, cells_are k) refl
  put_by (q ∷ rs) h = rw (counted (q ∷ rs) h, largest_is k (largest_of (q ∷ rs)), cells_are k) refl

pub put_shown : (g : Geometry) (k : Raised) → length g.rows < 4294967295 → row_put (geometry_region g) k ≡ geometry_region (with_xyz g (xyz_row_of k))
put_shown g k few = put_by g.greatest g.scale k g.rows few

pub put_is : (t : List ℕ) (n m : ℕ) (k : Raised) → n ≡ (get_or t 3 0 + 1) % 2 ^ 32 → m ≡ largest_by k (get_or t 4 0) → sets t 3 (n ∷ m ∷ k.atom ∷ k.x ∷ k.y ∷ k.z ∷ []) ≡ row_put t k
unfolding row_put
put_is t n m k e f = rw (e, f) refl

pub put_length : (t : List ℕ) (k : Raised) → length (row_put t k) ≡ length t
unfolding row_put
put_length t k = length-sets t 3 ((get_or t 3 0 + 1) % 2 ^ 32 ∷ largest_by k (get_or t 4 0) ∷ k.atom ∷ k.x ∷ k.y ∷ k.z ∷ [])

-- it is fine where its atom is listed and above the latest one's
pub fine_more : (n : ℕ) (g : Geometry) (r : XyzRow) → GeometryFine n g → row_small r ≡ true → latest_atom g.rows < r.atom → r.atom ≤ n → GeometryFine n (with_xyz g r)
fine_more n g r f small above listed = record {
  descends = (above, f.descends);
  highest = listed;
  small = all_both row_small r g.rows small f.small;
  digits = f.digits;
  decimals = f.decimals;
}

-- THE LARGEST SIZE is above a bound exactly where some number's is
above_max : (m a b : ℕ) → ltb m (max a b) ≡ (ltb m a || ltb m b)
above_max m a b = go (ltb m a) (ltb m b) refl refl
  where
    go : (t u : Bool) → ltb m a ≡ t → ltb m b ≡ u → ltb m (max a b) ≡ (ltb m a || ltb m b)
    go true u e f = lt-ltb m (max a b) (omega (arith, ltb-true m a e, le-max_left a b)) ∙ sym (or_left (ltb m a) (ltb m b) e)
    go false true e f = lt-ltb m (max a b) (omega (arith, ltb-true m b f, le-max_right a b)) ∙ sym (or_right (ltb m a) (ltb m b) f)
    go false false e f = le-ltb m (max a b) (max-le (ltb-false m a e) (ltb-false m b f)) ∙ sym (or_neither (ltb m a) (ltb m b) e f)

or_three : (a b c d : Bool) → ((a || (b || (c || false))) || d) ≡ (a || (b || (c || d)))
or_three true b c d = refl
or_three false true c d = refl
or_three false false true d = refl
or_three false false false d = refl

abbrev above : ℕ → XyzRow → Bool
above m r = any (λ v. ltb m (nat_abs v)) (values r)

any_above : (m : ℕ) (rs : List XyzRow) → any (above m) rs ≡ ltb m (largest_of rs)
unfolding any largest_of
any_above m [] = sym (le-ltb m 0 (omega arith))
any_above m (r ∷ rs) =
    ap (λ (t : Bool). above m r || t) (any_above m rs)
    ∙ or_three (ltb m (nat_abs r.x)) (ltb m (nat_abs r.y)) (ltb m (nat_abs r.z)) (ltb m (largest_of rs))
    ∙ sym (above_max m (nat_abs r.x) (max (nat_abs r.y) (max (nat_abs r.z) (largest_of rs)))
    ∙ ap (λ (t : Bool). ltb m (nat_abs r.x) || t) (above_max m (nat_abs r.y) (max (nat_abs r.z) (largest_of rs))
    ∙ ap (λ (t : Bool). ltb m (nat_abs r.y) || t) (above_max m (nat_abs r.z) (largest_of rs))))

exceeds_is : (t : List ℕ) (g : Geometry) → t ≡ geometry_region g → ltb (get_or t 0 0) (get_or t 4 0) ≡ exceeds g
unfolding exceeds geometry_region
exceeds_is t g e = ap (λ (s : List ℕ). ltb (get_or s 0 0) (get_or s 4 0)) e ∙ sym (any_above g.greatest g.rows)

pub sizes_other : (t : List ℕ) → (length t ≡ 9 → ⊥) → SizesTold t false
sizes_other t h = record { other = λ o. refl; is = λ g e. absurd (h (ap length e ∙ region_nine g)) }

pub sizes_told : (t : List ℕ) → length t ≡ 9 → SizesTold t (ltb (get_or t 0 0) (get_or t 4 0))
sizes_told t h = record { other = λ o. absurd (o h); is = exceeds_is t }
