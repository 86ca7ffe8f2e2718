-- What the rows of a list keep as they come (Fits): a line that is kept leaves the rows as they were or adds one row that is the list's own and meets none of
-- them, and the list stays within its limit. Document 01, "Rows", the five lists alike. Assumes nothing.
use Prim.Native.Nat.{ℕ, suc, ◌≤◌, ◌<◌}
use mathlib.Core.Path.{◌≡◌, refl, sym, ap, ◌∙◌}
use mathlib.Core.Bool.{Bool, true, false, ◌&&◌, ◌||◌, not}
use mathlib.Core.Logic.{◌⊎◌, inl, inr}
use Rattle.std.specs.declared.option.Option.{Option}
use Rattle.std.specs.declared.option.Option.TheVariants.{None, Some}
use mathlib.Core.List.{List, [], ◌∷◌}
use native.Mathlib.Omega.{arith}
use lib.ListN.{length}
use lib.Dec.{eqb, ltb, leb}
use borrow.Author.Tests.{not-false, leb-true, leb-false, le-leb, eq-eqb, ne_eqb, lt-ltb, le-ltb}
use Rattle.lists.specs.Lists.{all, any, pairs}
use Rattle.lists.specs.Order.{sort, ascends, level}
use Rattle.lists.proofs.Bools.{and_parts, and_both}
use Rattle.lists.proofs.ListLaws.{all_nil, all_both, all_imply}
use Rattle.lists.proofs.PairLaws.{pairs_nil, pairs_neither, pairs_same}
use Rattle.lists.proofs.LexLaws.{Sides, less, equal, greater, sides, ltb_strict}
use Rattle.lists.proofs.SortLaws.{sort_length, sort_all, sort_ascends}
use Rattle.format.specs.Bytes.{Bytes, within}
use Rattle.format.specs.Labels.{ListOf}
use Rattle.format.specs.Rows.{Row, row_shape}
use Rattle.format.specs.Structure.{arity, most, ranged, group_ok, meets, clash, row_ok}
use Rattle.format.specs.Reading.{ordered}
use Rattle.sorted.specs.Steps.{After, kept, refused, if◌breaks◌else◌, joined_as, join_after, row_after, row_step}
use Rattle.sorted.specs.Regions.{Fits}
use Rattle.sorted.proofs.ShapeLaws.{fitting_arity, Shaped, row_shaped}

-- KEPT OR REFUSED
pub kept_same : {A : Type 0} (xs ys : List A) → kept xs ≡ kept ys → xs ≡ ys
kept_same xs ys e = cc

pub refused_kept : {A B : Type 0} (n : ℕ) (xs : List A) → refused n ≡ kept xs → B
refused_kept n xs e = let z : ◌≡◌ {A = ℕ} 0 1 = cc in absurd (omega arith)

-- what is kept passed the test
pub breaks_kept : {A : Type 0} (b : Bool) (n : ℕ) (next : After A) (xs : List A) → (if b breaks n else next) ≡ kept xs → (b ≡ false) × (next ≡ kept xs)
breaks_kept true n next xs e = refused_kept n xs e
breaks_kept false n next xs e = (refl, e)

-- NUMBERS IN ORDER: distinct ones ascend when they are sorted
level_eqb : (x y : ℕ) → level ltb x y ≡ eqb x y
level_eqb x y = go (sides x y)
  where
    go : Sides x y → level ltb x y ≡ eqb x y
    go (less h) = rw (lt-ltb x y h, ne_eqb x y (omega arith))
    go (equal h) = rw (le-ltb x y (omega arith), le-ltb y x (omega arith), eq-eqb x y h)
    go (greater h) = rw (le-ltb x y (omega arith), lt-ltb y x h, ne_eqb x y (omega arith))

pub sorted_ascends : (ns : List ℕ) → pairs eqb ns ≡ false → ascends ltb (sort ltb ns) ≡ true
sorted_ascends ns h = sort_ascends ltb ltb_strict ns (pairs_same (level ltb) eqb level_eqb ns ∙ h)

-- A ROW OF A LIST
pub record RowFits (l : ListOf) (n : ℕ) (r : Row) : Type 0 where
  pub range : ranged l r.value ≡ true
  pub grouping : group_ok l r.group ≡ true
  pub many : fitting_arity l r ≡ true
  pub listed : all (within 1 n) r.atoms ≡ true
  pub ascend : ascends ltb r.atoms ≡ true

module _ (l : ListOf) (n : ℕ) (r : Row) where
  pub row_fits_lem : row_ok l n r ≡ true → RowFits l n r
  unfolding row_ok
  row_fits_lem e =
      let a = and_parts (ranged l r.value) (group_ok l r.group && (fitting_arity l r && (all (within 1 n) r.atoms && ascends ltb r.atoms))) e in
      let b = and_parts (group_ok l r.group) (fitting_arity l r && (all (within 1 n) r.atoms && ascends ltb r.atoms)) a.1 in
      let c = and_parts (fitting_arity l r) (all (within 1 n) r.atoms && ascends ltb r.atoms) b.1 in
      let d = and_parts (all (within 1 n) r.atoms) (ascends ltb r.atoms) c.1 in
      record { range = a.0; grouping = b.0; many = c.0; listed = d.0; ascend = d.1 }

  pub fits_row : RowFits l n r → row_ok l n r ≡ true
  unfolding row_ok
  fits_row f = rw (f.range, f.grouping, f.many, f.listed, f.ascend)

-- a shape that passed its tests, its atoms put in order
pub ordered_fits : (l : ListOf) (n : ℕ) (r : Row) → Shaped l r → ranged l r.value ≡ true → all (within 1 n) r.atoms ≡ true → pairs eqb r.atoms ≡ false → row_ok l n (ordered r) ≡ true
ordered_fits l n r s a b c =
    fits_row l n (ordered r) (record {
      range = a;
      grouping = s.grouping;
      many = ap (λ (k : ℕ). eqb (arity l) 0 || eqb k (arity l)) (sort_length ltb r.atoms) ∙ s.many;
      listed = sort_all ltb (within 1 n) r.atoms ∙ b;
      ascend = sorted_ascends r.atoms c;
    })

-- ONE ATOM MORE
within_more : (n x : ℕ) → within 1 n x ≡ true → within 1 (suc n) x ≡ true
unfolding within
within_more n x h =
    let p = and_parts (leb 1 x) (leb x n) h in
    let q : x ≤ n = leb-true x n p.1 in
    and_both (leb 1 x) (leb x (suc n)) p.0 (le-leb x (suc n) (omega arith))

pub row_more : (l : ListOf) (n : ℕ) (r : Row) → row_ok l n r ≡ true → row_ok l (suc n) r ≡ true
row_more l n r h =
    let f = row_fits_lem l n r h in
    fits_row l (suc n) r (record { range = f.range; grouping = f.grouping; many = f.many; listed = all_imply (within 1 n) (within 1 (suc n)) (within_more n) r.atoms f.listed; ascend = f.ascend })

module _ (l : ListOf) (n : ℕ) where
  pub fits_nil : Fits l n []
  fits_nil = record { each = all_nil (row_ok l n); apart = pairs_nil (meets l) }

  pub fits_more : (rs : List Row) → Fits l n rs → Fits l (suc n) rs
  fits_more rs f = record { each = all_imply (row_ok l n) (row_ok l (suc n)) (row_more l n) rs f.each; apart = f.apart }

  pub fits_cons : (r : Row) (rs : List Row) → row_ok l n r ≡ true → any (meets l r) rs ≡ false → Fits l n rs → Fits l n (r ∷ rs)
  fits_cons r rs o m f = record { each = all_both (row_ok l n) r rs o f.each; apart = pairs_neither (meets l) r rs m f.apart }

-- A LINE THAT IS KEPT adds one row, or none
pub record Added (l : ListOf) (n : ℕ) (rs next : List Row) : Type 0 where
  pub new : Row
  pub is : next ≡ new ∷ rs
  pub fine : row_ok l n new ≡ true
  pub unmet : any (meets l new) rs ≡ false
  pub room : length rs < most l

module _ (l : ListOf) (n : ℕ) (rs next : List Row) where
  join_kept : (r : Row) → row_ok l n r ≡ true → join_after l rs r ≡ kept next → (next ≡ rs) ⊎ Added l n rs next
  unfolding join_after
  join_kept r o e = go (any (meets l r) rs) (leb (most l) (length rs)) refl refl (breaks_kept (any (clash l r) rs) 13 (joined_as (any (meets l r) rs) (leb (most l) (length rs)) rs r) next e).1
    where
      go : (a b : Bool) → any (meets l r) rs ≡ a → leb (most l) (length rs) ≡ b → joined_as a b rs r ≡ kept next → (next ≡ rs) ⊎ Added l n rs next
      go true b p q f = inl (sym (kept_same rs next f))
      go false true p q f = refused_kept 14 next f
      go false false p q f = inr (record { new = r; is = sym (kept_same (r ∷ rs) next f); fine = o; unmet = p; room = leb-false (most l) (length rs) q })

  row_kept : (r : Row) → Shaped l r → row_after l n rs (Some r) ≡ kept next → (next ≡ rs) ⊎ Added l n rs next
  unfolding row_after
  row_kept r s e =
      let o : Row = ordered r in
      let a = breaks_kept (not (ranged l r.value)) 10 (if not (all (within 1 n) r.atoms) breaks 11 else if pairs eqb r.atoms breaks 13 else join_after l rs o) next e in
      let b = breaks_kept (not (all (within 1 n) r.atoms)) 11 (if pairs eqb r.atoms breaks 13 else join_after l rs o) next a.1 in
      let c = breaks_kept (pairs eqb r.atoms) 13 (join_after l rs o) next b.1 in
      join_kept o (ordered_fits l n r s (not-false (ranged l r.value) a.0) (not-false (all (within 1 n) r.atoms) b.0) c.0) c.1

  pub step_kept : (fs : List Bytes) → row_step l n rs fs ≡ kept next → (next ≡ rs) ⊎ Added l n rs next
  unfolding row_step row_after
  step_kept [] e = inl (sym (kept_same rs next e))
  step_kept (f ∷ fs) e = go (row_shape l (f ∷ fs)) refl e
    where
      go : (o : Option Row) → row_shape l (f ∷ fs) ≡ o → row_after l n rs o ≡ kept next → (next ≡ rs) ⊎ Added l n rs next
      go None p q = refused_kept 9 next q
      go (Some r) p q = row_kept r (row_shaped l (f ∷ fs) r p) q

  pub fits_kept : (fs : List Bytes) → Fits l n rs → row_step l n rs fs ≡ kept next → Fits l n next
  fits_kept fs f e = go (step_kept fs e)
    where
      go : ((next ≡ rs) ⊎ Added l n rs next) → Fits l n next
      go (inl q) = rw q f
      go (inr g) = rw g.is (fits_cons l n g.new rs g.fine g.unmet f)

  pub kept_most : (fs : List Bytes) → length rs ≤ most l → row_step l n rs fs ≡ kept next → length next ≤ most l
  kept_most fs h e = go (step_kept fs e)
    where
      go : ((next ≡ rs) ⊎ Added l n rs next) → length next ≤ most l
      go (inl q) = omega (arith, ap length q)
      go (inr g) = omega (arith, ap length g.is, g.room)
