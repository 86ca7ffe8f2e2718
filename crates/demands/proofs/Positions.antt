-- Every coordinate that a block gives is near: a row's values have at most six digits, a factor at most nine with at most nine behind its point. Document 02, L2.
-- Assumes nothing.
use Prim.Native.Nat.{ℕ, suc, ◌-◌, ◌^◌, ◌≤◌, ◌<◌}
use mathlib.Core.Path.{◌≡◌, refl, sym, ap, ◌∙◌}
use mathlib.Core.Bool.{Bool, true, false, ◌&&◌}
use Rattle.std.specs.declared.option.Option.{Option}
use Rattle.std.specs.declared.option.Option.TheVariants.{None, Some}
use mathlib.Core.List.{List, [], ◌∷◌, ◌++◌}
use native.Mathlib.Omega.{arith}
use lib.ListN.{length, take, drop, length-append, length-drop}
use lib.IntN.{ℤ, pos, neg_ℤ, nat_abs}
use lib.Dec.{eqb, leb}
use borrow.Author.Tests.{le-leb, leb-true}
use Rattle.lists.specs.Lists.{all, span, flat}
use Rattle.lists.proofs.Bools.{and_parts, and_both}
use Rattle.lists.proofs.ListLaws.{all_nil, all_one, all_parts, all_append_both}
use Rattle.lists.proofs.PartLaws.{flat_nil, flat_cons}
use Rattle.format.specs.Bytes.{Bytes, fields, strip}
use Rattle.format.specs.Labels.{XyzFactor, XyzRows, Xyz}
use Rattle.format.specs.Rows.{◌and_then◌, digits_of, number, natural, negative, signed, field, optional, nothing_more}
use Rattle.format.specs.Coordinates.{XyzRow, xyz_shape, Factor, factor, factor_shape, unpointed}
use Rattle.format.specs.Reading.{only_field}
use Rattle.format.proofs.NumberLaws.{number_bound, digits_of_bound}
use Rattle.format.proofs.CoordinateLaws.{abs_neg, coordinate_near}
use Rattle.demands.specs.Accepted.{listed, row_on, value_in, line_in, told_of, first_or, xyz_rows, factor_in}
use Rattle.demands.specs.Positions.{NearAt, AllNear}
use Rattle.demands.proofs.AcceptedSoundShapes.{none_some, some_same}

-- A SIGNED NUMBER of at most six digits
abbrev small : ℤ → Bool
small v = leb (nat_abs v) 999999

natural_small : (w : Bytes) (v : ℤ) → natural w ≡ Some v → small v ≡ true
unfolding natural
natural_small w v e = by (number w) refl e
  where
    by : (o : Option ℕ) → number w ≡ o → (o and_then λ n. Some (pos n)) ≡ Some v → small v ≡ true
    by None q h = none_some v h
    by (Some n) q h = ap small (sym (some_same (pos n) v h)) ∙ le-leb n 999999 (omega (arith, number_bound n w q))

negative_small : (w : Bytes) (v : ℤ) → negative w ≡ Some v → small v ≡ true
unfolding negative
negative_small w v e = by (number w) refl e
  where
    by : (o : Option ℕ) → number w ≡ o → (o and_then λ n. Some (neg_ℤ (pos n))) ≡ Some v → small v ≡ true
    by None q h = none_some v h
    by (Some n) q h = ap small (sym (some_same (neg_ℤ (pos n)) v h)) ∙ ap (λ (m : ℕ). leb m 999999) (abs_neg n) ∙ le-leb n 999999 (omega (arith, number_bound n w q))

signed_small : (w : Bytes) (v : ℤ) → signed w ≡ Some v → small v ≡ true
unfolding signed
signed_small [] v e = none_some v e
signed_small (b ∷ w) v e = by (eqb b 43) (eqb b 45) e
  where
    by : (p q : Bool) → elim p as (λ (t : Bool). Option ℤ) [ true ↦ natural w | false ↦ elim q as (λ (t : Bool). Option ℤ) [ true ↦ negative w | false ↦ natural (b ∷ w) ] ] ≡ Some v → small v ≡ true
    by true q h = natural_small w v h
    by false true h = negative_small w v h
    by false false h = natural_small (b ∷ w) v h

-- A ROW OF XYZ
abbrev small_row : XyzRow → Bool
small_row r = small r.x && (small r.y && small r.z)

row_small_lem : (fs : List Bytes) (r : XyzRow) → xyz_shape fs ≡ Some r → small_row r ≡ true
unfolding xyz_shape
row_small_lem fs r e = by (number (field 0 fs)) (signed (field 1 fs)) (signed (field 2 fs)) (signed (field 3 fs)) (optional nothing_more (drop 4 fs)) refl refl refl e
  where
    by : (a : Option ℕ) (b c d : Option ℤ) (o : Option ℕ) → signed (field 1 fs) ≡ b → signed (field 2 fs) ≡ c → signed (field 3 fs) ≡ d
        → (a and_then λ n. b and_then λ x. c and_then λ y. d and_then λ z. o and_then λ m. Some (record { atom = n; x = x; y = y; z = z })) ≡ Some r → small_row r ≡ true
    by None b c d o p q s h = none_some r h
    by (Some n) None c d o p q s h = none_some r h
    by (Some n) (Some x) None d o p q s h = none_some r h
    by (Some n) (Some x) (Some y) None o p q s h = none_some r h
    by (Some n) (Some x) (Some y) (Some z) None p q s h = none_some r h
    by (Some n) (Some x) (Some y) (Some z) (Some m) p q s h =
        ap small_row (sym (some_same (record { atom = n; x = x; y = y; z = z }) r h))
        ∙ and_both (small x) (small y && small z) (signed_small (field 1 fs) x p) (and_both (small y) (small z) (signed_small (field 2 fs) y q) (signed_small (field 3 fs) z s))

-- what every one that has a shape passes, all that a block lists pass
listed_all : {A : Type 0} (p : A → Bool) (o : Option A) → ((a : A) → o ≡ Some a → p a ≡ true) → all p (listed o) ≡ true
listed_all p None f = all_nil p
listed_all p (Some a) f = all_one p a ∙ f a refl

flat_all : {A B : Type 0} (p : B → Bool) (f : A → List B) → ((x : A) → all p (f x) ≡ true) → (xs : List A) → all p (flat f xs) ≡ true
flat_all p f h [] = ap (all p) (flat_nil f) ∙ all_nil p
flat_all p f h (x ∷ xs) = ap (all p) (flat_cons f x xs) ∙ all_append_both p (f x) (flat f xs) (h x) (flat_all p f h xs)

rows_small : (b : Bytes) → all small_row (xyz_rows b) ≡ true
rows_small b = flat_all small_row (λ l. row_on xyz_shape (fields (strip l))) (λ l. on (fields (strip l))) (flat (line_in (Xyz XyzRows)) (told_of b))
  where
    on : (fs : List Bytes) → all small_row (row_on xyz_shape fs) ≡ true
    on [] = all_nil small_row
    on (f ∷ fs) = listed_all small_row (xyz_shape (f ∷ fs)) (row_small_lem (f ∷ fs))

-- A FACTOR
abbrev small_factor : Factor → Bool
small_factor f = leb f.digits 999999999 && leb f.decimals 9

factor_small : (w : Bytes) (f : Factor) → factor_shape w ≡ Some f → small_factor f ≡ true
unfolding factor_shape
factor_small w f e = by (digits_of 9 (take n w ++ drop (suc n) w)) refl e
  where
    n : ℕ
    n = span unpointed w

    by : (o : Option ℕ) → digits_of 9 (take (span unpointed w) w ++ drop (suc (span unpointed w)) w) ≡ o → (o and_then λ m. Some (factor m (length w - suc (span unpointed w)))) ≡ Some f → small_factor f ≡ true
    by None q h = none_some f h
    by (Some m) q h =
        let j : ℕ = span unpointed w in
        let b : (0 < length (take j w ++ drop (suc j) w)) × (length (take j w ++ drop (suc j) w) ≤ 9) × (m < 10 ^ 9) = digits_of_bound 9 m (take j w ++ drop (suc j) w) q in
        ap small_factor (sym (some_same (factor m (length w - suc j)) f h))
        ∙ and_both (leb m 999999999) (leb (length w - suc j) 9) (le-leb m 999999999 (omega (arith, b.2))) (le-leb (length w - suc j) 9 (omega (arith, b.1, length-append (take j w) (drop (suc j) w), length-drop (suc j) w)))

first_small : (fs : List Factor) → all small_factor fs ≡ true → small_factor (first_or (factor 0 0) fs) ≡ true
first_small [] h = refl
first_small (f ∷ fs) h = (all_parts small_factor f fs h).0

scale_small : (b : Bytes) → small_factor (factor_in b) ≡ true
scale_small b =
    first_small _ (flat_all small_factor (λ v. listed (factor_shape (only_field (fields (strip v))))) (λ v. listed_all small_factor (factor_shape (only_field (fields (strip v)))) (factor_small (only_field (fields (strip v))))) (flat (value_in (Xyz XyzFactor)) (told_of b)))

-- EVERY COORDINATE
near_at : (f : Factor) (v : ℤ) → small_factor f ≡ true → small v ≡ true → NearAt f v
near_at f v g h =
    let p : (leb f.digits 999999999 ≡ true) × (leb f.decimals 9 ≡ true) = and_parts (leb f.digits 999999999) (leb f.decimals 9) g in
    coordinate_near f v (leb-true f.digits 999999999 p.0) (leb-true (nat_abs v) 999999 h) (leb-true f.decimals 9 p.1)

all_near : (f : Factor) (rs : List XyzRow) → small_factor f ≡ true → all small_row rs ≡ true → AllNear f rs
all_near f [] g h = tt
all_near f (r ∷ rs) g h =
    let p : (small_row r ≡ true) × (all small_row rs ≡ true) = all_parts small_row r rs h in
    let q : (small r.x ≡ true) × ((small r.y && small r.z) ≡ true) = and_parts (small r.x) (small r.y && small r.z) p.0 in
    let s : (small r.y ≡ true) × (small r.z ≡ true) = and_parts (small r.y) (small r.z) q.1 in
    ((near_at f r.x g q.0, near_at f r.y g s.0, near_at f r.z g s.1), all_near f rs g p.1)

pub positions_near : (b : Bytes) → AllNear (factor_in b) (xyz_rows b)
positions_near b = all_near (factor_in b) (xyz_rows b) (scale_small b) (rows_small b)
