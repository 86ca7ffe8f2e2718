-- What the shape of a row tells of its values: as many atoms as its list has, a value that its letters say, a group that its list takes. Document 01, "Rows":
-- "kind 1 to 5 for S, D, T, Q, A", "1 P or 2 M", "optional group `0`, A to Z or a to z (absent means 0)". Assumes nothing.
use Prim.Native.Nat.{ℕ, zero, suc, ◌+◌, ◌≤◌, ◌<◌}
use Prim.Native.String.{String}
use mathlib.Core.Path.{◌≡◌, refl, sym, ap, ◌∙◌}
use mathlib.Core.Bool.{Bool, true, false, ◌||◌}
use Rattle.std.specs.declared.option.Option.{Option}
use Rattle.std.specs.declared.option.Option.TheVariants.{None, Some}
use mathlib.Core.List.{List, [], ◌∷◌}
use native.Mathlib.Omega.{arith}
use lib.ListN.{length, drop}
use lib.IntN.{ℤ, pos}
use lib.Dec.{eqb}
use borrow.Author.Tests.{eq-eqb, le-leb}
use Rattle.lists.proofs.Bools.{or_left, or_right}
use Rattle.format.specs.Bytes.{Bytes, bytes, within, same}
use Rattle.format.specs.Labels.{ListOf, Bonds, Charges, Radicals, Centres, Pairs}
use Rattle.format.specs.Rows.{Row, row, ◌and_then◌, number, numbers, first_numbers, field, optional, nothing_more, upper, lower, group, place_in, marked, spread, signed, natural, row_shape}
use Rattle.format.specs.Structure.{arity, ranging, ranged, group_ok}

-- NOTHING OR SOMETHING
pub none_some : {A B : Type 0} (a : A) → None ≡ Some a → B
none_some a e = let z : ◌≡◌ {A = ℕ} 0 1 = cc in absurd (omega arith)

pub some_same : {A : Type 0} (a b : A) → Some a ≡ Some b → a ≡ b
some_same a b e = cc

-- the value in between
pub record Through {A B : Type 0} (o : Option A) (f : A → Option B) (b : B) : Type 0 where
  pub mid : A
  pub is : o ≡ Some mid
  pub on : f mid ≡ Some b

pub through : {A B : Type 0} (o : Option A) (f : A → Option B) (b : B) → (o and_then f) ≡ Some b → Through o f b
through None f b e = none_some b e
through (Some a) f b e = record { mid = a; is = refl; on = e }

-- WITHIN two bounds
pub within_both : (a b n : ℕ) → a ≤ n → n ≤ b → within a b n ≡ true
unfolding within
within_both a b n h k = rw (le-leb a n h, le-leb n b k)

-- ATOMS
pub first_length : (n : ℕ) (fs : List Bytes) (ns : List ℕ) → first_numbers n fs ≡ Some ns → length ns ≡ n
unfolding first_numbers
first_length zero fs ns e = ap length (sym (some_same [] ns e))
first_length (suc n) fs ns e =
    let p = through (number (field 0 fs)) (λ a. first_numbers n (drop 1 fs) and_then λ ms. Some (a ∷ ms)) ns e in
    let q = through (first_numbers n (drop 1 fs)) (λ ms. Some (p.mid ∷ ms)) ns p.on in
    ap length (sym (some_same (p.mid ∷ q.mid) ns q.on)) ∙ ap suc (first_length n (drop 1 fs) q.mid q.is)

-- LETTERS
module _ (w : Bytes) where
  place_here : (n b : ℕ) (bs : Bytes) → same w (b ∷ []) ≡ true → place_in n w (b ∷ bs) ≡ Some n
  unfolding place_in
  place_here n b bs e = rw (e, place_in)

  place_past : (n b : ℕ) (bs : Bytes) → same w (b ∷ []) ≡ false → place_in n w (b ∷ bs) ≡ place_in (suc n) w bs
  unfolding place_in
  place_past n b bs e = rw (e, place_in)

  place_nil : (n : ℕ) → place_in n w [] ≡ None
  unfolding place_in
  place_nil n = refl

  -- a letter's number is one of those that the letters have
  pub place_within : (n : ℕ) (bs : Bytes) (v : ℕ) → place_in n w bs ≡ Some v → (n ≤ v) × (v < n + length bs)
  place_within n [] v e = none_some v (sym (place_nil n) ∙ e)
  place_within n (b ∷ bs) v e = go (same w (b ∷ [])) refl (place_within (suc n) bs v)
    where
      go : (t : Bool) → same w (b ∷ []) ≡ t → (place_in (suc n) w bs ≡ Some v → (suc n ≤ v) × (v < suc n + length bs)) → (n ≤ v) × (v < n + length (b ∷ bs))
      go true f ih = let q : n ≡ v = some_same n v (sym (place_here n b bs f) ∙ e) in (omega arith, omega arith)
      go false f ih = let q : (suc n ≤ v) × (v < suc n + length bs) = ih (sym (place_past n b bs f) ∙ e) in (omega arith, omega arith)

-- GROUPS: the lists that have none, and those that have one
pub no_group : (fs : List Bytes) (g : ℕ) → optional nothing_more fs ≡ Some g → g ≡ 0
no_group [] g e = sym (some_same 0 g e)
no_group (f ∷ []) g e = none_some g e
no_group (f ∷ h ∷ fs) g e = none_some g e

abbrev pub grouped : ℕ → Bool
grouped g = eqb g 0 || (upper g || lower g)

group_zero : (b : ℕ) → eqb b 48 ≡ true → group (b ∷ []) ≡ Some 0
unfolding group
group_zero b e = rw (e, group)

group_letter : (b : ℕ) → eqb b 48 ≡ false → (upper b || lower b) ≡ true → group (b ∷ []) ≡ Some b
unfolding group
group_letter b e f = rw (e, f, group)

group_other : (b : ℕ) → eqb b 48 ≡ false → (upper b || lower b) ≡ false → group (b ∷ []) ≡ None
unfolding group
group_other b e f = rw (e, f, group)

zero_grouped : (g : ℕ) → 0 ≡ g → grouped g ≡ true
zero_grouped g e = or_left (eqb g 0) (upper g || lower g) (eq-eqb g 0 (sym e))

group_one : (b g : ℕ) → group (b ∷ []) ≡ Some g → grouped g ≡ true
group_one b g e = go (eqb b 48) (upper b || lower b) refl refl
  where
    go : (t u : Bool) → eqb b 48 ≡ t → (upper b || lower b) ≡ u → grouped g ≡ true
    go true u p q = zero_grouped g (some_same 0 g (sym (group_zero b p) ∙ e))
    go false true p q = or_right (eqb g 0) (upper g || lower g) (ap (λ (c : ℕ). upper c || lower c) (sym (some_same b g (sym (group_letter b p q) ∙ e))) ∙ q)
    go false false p q = none_some g (sym (group_other b p q) ∙ e)

pub a_group : (fs : List Bytes) (g : ℕ) → optional group fs ≡ Some g → grouped g ≡ true
unfolding group
a_group [] g e = zero_grouped g (some_same 0 g e)
a_group ([] ∷ []) g e = none_some g e
a_group ((b ∷ []) ∷ []) g e = group_one b g e
a_group ((b ∷ c ∷ w) ∷ []) g e = none_some g e
a_group (f ∷ h ∷ fs) g e = none_some g e

-- A ROW OF ATOMS AND A LETTER
pub record Marked (n from : ℕ) (letters : Bytes) (last : Bytes → Option ℕ) (fs : List Bytes) (r : Row) : Type 0 where
  pub value : ℕ
  pub is : r.value ≡ pos value
  pub many : length r.atoms ≡ n
  pub low : from ≤ value
  pub high : value < from + length letters
  pub ends : optional last (drop (suc n) fs) ≡ Some r.group

marked_of : (n from : ℕ) (letters : Bytes) (last : Bytes → Option ℕ) (fs : List Bytes) (r : Row) (ns : List ℕ) (v g : ℕ) → row ns (pos v) g ≡ r
    → length ns ≡ n → (from ≤ v) × (v < from + length letters) → optional last (drop (suc n) fs) ≡ Some g → Marked n from letters last fs r
marked_of n from letters last fs r ns v g t a w e =
    record {
      value = v;
      is = ap (λ (x : Row). x.value) (sym t);
      many = ap (λ (x : Row). length x.atoms) (sym t) ∙ a;
      low = w.0;
      high = w.1;
      ends = e ∙ ap (λ (x : Row). Some x.group) t;
    }

pub marked_parts : (n from : ℕ) (letters : String) (last : Bytes → Option ℕ) (fs : List Bytes) (r : Row) → marked n from letters last fs ≡ Some r → Marked n from (bytes letters) last fs r
unfolding marked
marked_parts n from letters last fs r e =
    let p = through (first_numbers n fs) (λ ns. place_in from (field n fs) (bytes letters) and_then λ v. optional last (drop (suc n) fs) and_then λ g. Some (row ns (pos v) g)) r e in
    let q = through (place_in from (field n fs) (bytes letters)) (λ v. optional last (drop (suc n) fs) and_then λ g. Some (row p.mid (pos v) g)) r p.on in
    let s = through (optional last (drop (suc n) fs)) (λ g. Some (row p.mid (pos q.mid) g)) r q.on in
    marked_of n from (bytes letters) last fs r p.mid q.mid s.mid (some_same (row p.mid (pos q.mid) s.mid) r s.on)
    (first_length n fs p.mid p.is) (place_within (field n fs) from (bytes letters) q.mid q.is) s.is

pub spread_group : (value : Bytes → Option ℤ) (fs : List Bytes) (r : Row) → spread value fs ≡ Some r → r.group ≡ 0
unfolding spread
spread_group value fs r e =
    let p = through (value (field 0 fs)) (λ v. numbers (drop 1 fs) and_then λ ns. Some (row ns v 0)) r e in
    let q = through (numbers (drop 1 fs)) (λ ns. Some (row ns p.mid 0)) r p.on in
    ap (λ (x : Row). x.group) (sym (some_same (row q.mid p.mid 0) r q.on))

-- EACH LIST
abbrev pub fitting_arity : ListOf → Row → Bool
fitting_arity l r = eqb (arity l) 0 || eqb (length r.atoms) (arity l)

pub record Shaped (l : ListOf) (r : Row) : Type 0 where
  pub grouping : group_ok l r.group ≡ true
  pub many : fitting_arity l r ≡ true

pub row_shaped : (l : ListOf) (fs : List Bytes) (r : Row) → row_shape l fs ≡ Some r → Shaped l r
unfolding row_shape group_ok arity
row_shaped Bonds fs r e =
    let m = marked_parts 2 1 "SDTQA" nothing_more fs r e in
    record { grouping = or_left (eqb r.group 0) false (eq-eqb r.group 0 (no_group (drop 3 fs) r.group m.ends)); many = eq-eqb (length r.atoms) 2 m.many }
row_shaped Charges fs r e = record { grouping = or_left (eqb r.group 0) false (eq-eqb r.group 0 (spread_group signed fs r e)); many = refl }
row_shaped Radicals fs r e = record { grouping = or_left (eqb r.group 0) false (eq-eqb r.group 0 (spread_group natural fs r e)); many = refl }
row_shaped Centres fs r e =
    let m = marked_parts 1 1 "PM" group fs r e in
    record { grouping = a_group (drop 2 fs) r.group m.ends; many = eq-eqb (length r.atoms) 1 m.many }
row_shaped Pairs fs r e =
    let m = marked_parts 2 0 "0PM" group fs r e in
    record { grouping = a_group (drop 3 fs) r.group m.ends; many = eq-eqb (length r.atoms) 2 m.many }

ranging_pos : (a b n : ℕ) (v : ℤ) → v ≡ pos n → a ≤ n → n ≤ b → ranging a b v ≡ true
unfolding ranging
ranging_pos a b n v e h k = ap (ranging a b) e ∙ within_both a b n h k

-- a letter's value is in its list's range: such a row is never refused 10
pub bond_ranged : (fs : List Bytes) (r : Row) → row_shape Bonds fs ≡ Some r → ranged Bonds r.value ≡ true
unfolding row_shape ranged bytes
bond_ranged fs r e = let m = marked_parts 2 1 "SDTQA" nothing_more fs r e in ranging_pos 1 5 m.value r.value m.is m.low (omega (arith, m.high))

pub centre_ranged : (fs : List Bytes) (r : Row) → row_shape Centres fs ≡ Some r → ranged Centres r.value ≡ true
unfolding row_shape ranged bytes
centre_ranged fs r e = let m = marked_parts 1 1 "PM" group fs r e in ranging_pos 1 2 m.value r.value m.is m.low (omega (arith, m.high))

pub pair_ranged : (fs : List Bytes) (r : Row) → row_shape Pairs fs ≡ Some r → ranged Pairs r.value ≡ true
unfolding row_shape ranged bytes
pair_ranged fs r e = let m = marked_parts 2 0 "0PM" group fs r e in ranging_pos 0 2 m.value r.value m.is m.low (omega (arith, m.high))
