-- The lowest atoms of groups, bond by bond along the list: document 02, L1, "each group of atoms joined by S, D, T or Q bonds .. in order of their lowest atom".
-- Assumes nothing.
use Prim.Native.Nat.{ℕ, ◌-◌, ◌≤◌, ◌<◌, min}
use mathlib.Core.Path.{◌≡◌, refl, sym, ap, ◌∙◌, subst}
use mathlib.Core.Bool.{Bool, true, false, ◌||◌}
use mathlib.Core.Logic.{◌⊎◌, inl, inr}
use mathlib.Core.List.{List, [], ◌∷◌}
use native.Mathlib.Nat.{min-eq_left, min-eq_right}
use native.Mathlib.Omega.{arith}
use lib.ListN.{length, get_or}
use lib.Dec.{eqb, ltb, leb}
use borrow.Author.Tests.{eqb-true, eqb-false, eq-eqb, ne_eqb, ltb-true, leb-true, leb-false}
use Rattle.lists.specs.Lists.{all, count_up}
use Rattle.lists.specs.Order.{ascends}
use Rattle.lists.proofs.Bools.{torn, and_parts, or_left, or_right, or_neither}
use Rattle.lists.proofs.ListLaws.{all_parts}
use Rattle.lists.proofs.IndexLaws.{map_length, map_at, count_long, count_at_lem}
use Rattle.format.specs.Bytes.{within}
use Rattle.format.specs.Labels.{Bonds}
use Rattle.format.specs.Rows.{Row}
use Rattle.format.specs.Structure.{arity, row_ok, joins, united, lowest_of, joined_by, lowest}
use Rattle.format.proofs.ByteLaws.{within_true}
use Rattle.format.proofs.RowLaws.{row_fine_lem}

-- A BOND of a structure of n atoms: its two ends, the lower first
pub record Ends (n : ℕ) (r : Row) : Type 0 where
  pub x : ℕ
  pub y : ℕ
  pub atoms : r.atoms ≡ x ∷ y ∷ []
  pub low : 1 ≤ x
  pub rising : x < y
  pub high : y ≤ n

pub bond_ends : (n : ℕ) (r : Row) → row_ok Bonds n r ≡ true → Ends n r
unfolding arity ascends
bond_ends n r h = by r.atoms refl (row_fine_lem Bonds n r h).size (row_fine_lem Bonds n r h).listed (row_fine_lem Bonds n r h).ascending
  where
    size_two : (m : ℕ) → (eqb 2 0 || eqb m 2) ≡ true → m ≡ 2
    size_two m e = eqb-true m 2 e

    by : (l : List ℕ) → r.atoms ≡ l → (eqb 2 0 || eqb (length l) 2) ≡ true → all (within 1 n) l ≡ true → ascends ltb l ≡ true → Ends n r
    by [] e s f a = let q : length {A = ℕ} [] ≡ 2 = size_two (length {A = ℕ} []) s in absurd (omega (arith, q))
    by (x ∷ []) e s f a = let q : length (x ∷ []) ≡ 2 = size_two (length (x ∷ [])) s in absurd (omega (arith, q))
    by (x ∷ y ∷ []) e s f a =
        let p : (within 1 n x ≡ true) × (all (within 1 n) (y ∷ []) ≡ true) = all_parts (within 1 n) x (y ∷ []) f in
        let q : (within 1 n y ≡ true) × (all (within 1 n) [] ≡ true) = all_parts (within 1 n) y [] p.1 in
        record { x = x; y = y; atoms = e; low = (within_true 1 n x p.0).0; rising = ltb-true x y (and_parts (ltb x y) _ a).0; high = (within_true 1 n y q.0).1 }
    by (x ∷ y ∷ z ∷ l) e s f a = let q : length (x ∷ y ∷ z ∷ l) ≡ 2 = size_two (length (x ∷ y ∷ z ∷ l)) s in absurd (omega (arith, q))

-- TWO GROUPS UNITED: their atoms get the lower of their two, all others keep their own
abbrev pub lower : (a b l : ℕ) → ℕ
lower a b l = elim (eqb l a || eqb l b) [ true ↦ min a b | false ↦ l ]

pub lower_left : (a b l : ℕ) → l ≡ a → lower a b l ≡ min a b
lower_left a b l e = rw (or_left (eqb l a) (eqb l b) (eq-eqb l a e), lower) refl

pub lower_right : (a b l : ℕ) → l ≡ b → lower a b l ≡ min a b
lower_right a b l e = rw (or_right (eqb l a) (eqb l b) (eq-eqb l b e), lower) refl

pub lower_other : (a b l : ℕ) → (l ≡ a → ⊥) → (l ≡ b → ⊥) → lower a b l ≡ l
lower_other a b l p q = rw (or_neither (eqb l a) (eqb l b) (ne_eqb l a p) (ne_eqb l b q), lower) refl

pub lower_view : (a b l : ℕ) → ((l ≡ a) ⊎ (l ≡ b)) ⊎ (lower a b l ≡ l)
lower_view a b l = by (eqb l a) (eqb l b) refl refl
  where
    by : (p q : Bool) → eqb l a ≡ p → eqb l b ≡ q → ((l ≡ a) ⊎ (l ≡ b)) ⊎ (lower a b l ≡ l)
    by true q e f = inl (inl (eqb-true l a e))
    by false true e f = inl (inr (eqb-true l b f))
    by false false e f = inr (lower_other a b l (eqb-false l a e) (eqb-false l b f))

pub min_view : (a b : ℕ) → ((min a b ≡ a) × (a ≤ b)) ⊎ ((min a b ≡ b) × (b ≤ a))
min_view a b = by (leb a b) refl
  where
    by : (t : Bool) → leb a b ≡ t → ((min a b ≡ a) × (a ≤ b)) ⊎ ((min a b ≡ b) × (b ≤ a))
    by true e = inl (min-eq_left (leb-true a b e), leb-true a b e)
    by false e = let q : b < a = leb-false a b e in inr (min-eq_right (omega (arith, q)), omega (arith, q))

pub united_at : (a b : ℕ) (ls : List ℕ) (i : ℕ) → i < length ls → get_or (united a b ls) i 0 ≡ lower a b (get_or ls i 0)
united_at a b ls i h = map_at (lower a b) 0 0 ls i h

pub united_long : (a b : ℕ) (ls : List ℕ) → length (united a b ls) ≡ length ls
united_long a b ls = map_length (lower a b) ls

-- A BOND: one that does not join changes nothing, one that joins unites the groups of its ends
module _ (r : Row) (ls : List ℕ) where
  pub joined_not : joins r ≡ false → joined_by r ls ≡ ls
  joined_not e = rw (e, joined_by) refl

  pub joined_is : joins r ≡ true → joined_by r ls ≡ united (lowest_of ls (get_or r.atoms 0 0)) (lowest_of ls (get_or r.atoms 1 0)) ls
  joined_is e = rw (e, joined_by) refl

pub lowest_nil : (n : ℕ) → lowest n [] ≡ count_up 1 n
unfolding lowest
lowest_nil n = refl

pub lowest_cons : (n : ℕ) (r : Row) (rs : List Row) → lowest n (r ∷ rs) ≡ joined_by r (lowest n rs)
unfolding lowest
lowest_cons n r rs = refl

-- LOWEST ATOMS of n: one for each, none higher than its atom
pub record Lows (n : ℕ) (ls : List ℕ) : Type 0 where
  pub long : length ls ≡ n
  pub low : (a : ℕ) → 1 ≤ a → a ≤ n → 1 ≤ lowest_of ls a
  pub high : (a : ℕ) → 1 ≤ a → a ≤ n → lowest_of ls a ≤ a

lows_none : (n : ℕ) → Lows n (count_up 1 n)
lows_none n = record { long = count_long 1 n; low = λ a l h. omega (arith, own a l h); high = λ a l h. omega (arith, own a l h) }
  where
    own : (a : ℕ) → 1 ≤ a → a ≤ n → get_or (count_up 1 n) (a - 1) 0 ≡ a
    own a l h = count_at_lem 1 n (a - 1) (omega (arith, l, h)) ∙ omega (arith, l)

module _ (n : ℕ) (ls : List ℕ) (k : Lows n ls) (a b : ℕ) (Some : 1 ≤ min a b) where
  pub lower_at_lem : (c : ℕ) → 1 ≤ c → c ≤ n → lowest_of (united a b ls) c ≡ lower a b (lowest_of ls c)
  lower_at_lem c l h = united_at a b ls (c - 1) (omega (arith, l, h, k.long))

  not_above_lem : (c : ℕ) → 1 ≤ lowest_of ls c → (1 ≤ lower a b (lowest_of ls c)) × (lower a b (lowest_of ls c) ≤ lowest_of ls c)
  not_above_lem c l = by (lower_view a b (lowest_of ls c)) (min_view a b)
    where
      by : ((lowest_of ls c ≡ a) ⊎ (lowest_of ls c ≡ b)) ⊎ (lower a b (lowest_of ls c) ≡ lowest_of ls c) → ((min a b ≡ a) × (a ≤ b)) ⊎ ((min a b ≡ b) × (b ≤ a)) → (1 ≤ lower a b (lowest_of ls c)) × (lower a b (lowest_of ls c) ≤ lowest_of ls c)
      by (inl (inl e)) (inl q) = (omega (arith, Some, lower_left a b _ e), omega (arith, lower_left a b _ e, e, q.0))
      by (inl (inl e)) (inr q) = (omega (arith, Some, lower_left a b _ e), omega (arith, lower_left a b _ e, e, q.0, q.1))
      by (inl (inr e)) (inl q) = (omega (arith, Some, lower_right a b _ e), omega (arith, lower_right a b _ e, e, q.0, q.1))
      by (inl (inr e)) (inr q) = (omega (arith, Some, lower_right a b _ e), omega (arith, lower_right a b _ e, e, q.0))
      by (inr e) q = (omega (arith, e, l), omega (arith, e))

  lows_united : Lows n (united a b ls)
  lows_united = record {
    long = united_long a b ls ∙ k.long;
    low = λ c l h. omega (arith, lower_at_lem c l h, (not_above_lem c (k.low c l h)).0);
    high = λ c l h. omega (arith, lower_at_lem c l h, (not_above_lem c (k.low c l h)).1, k.high c l h);
  }

-- LEVEL: the ends of a bond that joins have the same lowest atom
abbrev pub Level : List ℕ → Row → Type 0
Level ls r = joins r ≡ true → lowest_of ls (get_or r.atoms 0 0) ≡ lowest_of ls (get_or r.atoms 1 0)

pub data Levels (ls : List ℕ) : List Row → Type 0 where
  None : Levels ls []
  more : (r : Row) (rs : List Row) → Level ls r → Levels ls rs → Levels ls (r ∷ rs)

-- what is known of the lowest atoms after some bonds, and after one more
pub record Known (n : ℕ) (rs : List Row) : Type 0 where
  pub lows : Lows n (lowest n rs)
  pub level : Levels (lowest n rs) rs

module _ (n a b : ℕ) (ls : List ℕ) (k : Lows n ls) (Some : 1 ≤ min a b) where
  ends_stay : (r : Row) → row_ok Bonds n r ≡ true → Level ls r → Level (united a b ls) r
  ends_stay r ok level e = by (bond_ends n r ok)
    where
      by : Ends n r → lowest_of (united a b ls) (get_or r.atoms 0 0) ≡ lowest_of (united a b ls) (get_or r.atoms 1 0)
      by d =
          let p : get_or r.atoms 0 0 ≡ d.x = ap (λ (l : List ℕ). get_or l 0 0) d.atoms in
          let q : get_or r.atoms 1 0 ≡ d.y = ap (λ (l : List ℕ). get_or l 1 0) d.atoms in
          let same : lowest_of ls d.x ≡ lowest_of ls d.y = ap (lowest_of ls) (sym p) ∙ level e ∙ ap (lowest_of ls) q in
          ap (lowest_of (united a b ls)) p ∙ lower_at_lem n ls k a b Some d.x d.low (omega (arith, d.rising, d.high)) ∙ ap (lower a b) same
          ∙ sym (lower_at_lem n ls k a b Some d.y (omega (arith, d.low, d.rising)) d.high) ∙ sym (ap (lowest_of (united a b ls)) q)

  levels_stay : {rs : List Row} → all (row_ok Bonds n) rs ≡ true → Levels ls rs → Levels (united a b ls) rs
  levels_stay ok None = None
  levels_stay ok (more r rs l m) = let p = all_parts (row_ok Bonds n) r rs ok in more r rs (ends_stay r p.0 l) (levels_stay p.1 m)

module _ (n : ℕ) (r : Row) (rs : List Row) (k : Known n rs) where
  abbrev old : List ℕ
  old = lowest n rs

  known_of : (ls : List ℕ) → lowest n (r ∷ rs) ≡ ls → Lows n ls → Levels ls (r ∷ rs) → Known n (r ∷ rs)
  known_of ls e lows level = record { lows = subst (Lows n) (sym e) lows; level = subst (λ (l : List ℕ). Levels l (r ∷ rs)) (sym e) level }

  known_not : joins r ≡ false → Known n (r ∷ rs)
  known_not e = known_of old (lowest_cons n r rs ∙ joined_not r old e) k.lows (more r rs (λ f. torn (joins r) f e) k.level)

  known_is : joins r ≡ true → row_ok Bonds n r ≡ true → all (row_ok Bonds n) rs ≡ true → Known n (r ∷ rs)
  known_is e ok oks = by (bond_ends n r ok)
    where
      by : Ends n r → Known n (r ∷ rs)
      by d =
          let a : ℕ = lowest_of old d.x in
          let b : ℕ = lowest_of old d.y in
          let x_high : d.x ≤ n = omega (arith, d.rising, d.high) in
          let y_low : 1 ≤ d.y = omega (arith, d.low, d.rising) in
          let Some : 1 ≤ min a b = omega (arith, k.lows.low d.x d.low x_high, k.lows.low d.y y_low d.high) in
          let p : get_or r.atoms 0 0 ≡ d.x = ap (λ (l : List ℕ). get_or l 0 0) d.atoms in
          let q : get_or r.atoms 1 0 ≡ d.y = ap (λ (l : List ℕ). get_or l 1 0) d.atoms in
          let is : lowest n (r ∷ rs) ≡ united a b old = lowest_cons n r rs ∙ joined_is r old e ∙ ap (λ (l : List ℕ). united (lowest_of old (get_or l 0 0)) (lowest_of old (get_or l 1 0)) old) d.atoms in
          let left : lowest_of (united a b old) d.x ≡ min a b = lower_at_lem n old k.lows a b Some d.x d.low x_high ∙ lower_left a b a refl in
          let right : lowest_of (united a b old) d.y ≡ min a b = lower_at_lem n old k.lows a b Some d.y y_low d.high ∙ lower_right a b b refl in
          let own : Level (united a b old) r = λ f. ap (lowest_of (united a b old)) p ∙ left ∙ sym (ap (lowest_of (united a b old)) q ∙ right) in
          known_of (united a b old) is (lows_united n old k.lows a b Some) (more r rs own (levels_stay n a b old k.lows Some oks k.level))

pub known : (n : ℕ) (rs : List Row) → all (row_ok Bonds n) rs ≡ true → Known n rs
known n [] h = record { lows = subst (Lows n) (sym (lowest_nil n)) (lows_none n); level = None }
known n (r ∷ rs) h = by (joins r) refl (all_parts (row_ok Bonds n) r rs h) (known n rs)
  where
    by : (t : Bool) → joins r ≡ t → (row_ok Bonds n r ≡ true) × (all (row_ok Bonds n) rs ≡ true) → (all (row_ok Bonds n) rs ≡ true → Known n rs) → Known n (r ∷ rs)
    by true e p ih = known_is n r rs (ih p.1) e p.0 p.1
    by false e p ih = known_not n r rs (ih p.1) e
