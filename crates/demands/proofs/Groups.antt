-- L1: two atoms have the same lowest atom exactly where a path of bonds that join leads from one to the other, bond by bond along the list; and each atom is in one
-- group, so that the totals over all groups are the atoms'. Document 02, L1. Assumes nothing.
use Prim.Native.Nat.{ℕ, zero, suc, ◌+◌, ◌-◌, ◌≤◌, ◌<◌, min}
use mathlib.Core.Path.{◌≡◌, refl, sym, ap, ◌∙◌, subst}
use mathlib.Core.Bool.{Bool, true, false, ◌&&◌, ◌||◌}
use mathlib.Core.Logic.{◌⊎◌, inl, inr}
use mathlib.Core.List.{List, [], ◌∷◌, map}
use native.Mathlib.Nat.{zero-add}
use native.Mathlib.Omega.{arith}
use lib.ListN.{length, get_or}
use lib.Dec.{eqb, ltb}
use borrow.Author.Tests.{eqb-true, eq-eqb, ne_eqb, ltb-true, ltb-false}
use Rattle.lists.specs.Lists.{all, flat, count_up, share}
use Rattle.lists.proofs.Bools.{torn, and_parts, and_both, or_left, or_other}
use Rattle.lists.proofs.ListLaws.{all_nil, all_parts, all_both, any_nil, any_same, any_hit, any_miss, any_later}
use Rattle.lists.proofs.PartLaws.{flat_nil, flat_cons}
use Rattle.lists.proofs.PairLaws.{bytes_equal, bytes_same}
use Rattle.lists.proofs.IndexLaws.{all_index, count_at_lem}
use Rattle.format.specs.Bytes.{within, same}
use Rattle.format.specs.Labels.{Bonds}
use Rattle.format.specs.Rows.{Row}
use Rattle.format.specs.Structure.{Isotope, Atom, Entry, entries_of, total, Structure, row_ok, joins, united, lowest_of, joined_by, lowest, group_of, groups}
use Rattle.format.proofs.ByteLaws.{within_is, within_true}
use Rattle.format.proofs.GroupLaws.{Ends, bond_ends, lower, lower_left, lower_right, lower_view, min_view, united_at, joined_not, joined_is, lowest_nil, lowest_cons, Lows, Level, Levels, None, more, known}
use Rattle.format.proofs.TotalLaws.{total_nil, total_append, entries_append}
use Rattle.demands.specs.Groups.{joining, joins_both, bonded, Joined, here, along}

-- PATHS: one behind another, back, with a bond more
turned : (k p q : Bool) → (k && (p || q)) ≡ (k && (q || p))
turned k true true = refl
turned k true false = refl
turned k false true = refl
turned k false false = refl

bonded_symm : (rs : List Row) (a b : ℕ) → bonded rs a b ≡ bonded rs b a
bonded_symm rs a b = any_same (joins_both a b) (joins_both b a) (λ r. turned (joining r) (same r.atoms (a ∷ b ∷ [])) (same r.atoms (b ∷ a ∷ []))) rs

pub path_join : (rs : List Row) {a b c : ℕ} → Joined rs a b → Joined rs b c → Joined rs a c
path_join rs (here a) q = q
path_join rs (along a b c e p) q = along a b _ e (path_join rs p q)

pub path_back : (rs : List Row) {a b : ℕ} → Joined rs a b → Joined rs b a
path_back rs (here a) = here a
path_back rs (along a b c e p) = path_join rs (path_back rs p) (along b a a (bonded_symm rs b a ∙ e) (here a))

module _ (r : Row) (rs : List Row) where
  path_more : {a b : ℕ} → Joined rs a b → Joined (r ∷ rs) a b
  path_more (here a) = here a
  path_more (along a b c e p) = along a b c (any_later (joins_both a b) r rs e) (path_more p)

-- A BOND leads from one of its ends to the other
abbrev pub Within : (n a : ℕ) → Type 0
Within n a = (1 ≤ a) × (a ≤ n)

abbrev pub Across : (n : ℕ) (ls : List ℕ) (a b : ℕ) → Type 0
Across n ls a b = Within n a × Within n b × (lowest_of ls a ≡ lowest_of ls b)

ends_across : (n : ℕ) (ls : List ℕ) (r : Row) → row_ok Bonds n r ≡ true → Level ls r → (a b : ℕ) → joins_both a b r ≡ true → Across n ls a b
ends_across n ls r ok level a b e = by (bond_ends n r ok) (same r.atoms (a ∷ b ∷ [])) refl
  where
    found : (joins r ≡ true) × ((same r.atoms (a ∷ b ∷ []) || same r.atoms (b ∷ a ∷ [])) ≡ true)
    found = and_parts (joins r) _ e

    pair : (c d : ℕ) → same r.atoms (c ∷ d ∷ []) ≡ true → Ends n r → Across n ls c d
    pair c d f k =
        let l : r.atoms ≡ c ∷ d ∷ [] = bytes_equal r.atoms (c ∷ d ∷ []) f in
        let p : c ≡ k.x = ap (λ (m : List ℕ). get_or m 0 0) (sym l ∙ k.atoms) in
        let q : d ≡ k.y = ap (λ (m : List ℕ). get_or m 1 0) (sym l ∙ k.atoms) in (
          (omega (arith, p, k.low), omega (arith, p, k.rising, k.high)),
          (omega (arith, q, k.low, k.rising), omega (arith, q, k.high)),
          ap (λ (m : List ℕ). lowest_of ls (get_or m 0 0)) (sym l) ∙ level found.0 ∙ ap (λ (m : List ℕ). lowest_of ls (get_or m 1 0)) l,
        )

    by : Ends n r → (t : Bool) → same r.atoms (a ∷ b ∷ []) ≡ t → Across n ls a b
    by k true f = pair a b f k
    by k false f = let c = pair b a (or_other (same r.atoms (a ∷ b ∷ [])) (same r.atoms (b ∷ a ∷ [])) found.1 f) k in (c.1, c.0, sym c.2)

across : (n : ℕ) (ls : List ℕ) {rs : List Row} → all (row_ok Bonds n) rs ≡ true → Levels ls rs → (a b : ℕ) → bonded rs a b ≡ true → Across n ls a b
across n ls ok None a b e = torn (bonded [] a b) e (any_nil (joins_both a b))
across n ls ok (more r rs l m) a b e = by (joins_both a b r) refl (all_parts (row_ok Bonds n) r rs ok) (λ h. across n ls h m a b)
  where
    by : (t : Bool) → joins_both a b r ≡ t → (row_ok Bonds n r ≡ true) × (all (row_ok Bonds n) rs ≡ true) → (all (row_ok Bonds n) rs ≡ true → bonded rs a b ≡ true → Across n ls a b) → Across n ls a b
    by true f p ih = ends_across n ls r p.0 l a b f
    by false f p ih = ih p.1 (sym (any_miss (joins_both a b) r rs f) ∙ e)

-- EACH ATOM REACHES its lowest one
abbrev Reach : (n : ℕ) (rs : List Row) (ls : List ℕ) → Type 0
Reach n rs ls = (a : ℕ) → 1 ≤ a → a ≤ n → Joined rs a (lowest_of ls a)

reach_none : (n : ℕ) → Reach n [] (count_up 1 n)
reach_none n a l h = let q : get_or (count_up 1 n) (a - 1) 0 ≡ a = count_at_lem 1 n (a - 1) (omega (arith, l, h)) ∙ omega (arith, l) in subst (λ (b : ℕ). Joined [] a b) (sym q) (here a)

module _ (n : ℕ) (r : Row) (rs : List Row) (lows : Lows n (lowest n rs)) (reach : Reach n rs (lowest n rs)) where
  abbrev old : ℕ → ℕ
  old a = lowest_of (lowest n rs) a

  reach_still : Reach n (r ∷ rs) (lowest n rs)
  reach_still a l h = path_more r rs (reach a l h)

  module _ (e : joins r ≡ true) (d : Ends n r) where
    abbrev x : ℕ
    x = d.x

    abbrev y : ℕ
    y = d.y

    abbrev m : ℕ
    m = min (old x) (old y)

    edge : bonded (r ∷ rs) x y ≡ true
    edge = any_hit (joins_both x y) r rs (and_both (joins r) _ e (or_left (same r.atoms (x ∷ y ∷ [])) _ (bytes_same r.atoms (x ∷ y ∷ []) d.atoms)))

    -- from one group's lowest to the other's, and so to the lower
    over : Joined (r ∷ rs) (old x) (old y)
    over =
        path_join (r ∷ rs) (path_back (r ∷ rs) (reach_still x d.low (omega (arith, d.rising, d.high))))
        (path_join (r ∷ rs) (along x y y edge (here y)) (reach_still y (omega (arith, d.low, d.rising)) d.high))

    left_down : Joined (r ∷ rs) (old x) m
    left_down = by (min_view (old x) (old y))
      where
        by : ((m ≡ old x) × (old x ≤ old y)) ⊎ ((m ≡ old y) × (old y ≤ old x)) → Joined (r ∷ rs) (old x) m
        by (inl q) = subst (λ (i : ℕ). Joined (r ∷ rs) (old x) i) (sym q.0) (here (old x))
        by (inr q) = subst (λ (i : ℕ). Joined (r ∷ rs) (old x) i) (sym q.0) over

    right_down : Joined (r ∷ rs) (old y) m
    right_down = path_join (r ∷ rs) (path_back (r ∷ rs) over) left_down

    reach_united : Reach n (r ∷ rs) (united (old x) (old y) (lowest n rs))
    reach_united a l h =
        subst (λ (i : ℕ). Joined (r ∷ rs) a i) (sym (united_at (old x) (old y) (lowest n rs) (a - 1) (omega (arith, l, h, lows.long))))
        (path_join (r ∷ rs) (reach_still a l h) (by (lower_view (old x) (old y) (old a))))
      where
        by : ((old a ≡ old x) ⊎ (old a ≡ old y)) ⊎ (lower (old x) (old y) (old a) ≡ old a) → Joined (r ∷ rs) (old a) (lower (old x) (old y) (old a))
        by (inl (inl q)) = subst (λ (i : ℕ). Joined (r ∷ rs) (old a) i) (sym (lower_left (old x) (old y) (old a) q)) (subst (λ (i : ℕ). Joined (r ∷ rs) i m) (sym q) left_down)
        by (inl (inr q)) = subst (λ (i : ℕ). Joined (r ∷ rs) (old a) i) (sym (lower_right (old x) (old y) (old a) q)) (subst (λ (i : ℕ). Joined (r ∷ rs) i m) (sym q) right_down)
        by (inr q) = subst (λ (i : ℕ). Joined (r ∷ rs) (old a) i) (sym q) (here (old a))

    joined_ends : joined_by r (lowest n rs) ≡ united (old x) (old y) (lowest n rs)
    joined_ends = joined_is r (lowest n rs) e ∙ ap (λ (l : List ℕ). united (old (get_or l 0 0)) (old (get_or l 1 0)) (lowest n rs)) d.atoms

reaches : (n : ℕ) (rs : List Row) → all (row_ok Bonds n) rs ≡ true → Reach n rs (lowest n rs)
reaches n [] h = subst (Reach n []) (sym (lowest_nil n)) (reach_none n)
reaches n (r ∷ rs) h = subst (Reach n (r ∷ rs)) (sym (lowest_cons n r rs)) (by (joins r) refl (all_parts (row_ok Bonds n) r rs h) (reaches n rs))
  where
    by : (t : Bool) → joins r ≡ t → (row_ok Bonds n r ≡ true) × (all (row_ok Bonds n) rs ≡ true) → (all (row_ok Bonds n) rs ≡ true → Reach n rs (lowest n rs)) → Reach n (r ∷ rs) (joined_by r (lowest n rs))
    by true e p ih =
        let d = bond_ends n r p.0 in
        let k = (known n rs p.1).lows in
        subst (Reach n (r ∷ rs)) (sym (joined_ends n r rs k (ih p.1) e d)) (reach_united n r rs k (ih p.1) e d)
    by false e p ih = subst (Reach n (r ∷ rs)) (sym (joined_not r (lowest n rs) e)) (λ a l g. path_more r rs (ih p.1 a l g))

-- WHAT THE BONDS LINK: each atom reaches its lowest one, and the ends of a bond have the same
pub record Linked (n : ℕ) (rs : List Row) : Type 0 where
  pub lows : Lows n (lowest n rs)
  pub reach : (a : ℕ) → 1 ≤ a → a ≤ n → Joined rs a (lowest_of (lowest n rs) a)
  pub step : (a b : ℕ) → bonded rs a b ≡ true → Across n (lowest n rs) a b

pub linked : (n : ℕ) (rs : List Row) → all (row_ok Bonds n) rs ≡ true → Linked n rs
linked n rs h = let k = known n rs h in record { lows = k.lows; reach = reaches n rs h; step = across n (lowest n rs) h k.level }

-- what a path joins has the same lowest atom
pub path_same : (n : ℕ) (rs : List Row) → Linked n rs → {a b : ℕ} → Joined rs a b → lowest_of (lowest n rs) a ≡ lowest_of (lowest n rs) b
path_same n rs k (here a) = refl
path_same n rs k (along a b c e p) = (k.step a b e).2 ∙ path_same n rs k p

pub path_within : (n : ℕ) (rs : List Row) → Linked n rs → {a b : ℕ} → Joined rs a b → (1 ≤ a) × (a ≤ n) → (1 ≤ b) × (b ≤ n)
path_within n rs k (here a) h = h
path_within n rs k (along a b c e p) h = path_within n rs k p (k.step a b e).1

-- EACH ATOM IS IN ONE GROUP: the sum of what the groups have is what the atoms have
abbrev sum_over : (ℕ → ℕ) → List ℕ → ℕ
sum_over f [] = 0
sum_over f (j ∷ js) = f j + sum_over f js

sum_same : (f g : ℕ → ℕ) → ((j : ℕ) → f j ≡ g j) → (js : List ℕ) → sum_over f js ≡ sum_over g js
sum_same f g e [] = refl
sum_same f g e (j ∷ js) = omega (arith, e j, sum_same f g e js)

sum_add : (f g : ℕ → ℕ) (js : List ℕ) → sum_over (λ j. f j + g j) js ≡ sum_over f js + sum_over g js
sum_add f g [] = refl
sum_add f g (j ∷ js) = omega (arith, sum_add f g js)

sum_none : (f : ℕ → ℕ) → ((j : ℕ) → f j ≡ 0) → (js : List ℕ) → sum_over f js ≡ 0
sum_none f e [] = refl
sum_none f e (j ∷ js) = omega (arith, e j, sum_none f e js)

-- one of some numbers that are counted up
one_before : (w l b n : ℕ) → l < b → sum_over (λ j. share (eqb j l) w) (count_up b n) ≡ 0
unfolding count_up
one_before w l b zero h = refl
one_before w l b (suc n) h =
    let q : share (eqb b l) w ≡ 0 = ap (λ (t : Bool). share t w) (ne_eqb b l (λ e. omega (arith, h, e))) in
    omega (arith, q, one_before w l (suc b) n (omega (arith, h)))

above : (c m : ℕ) → c ≤ m → (c ≡ m → ⊥) → suc c ≤ m
above c m f z = go (ltb c m) refl
  where
    go : (t : Bool) → ltb c m ≡ t → suc c ≤ m
    go true e = omega (arith, ltb-true c m e)
    go false e = absurd (z (omega (arith, f, ltb-false c m e)))

one_among : (w l b n : ℕ) → b ≤ l → l < b + n → sum_over (λ j. share (eqb j l) w) (count_up b n) ≡ w
unfolding count_up
one_among w l b zero h k = absurd (omega (arith, h, k))
one_among w l b (suc n) h k = by (eqb b l) refl (one_among w l (suc b) n)
  where
    by : (t : Bool) → eqb b l ≡ t → (suc b ≤ l → l < suc b + n → sum_over (λ j. share (eqb j l) w) (count_up (suc b) n) ≡ w) → share (eqb b l) w + sum_over (λ j. share (eqb j l) w) (count_up (suc b) n) ≡ w
    by true e ih =
        let q : share (eqb b l) w ≡ w = ap (λ (t : Bool). share t w) e in
        let z : b ≡ l = eqb-true b l e in
        omega (arith, q, one_before w l (suc b) n (omega (arith, z)))
    by false e ih =
        let q : share (eqb b l) w ≡ 0 = ap (λ (t : Bool). share t w) e in
        let z : (b ≡ l) → ⊥ = λ f. torn (eqb b l) (eq-eqb b l f) e in
        omega (arith, q, ih (above b l h z) (omega (arith, k)))

-- an atom stands in the group of its lowest one
group_nil : (j : ℕ) (rest : List Atom) → group_of j [] rest ≡ []
unfolding group_of
group_nil j rest = refl

pub group_cons : (j l : ℕ) (ls : List ℕ) (a : Atom) (rest : List Atom) {t : Bool} → eqb j l ≡ t → group_of j (l ∷ ls) (a ∷ rest) ≡ elim t as (λ (u : Bool). List Atom) [ true ↦ a ∷ group_of j ls rest | false ↦ group_of j ls rest ]
unfolding group_of
group_cons j l ls a rest e = ap (λ (t : Bool). elim t as (λ (u : Bool). List Atom) [ true ↦ a ∷ group_of j ls rest | false ↦ group_of j ls rest ]) e

module _ (i : Isotope) where
  abbrev weight : List Atom → ℕ
  weight g = total i (entries_of g)

  weight_nil : weight [] ≡ 0
  unfolding entries_of
  weight_nil = total_nil i

  weight_cons : (a : Atom) (g : List Atom) → weight (a ∷ g) ≡ weight (a ∷ []) + weight g
  weight_cons a g = ap (total i) (entries_append (a ∷ []) g) ∙ total_append i (entries_of (a ∷ [])) (entries_of g)

  group_weight : (j l : ℕ) (ls : List ℕ) (a : Atom) (rest : List Atom) → weight (group_of j (l ∷ ls) (a ∷ rest)) ≡ share (eqb j l) (weight (a ∷ [])) + weight (group_of j ls rest)
  group_weight j l ls a rest = by (eqb j l) refl
    where
      by : (t : Bool) → eqb j l ≡ t → weight (group_of j (l ∷ ls) (a ∷ rest)) ≡ share (eqb j l) (weight (a ∷ [])) + weight (group_of j ls rest)
      by true e = ap weight (group_cons j l ls a rest e) ∙ weight_cons a (group_of j ls rest) ∙ ap (λ (t : Bool). share t (weight (a ∷ [])) + weight (group_of j ls rest)) (sym e)
      by false e = ap weight (group_cons j l ls a rest e) ∙ sym (zero-add (weight (group_of j ls rest))) ∙ ap (λ (t : Bool). share t (weight (a ∷ [])) + weight (group_of j ls rest)) (sym e)

  groups_weigh : (n : ℕ) (ls : List ℕ) (l : List Atom) → length ls ≡ length l → all (within 1 n) ls ≡ true → sum_over (λ j. weight (group_of j ls l)) (count_up 1 n) ≡ weight l
  groups_weigh n [] [] e h = sum_none (λ j. weight (group_of j [] [])) (λ j. ap weight (group_nil j []) ∙ weight_nil) (count_up 1 n) ∙ sym weight_nil
  groups_weigh n [] (a ∷ rest) e h = absurd (omega (arith, e))
  groups_weigh n (l ∷ ls) [] e h = absurd (omega (arith, e))
  groups_weigh n (l ∷ ls) (a ∷ rest) e h =
      let p : (within 1 n l ≡ true) × (all (within 1 n) ls ≡ true) = all_parts (within 1 n) l ls h in
      let q : (1 ≤ l) × (l ≤ n) = within_true 1 n l p.0 in
      sum_same (λ j. weight (group_of j (l ∷ ls) (a ∷ rest))) (λ j. share (eqb j l) (weight (a ∷ [])) + weight (group_of j ls rest)) (λ j. group_weight j l ls a rest) (count_up 1 n)
      ∙ sum_add (λ j. share (eqb j l) (weight (a ∷ []))) (λ j. weight (group_of j ls rest)) (count_up 1 n)
      ∙ ap (λ (m : ℕ). m + sum_over (λ j. weight (group_of j ls rest)) (count_up 1 n)) (one_among (weight (a ∷ [])) l 1 n q.0 (omega (arith, q.1)))
      ∙ ap (λ (m : ℕ). weight (a ∷ []) + m) (groups_weigh n ls rest (omega (arith, e)) p.1) ∙ sym (weight_cons a rest)

  -- whatever has each group's totals has the atoms', taken together
  flat_weighs : (f : List Atom → List Entry) → ((g : List Atom) → total i (f g) ≡ weight g) → (ls : List ℕ) (l : List Atom) (js : List ℕ) → total i (flat f (map (λ j. group_of j ls l) js)) ≡ sum_over (λ j. weight (group_of j ls l)) js
  flat_weighs f e ls l [] = ap (total i) (flat_nil f) ∙ total_nil i
  flat_weighs f e ls l (j ∷ js) =
      ap (total i) (flat_cons f (group_of j ls l) (map (λ k. group_of k ls l) js)) ∙ total_append i (f (group_of j ls l)) (flat f (map (λ k. group_of k ls l) js))
      ∙ ap (λ (m : ℕ). m + total i (flat f (map (λ k. group_of k ls l) js))) (e (group_of j ls l)) ∙ ap (λ (m : ℕ). weight (group_of j ls l) + m) (flat_weighs f e ls l js)

-- each lowest atom is an atom
pub lowest_within : (n : ℕ) (rs : List Row) → Linked n rs → all (within 1 n) (lowest n rs) ≡ true
lowest_within n rs k = all_index (within 1 n) 0 (lowest n rs) at
  where
    at : (i : ℕ) → i < length (lowest n rs) → within 1 n (get_or (lowest n rs) i 0) ≡ true
    at i h =
        let m : i < n = omega (arith, h, k.lows.long) in
        let j : suc i - 1 ≡ i = omega arith in
        let q : lowest_of (lowest n rs) (suc i) ≡ get_or (lowest n rs) i 0 = ap (λ (x : ℕ). get_or (lowest n rs) x 0) j in
        within_is 1 n (get_or (lowest n rs) i 0) (omega (arith, q, k.lows.low (suc i) (omega arith) (omega (arith, m)))) (omega (arith, m, q, k.lows.high (suc i) (omega arith) (omega (arith, m))))

pub totals_together : (s : Structure) → Linked (length s.atoms) s.bonds → (f : List Atom → List Entry) → ((i : Isotope) (g : List Atom) → total i (f g) ≡ total i (entries_of g)) → (i : Isotope)
    → total i (flat f (groups s)) ≡ total i (entries_of s.atoms)
unfolding groups
totals_together s k f e i =
    let n : ℕ = length s.atoms in
    flat_weighs i f (e i) (lowest n s.bonds) s.atoms (count_up 1 n) ∙ groups_weigh i n (lowest n s.bonds) s.atoms k.lows.long (lowest_within n s.bonds k)

-- what all atoms pass all of a group pass, and a group has no more atoms than there are
group_all : (p : Atom → Bool) (j : ℕ) (ls : List ℕ) (l : List Atom) → all p l ≡ true → all p (group_of j ls l) ≡ true
unfolding group_of
group_all p j [] l h = all_nil p
group_all p j (m ∷ ls) [] h = all_nil p
group_all p j (m ∷ ls) (a ∷ rest) h = by (eqb j m) refl (all_parts p a rest h) (group_all p j ls rest)
  where
    by : (t : Bool) → eqb j m ≡ t → (p a ≡ true) × (all p rest ≡ true) → (all p rest ≡ true → all p (group_of j ls rest) ≡ true) → all p (group_of j (m ∷ ls) (a ∷ rest)) ≡ true
    by true e q ih = ap (all p) (group_cons j m ls a rest e) ∙ all_both p a (group_of j ls rest) q.0 (ih q.1)
    by false e q ih = ap (all p) (group_cons j m ls a rest e) ∙ ih q.1

group_few : (j : ℕ) (ls : List ℕ) (l : List Atom) → length (group_of j ls l) ≤ length l
unfolding group_of
group_few j [] l = omega arith
group_few j (m ∷ ls) [] = omega arith
group_few j (m ∷ ls) (a ∷ rest) = by (eqb j m) refl (group_few j ls rest)
  where
    by : (t : Bool) → eqb j m ≡ t → length (group_of j ls rest) ≤ length rest → length (group_of j (m ∷ ls) (a ∷ rest)) ≤ length (a ∷ rest)
    by true e ih = omega (arith, ap length (group_cons j m ls a rest e), ih)
    by false e ih = omega (arith, ap length (group_cons j m ls a rest e), ih)

abbrev pub FewOf : (p : Atom → Bool) → ℕ → List (List Atom) → Type 0
FewOf p n [] = Unit {0}
FewOf p n (g ∷ gs) = ((all p g ≡ true) × (length g ≤ n)) × FewOf p n gs

pub groups_few : (p : Atom → Bool) (s : Structure) → all p s.atoms ≡ true → FewOf p (length s.atoms) (groups s)
unfolding groups
groups_few p s h = each (count_up 1 (length s.atoms))
  where
    each : (js : List ℕ) → FewOf p (length s.atoms) (map (λ j. group_of j (lowest (length s.atoms) s.bonds) s.atoms) js)
    each [] = tt
    each (j ∷ js) = ((group_all p j (lowest (length s.atoms) s.bonds) s.atoms h, group_few j (lowest (length s.atoms) s.bonds) s.atoms), each js)
