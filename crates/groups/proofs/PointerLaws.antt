-- One pointer moved: on to where the next one points, or from a lowest atom to a lower one. Document 02, L1. Over plain lists. Assumes nothing.
use Prim.Native.Nat.{ℕ, suc, ◌+◌, ◌≤◌, ◌<◌, min}
use mathlib.Core.Path.{◌≡◌, refl, sym, ap, ap₂, ◌∙◌, subst}
use mathlib.Core.Bool.{Bool, true, false}
use mathlib.Core.List.{List, [], ◌∷◌, map}
use native.Mathlib.Nat.{min-eq_left}
use native.Mathlib.Omega.{arith}
use lib.ListN.{length, get_or, set, length-set}
use lib.Seq.{ext_get_or, get_or-set_same, get_or-set_other}
use lib.Dec.{eqb, ltb}
use borrow.Author.Tests.{eqb-true, eqb-false, lt-ltb}
use Rattle.lists.specs.Lists.{all, count_up}
use Rattle.lists.proofs.IndexLaws.{all_index, map_length, map_at, count_long, count_at_lem}
use Rattle.format.specs.Structure.{united}
use Rattle.format.proofs.GroupLaws.{lower, lower_left, lower_right, lower_other, united_at, united_long}
use Rattle.groups.specs.Pointers.{Pointing, Leads, Found, Joins}

-- A POINTER MOVED: what holds of the new one and of the others holds of all
module _ (ps : List ℕ) (i q : ℕ) (in_it : i < length ps) where
  moved_each : (P : ℕ → ℕ → Type 0) → P i q → ((j : ℕ) → j < length ps → (j ≡ i → ⊥) → P j (get_or ps j 0)) → (j : ℕ) → j < length (set ps i q) → P j (get_or (set ps i q) j 0)
  moved_each P here other j b = by (eqb j i) refl
    where
      by : (t : Bool) → eqb j i ≡ t → P j (get_or (set ps i q) j 0)
      by true e = subst (λ (m : ℕ). P m (get_or (set ps i q) m 0)) (sym (eqb-true j i e)) (subst (P i) (sym (get_or-set_same ps i q 0 in_it)) here)
      by false e = subst (P j) (sym (get_or-set_other ps i j q 0 (eqb-false j i e))) (other j (omega (arith, b, length-set ps i q)) (eqb-false j i e))

  pub pointing_moved : Pointing ps → q ≤ i → Pointing (set ps i q)
  pointing_moved pointing h = moved_each (λ j p. p ≤ j) h (λ j b n. pointing j b)

-- A PATH HALVED: the atom points to where the one that it pointed to does
module _ (ls ps : List ℕ) (pointing : Pointing ps) (leads : Leads ls ps) where
  pub halved : (i up over : ℕ) → i < length ps → up ≡ get_or ps i 0 → over ≡ get_or ps up 0 → Leads ls (set ps i over)
  halved i up over h e f =
      let up_low : up ≤ i = omega (arith, e, pointing i h) in
      let up_in : up < length ps = omega arith in
      let over_low : over ≤ up = omega (arith, f, pointing up up_in) in
      let over_same : get_or ls over 0 ≡ get_or ls i 0 = ap (λ (m : ℕ). get_or ls m 0) f ∙ leads.same up up_in ∙ ap (λ (m : ℕ). get_or ls m 0) e ∙ leads.same i h in
      record {
        long = leads.long ∙ sym (length-set ps i over);
        same = moved_each ps i over h (λ j p. get_or ls p 0 ≡ get_or ls j 0) over_same (λ j b n. leads.same j b);
        own = moved_each ps i over h (λ j p. p ≡ j → get_or ls j 0 ≡ suc j) (λ g. leads.own i h (sym e ∙ omega (arith, g, up_low, over_low))) (λ j b n. leads.own j b);
      }

  -- the path's end
  pub path_end : (atom at up : ℕ) → at < length ps → get_or ls at 0 ≡ get_or ls atom 0 → up ≡ get_or ps at 0 → at ≤ up → (suc at ≡ get_or ls atom 0) × (get_or ls at 0 ≡ suc at)
  path_end atom at up h e f g =
      let q : get_or ls at 0 ≡ suc at = leads.own at h (omega (arith, f, g, pointing at h)) in
      (sym q ∙ e, q)

  pub path_on : (atom at up over : ℕ) → at < length ps → get_or ls at 0 ≡ get_or ls atom 0 → up ≡ get_or ps at 0 → over ≡ get_or ps up 0 → get_or ls over 0 ≡ get_or ls atom 0
  path_on atom at up over h e f g =
      let up_in : up < length ps = omega (arith, f, h, pointing at h) in
      ap (λ (m : ℕ). get_or ls m 0) g ∙ leads.same up up_in ∙ ap (λ (m : ℕ). get_or ls m 0) f ∙ leads.same at h ∙ e

-- TWO GROUPS UNITED: of a group with itself nothing changes
lower_alone : (a l : ℕ) → lower a a l ≡ l
lower_alone a l = by (eqb l a) refl
  where
    by : (t : Bool) → eqb l a ≡ t → lower a a l ≡ l
    by true e = let q : l ≡ a = eqb-true l a e in lower_left a a l q ∙ min-eq_left (omega arith) ∙ sym q
    by false e = lower_other a a l (eqb-false l a e) (eqb-false l a e)

pub united_alone : (a : ℕ) (ls : List ℕ) → united a a ls ≡ ls
united_alone a [] = refl
united_alone a (l ∷ ls) = ap₂ (λ (m : ℕ) (ms : List ℕ). m ∷ ms) (lower_alone a l) (united_alone a ls)

-- and which is named first does not matter
lower_turned : (a b l : ℕ) → lower a b l ≡ lower b a l
lower_turned a b l = by (eqb l a) (eqb l b) refl refl
  where
    turned : min a b ≡ min b a
    turned = omega arith

    by : (s t : Bool) → eqb l a ≡ s → eqb l b ≡ t → lower a b l ≡ lower b a l
    by true t e f = lower_left a b l (eqb-true l a e) ∙ turned ∙ sym (lower_right b a l (eqb-true l a e))
    by false true e f = lower_right a b l (eqb-true l b f) ∙ turned ∙ sym (lower_left b a l (eqb-true l b f))
    by false false e f = lower_other a b l (eqb-false l a e) (eqb-false l b f) ∙ sym (lower_other b a l (eqb-false l b f) (eqb-false l a e))

pub united_turned : (a b : ℕ) (ls : List ℕ) → united a b ls ≡ united b a ls
united_turned a b [] = refl
united_turned a b (l ∷ ls) = ap₂ (λ (m : ℕ) (ms : List ℕ). m ∷ ms) (lower_turned a b l) (united_turned a b ls)

-- A LOWEST ATOM POINTS TO A LOWER ONE: their groups are united
module _ (ls ps : List ℕ) (pointing : Pointing ps) (leads : Leads ls ps) (a b : ℕ) (below : a < b) (in_it : b < length ps) (first : get_or ls a 0 ≡ suc a) (second : get_or ls b 0 ≡ suc b) where
  at_united : (j : ℕ) → j < length ps → get_or (united (suc a) (suc b) ls) j 0 ≡ lower (suc a) (suc b) (get_or ls j 0)
  at_united j h = united_at (suc a) (suc b) ls j (omega (arith, h, leads.long))

  lowest_is : min (suc a) (suc b) ≡ suc a
  lowest_is = min-eq_left (omega arith)

  still_own : (j : ℕ) → (j ≡ b → ⊥) → lower (suc a) (suc b) (suc j) ≡ suc j
  still_own j n = by (eqb (suc j) (suc a)) refl
    where
      by : (t : Bool) → eqb (suc j) (suc a) ≡ t → lower (suc a) (suc b) (suc j) ≡ suc j
      by true e = let q : suc j ≡ suc a = eqb-true (suc j) (suc a) e in lower_left (suc a) (suc b) (suc j) q ∙ lowest_is ∙ sym q
      by false e = lower_other (suc a) (suc b) (suc j) (eqb-false (suc j) (suc a) e) (λ q. n (omega arith))

  pub linked : Leads (united (suc a) (suc b) ls) (set ps b a)
  linked = record {
    long = united_long (suc a) (suc b) ls ∙ leads.long ∙ sym (length-set ps b a);
    same = moved_each ps b a in_it (λ j p. get_or (united (suc a) (suc b) ls) p 0 ≡ get_or (united (suc a) (suc b) ls) j 0)
        (at_united a (omega arith) ∙ lower_left (suc a) (suc b) (get_or ls a 0) first ∙ sym (at_united b in_it ∙ lower_right (suc a) (suc b) (get_or ls b 0) second))
        (λ j h n. at_united (get_or ps j 0) (omega (arith, h, pointing j h)) ∙ ap (lower (suc a) (suc b)) (leads.same j h) ∙ sym (at_united j h));
    own = moved_each ps b a in_it (λ j p. p ≡ j → get_or (united (suc a) (suc b) ls) j 0 ≡ suc j) (λ e. absurd (omega arith))
        (λ j h n e. at_united j h ∙ ap (lower (suc a) (suc b)) (leads.own j h e) ∙ still_own j n);
  }

-- EACH ATOM BY ITSELF
module _ (n : ℕ) where
  pub alone_pointing : Pointing (count_up 0 n)
  alone_pointing i h = let e : i < n = omega (arith, h, count_long 0 n) in omega (arith, count_at_lem 0 n i e)

  pub alone_leads : Leads (count_up 1 n) (count_up 0 n)
  alone_leads = record {
    long = count_long 1 n ∙ sym (count_long 0 n);
    same = λ i h. let e : i < n = omega (arith, h, count_long 0 n) in let q : get_or (count_up 0 n) i 0 ≡ i = count_at_lem 0 n i e ∙ omega arith in ap (λ (m : ℕ). get_or (count_up 1 n) m 0) q;
    own = λ i h e. let b : i < n = omega (arith, h, count_long 0 n) in count_at_lem 1 n i b ∙ omega arith;
  }

-- numbered in order
pub alone_all : (ps : List ℕ) (i n : ℕ) → length ps ≤ i → length ps ≡ n → ((j : ℕ) → j < i → get_or ps j 0 ≡ j) → ps ≡ count_up 0 n
alone_all ps i n h e each = ext_get_or 0 ps (count_up 0 n) (e ∙ sym (count_long 0 n)) (λ j b. each j (omega arith) ∙ sym (count_at_lem 0 n j (omega arith) ∙ omega arith))

-- IN THE END each atom points to the lowest of its group: done up to j, the others as they were
pub record Settled (ps₀ : List ℕ) (j : ℕ) (ps : List ℕ) : Type 0 where
  pub long : length ps ≡ length ps₀
  pub done : (ls : List ℕ) → Leads ls ps₀ → (i : ℕ) → i < j → suc (get_or ps i 0) ≡ get_or ls i 0
  pub rest : (i : ℕ) → j ≤ i → get_or ps i 0 ≡ get_or ps₀ i 0

module _ (ps₀ ps : List ℕ) (pointing : Pointing ps₀) (j : ℕ) (h : j < length ps) (s : Settled ps₀ j ps) (up v : ℕ) (e : up ≡ get_or ps j 0) (f : v ≡ get_or ps up 0) where
  own_pointer : up ≡ get_or ps₀ j 0
  own_pointer = e ∙ s.rest j (omega arith)

  not_above_lem : up ≤ j
  not_above_lem = omega (arith, own_pointer, pointing j (omega (arith, h, s.long)))

  lowest_there : (ls : List ℕ) → Leads ls ps₀ → suc v ≡ get_or ls j 0
  lowest_there ls leads = by (eqb up j) refl
    where
      in_it : j < length ps₀
      in_it = omega (arith, h, s.long)

      by : (t : Bool) → eqb up j ≡ t → suc v ≡ get_or ls j 0
      by true g =
          let q : up ≡ j = eqb-true up j g in
          let w : v ≡ j = f ∙ ap (λ (m : ℕ). get_or ps m 0) q ∙ sym e ∙ q in
          ap suc w ∙ sym (leads.own j in_it (sym own_pointer ∙ q))
      by false g =
          let q : up < j = omega (arith, not_above_lem, eqb-false up j g) in
          ap suc f ∙ s.done ls leads up q ∙ ap (λ (m : ℕ). get_or ls m 0) own_pointer ∙ leads.same j in_it

  pub up_in : up < length ps
  up_in = omega (arith, not_above_lem, h)

  pub settled_more : Settled ps₀ (j + 1) (set ps j v)
  settled_more = record {
    long = length-set ps j v ∙ s.long;
    done = λ ls leads i b. by ls leads i b (eqb i j) refl;
    rest = λ i b. get_or-set_other ps j i v 0 (λ q. omega (arith, q, b)) ∙ s.rest i (omega arith);
  }
    where
      by : (ls : List ℕ) → Leads ls ps₀ → (i : ℕ) → i < j + 1 → (t : Bool) → eqb i j ≡ t → suc (get_or (set ps j v) i 0) ≡ get_or ls i 0
      by ls leads i b true g =
          let q : i ≡ j = eqb-true i j g in
          ap (λ (m : ℕ). suc (get_or (set ps j v) m 0)) q ∙ ap suc (get_or-set_same ps j v 0 h) ∙ lowest_there ls leads ∙ ap (λ (m : ℕ). get_or ls m 0) (sym q)
      by ls leads i b false g = ap suc (get_or-set_other ps j i v 0 (eqb-false i j g)) ∙ s.done ls leads i (omega (arith, b, eqb-false i j g))

  pub settled_low : Pointing ps → Pointing (set ps j v)
  settled_low low = pointing_moved ps j v h low (omega (arith, f, not_above_lem, low up up_in))

-- none is above
pub pointing_all : (ps : List ℕ) → Pointing ps → all (λ l. ltb l (length ps)) ps ≡ true
pointing_all ps low = all_index (λ l. ltb l (length ps)) 0 ps (λ i h. lt-ltb (get_or ps i 0) (length ps) (omega (arith, h, low i h)))

pub settled_all : (ps₀ ps : List ℕ) (j : ℕ) → length ps ≤ j → Settled ps₀ j ps → (ls : List ℕ) → Leads ls ps₀ → map suc ps ≡ ls
settled_all ps₀ ps j h s ls leads =
    ext_get_or 0 (map suc ps) ls (map_length suc ps ∙ s.long ∙ sym leads.long)
    (λ i b. let c : i < length ps = omega (arith, b, map_length suc ps) in map_at suc 0 0 ps i c ∙ s.done ls leads i (omega arith))

-- A PATH FOLLOWED: where it has come to, and what the pointers then say
pub record Following (ps₀ : List ℕ) (atom : ℕ) (ps : List ℕ) (at up : ℕ) : Type 0 where
  pub long : length ps ≡ length ps₀
  pub pointing : Pointing ps
  pub in_it : at < length ps
  pub here : up ≡ get_or ps at 0
  pub leads : (ls : List ℕ) → Leads ls ps₀ → Leads ls ps × (get_or ls at 0 ≡ get_or ls atom 0)

module _ (ps₀ : List ℕ) (atom : ℕ) (ps : List ℕ) (at up : ℕ) (f : Following ps₀ atom ps at up) where
  module _ (on : up < at) (over : ℕ) (e : over ≡ get_or ps up 0) where
    pub over_low : over < at
    over_low = omega (arith, e, on, f.in_it, f.pointing up (omega (arith, on, f.in_it)))

    pub in_it_still : over < length (set ps at over)
    in_it_still = omega (arith, over_low, f.in_it, length-set ps at over)

    pub follow_on : (next : ℕ) → next ≡ get_or (set ps at over) over 0 → Following ps₀ atom (set ps at over) over next
    follow_on next g = record {
      long = length-set ps at over ∙ f.long;
      pointing = pointing_moved ps at over f.in_it f.pointing (omega (arith, over_low));
      in_it = in_it_still;
      here = g;
      leads = λ ls leads. let was = f.leads ls leads in (halved ls ps f.pointing was.0 at up over f.in_it f.here e, path_on ls ps f.pointing was.0 atom at up over f.in_it was.1 f.here e);
    }

  pub follow_end : at ≤ up → Found ps₀ atom ps at
  follow_end h =
      ((f.long, f.pointing), omega (arith, f.in_it, f.long), λ ls leads. let was = f.leads ls leads in let end = path_end ls ps f.pointing was.0 atom at up f.in_it was.1 f.here h in (was.0, end.0, end.1))

-- TWO ATOMS' LOWEST ONES FOUND, and the higher of them pointed to the lower
module _ (ps : List ℕ) (first : ℕ) (qs : List ℕ) (a second : ℕ) (rs : List ℕ) (b : ℕ) (f : Found ps first qs a) (g : Found qs second rs b) where
  abbrev Both : List ℕ → Type 0
  Both ls = Leads ls rs × (suc a ≡ get_or ls first 0) × (get_or ls a 0 ≡ suc a) × (suc b ≡ get_or ls second 0) × (get_or ls b 0 ≡ suc b)

  both_found : (ls : List ℕ) → Leads ls ps → Both ls
  both_found ls leads =
      let one_Found = f.2 ls leads in
      let other = g.2 ls one_Found.0 in
      (other.0, one_Found.1, one_Found.2, other.1, other.2)

  rest_long : length rs ≡ length ps
  rest_long = g.0.0 ∙ f.0.0

  named : (ls : List ℕ) → Both ls → united (suc a) (suc b) ls ≡ united (get_or ls first 0) (get_or ls second 0) ls
  named ls h = ap₂ (λ (x y : ℕ). united x y ls) h.1 h.3

  pub a_in : a < length rs
  a_in = omega (arith, f.1, rest_long)

  pub b_in : b < length rs
  b_in = omega (arith, g.1, g.0.0)

  pub join_lower : a < b → Joins ps first second (set rs b a)
  join_lower h = (
    (length-set rs b a ∙ rest_long, pointing_moved rs b a b_in g.0.1 (omega arith)),
    λ ls leads. let k = both_found ls leads in subst (λ (ms : List ℕ). Leads ms (set rs b a)) (named ls k) (linked ls rs g.0.1 k.0 a b h b_in k.2 k.4),
  )

  pub join_higher : b < a → Joins ps first second (set rs a b)
  join_higher h = (
    (length-set rs a b ∙ rest_long, pointing_moved rs a b a_in g.0.1 (omega arith)),
    λ ls leads. let k = both_found ls leads in subst (λ (ms : List ℕ). Leads ms (set rs a b)) (united_turned (suc b) (suc a) ls ∙ named ls k) (linked ls rs g.0.1 k.0 b a h a_in k.4 k.2),
  )

  pub join_same : b ≤ a → a ≤ b → Joins ps first second rs
  join_same h i =
      let e : a ≡ b = omega arith in
      ((rest_long, g.0.1), λ ls leads. let k = both_found ls leads in subst (λ (ms : List ℕ). Leads ms rs) (sym (united_alone (suc a) ls) ∙ ap (λ (m : ℕ). united (suc a) (suc m) ls) e ∙ named ls k) k.0)
