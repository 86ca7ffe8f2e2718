-- What is left of the atoms, cell by cell: one that is written changes its own isotope alone. Serves document 01, "At END, for every element and mass, the
-- formula's total .. equals the atoms listed". Assumes nothing.
use Prim.Native.Nat.{ℕ, zero, suc, ◌+◌, ◌-◌, ◌≤◌, ◌<◌}
use mathlib.Core.Path.{◌≡◌, refl, sym, ap, ap₂, ◌∙◌}
use mathlib.Core.Bool.{Bool, true, false, ◌&&◌}
use mathlib.Core.List.{List, [], ◌∷◌}
use native.Mathlib.Numerals.{add-one}
use native.Mathlib.Omega.{arith}
use lib.ListN.{length, get_or, set, drop, replicate, drop_of_length-le}
use lib.Seq.{drop-cons, get_or-set_same, get_or-set_other, set-get_or}
use lib.Dec.{eqb}
use borrow.Author.Tests.{eqb-true, eq-eqb, ne_eqb}
use Rattle.std.specs.Prelude.{bit_or}
use Rattle.std.proofs.lemmas.Nat.{le_or_l, le_or_r}
use Rattle.lists.specs.Lists.{share, all}
use Rattle.lists.proofs.Bools.{torn, both_ways, and_parts, and_both, and_left_false, and_right_false}
use Rattle.lists.proofs.ListLaws.{all_nil, all_parts, all_both, all_step, all_miss, all_end}
use Rattle.format.specs.Structure.{Isotope, isotope_of, Entry, entry, same_isotope, total}
use Rattle.format.proofs.TotalLaws.{isotope_is, isotope_same, isotope_refl, total_nil, total_cons}
use Rattle.totals.specs.Left.{by_mass, cell_of, heavy_of, left_of, is_zero, Blank, Adds, Takes, Counts, Says}

-- ONE ENTRY
pub share_one : (i : Isotope) (e : Entry) → total i (e ∷ []) ≡ share (same_isotope i e.kind) e.count
share_one i e = omega (arith, total_cons i e [], total_nil i)

pub total_own : (k : Isotope) (n : ℕ) → total k (entry k n ∷ []) ≡ n
total_own k n = share_one k (entry k n) ∙ ap (λ (t : Bool). share t n) (isotope_refl k)

pub total_other : (i k : Isotope) (n : ℕ) → same_isotope i k ≡ false → total i (entry k n ∷ []) ≡ 0
total_other i k n h = share_one i (entry k n) ∙ ap (λ (t : Bool). share t n) h

pub total_sum : (i k : Isotope) (a b : ℕ) → total i (entry k (a + b) ∷ []) ≡ total i (entry k a ∷ []) + total i (entry k b ∷ [])
total_sum i k a b = go (same_isotope i k) refl
  where
    go : (t : Bool) → same_isotope i k ≡ t → total i (entry k (a + b) ∷ []) ≡ total i (entry k a ∷ []) + total i (entry k b ∷ [])
    go true h = rw (isotope_is i k h) (omega (arith, total_own k (a + b), total_own k a, total_own k b))
    go false h = omega (arith, total_other i k (a + b) h, total_other i k a h, total_other i k b h)

pub total_most : (i k : Isotope) (n : ℕ) → total i (entry k n ∷ []) ≤ n
total_most i k n = go (same_isotope i k) refl
  where
    go : (t : Bool) → same_isotope i k ≡ t → total i (entry k n ∷ []) ≤ n
    go true h = rw (isotope_is i k h) (omega (arith, total_own k n))
    go false h = omega (arith, total_other i k n h)

pub total_none : (i k : Isotope) → total i (entry k 0 ∷ []) ≡ 0
total_none i k = omega (arith, total_sum i k 0 0)

-- isotopes of another element, of another mass
pub element_apart : (i : Isotope) (e m : ℕ) → (i.element ≡ e → ⊥) → same_isotope i (isotope_of e m) ≡ false
unfolding same_isotope
element_apart i e m h = and_left_false (eqb i.element e) (eqb i.mass m) (ne_eqb i.element e h)

pub mass_apart : (i : Isotope) (e m : ℕ) → (i.mass ≡ m → ⊥) → same_isotope i (isotope_of e m) ≡ false
unfolding same_isotope
mass_apart i e m h = and_right_false (eqb i.element e) (eqb i.mass m) (ne_eqb i.mass m h)

-- LEFT, by whether the isotope has a mass
module _ (cs es ms : List ℕ) (i : Isotope) where
  pub left_light : i.mass ≡ 0 → left_of cs es ms i ≡ get_or cs i.element 0
  unfolding left_of
  left_light h = ap (λ (m : ℕ). by_mass m (get_or cs i.element 0) (heavy_of i es ms)) h

  pub left_heavy : 0 < i.mass → left_of cs es ms i ≡ heavy_of i es ms
  unfolding left_of
  left_heavy h = go i.mass h
    where
      go : (m : ℕ) → 0 < m → by_mass m (get_or cs i.element 0) (heavy_of i es ms) ≡ heavy_of i es ms
      go zero k = absurd (omega arith)
      go (suc m) k = refl

-- a mass is 0 or not
module _ {P : Type 0} (i : Isotope) (light : i.mass ≡ 0 → P) (heavy : 0 < i.mass → P) where
  pub by_mass_lem : P
  by_mass_lem = go i.mass refl
    where
      go : (m : ℕ) → i.mass ≡ m → P
      go zero e = light e
      go (suc m) e = heavy (omega arith)

-- CELLS OF ATOMS WITH A MASS
heavy_hit : (i : Isotope) (e m : ℕ) (es ms : List ℕ) → same_isotope i (isotope_of e m) ≡ true → heavy_of i (e ∷ es) (m ∷ ms) ≡ suc (heavy_of i es ms)
unfolding heavy_of
heavy_hit i e m es ms h = rw (h, heavy_of)

heavy_miss : (i : Isotope) (e m : ℕ) (es ms : List ℕ) → same_isotope i (isotope_of e m) ≡ false → heavy_of i (e ∷ es) (m ∷ ms) ≡ heavy_of i es ms
unfolding heavy_of
heavy_miss i e m es ms h = rw (h, heavy_of)

pub heavy_cons : (i : Isotope) (e m : ℕ) (es ms : List ℕ) → heavy_of i (e ∷ es) (m ∷ ms) ≡ total i (entry (isotope_of e m) 1 ∷ []) + heavy_of i es ms
heavy_cons i e m es ms = go (same_isotope i (isotope_of e m)) refl
  where
    go : (t : Bool) → same_isotope i (isotope_of e m) ≡ t → heavy_of i (e ∷ es) (m ∷ ms) ≡ total i (entry (isotope_of e m) 1 ∷ []) + heavy_of i es ms
    go true h = omega (arith, heavy_hit i e m es ms h, share_one i (entry (isotope_of e m) 1) ∙ ap (λ (t : Bool). share t 1) h)
    go false h = omega (arith, heavy_miss i e m es ms h, total_other i (isotope_of e m) 1 h)

-- one that is written: what it held goes, what it holds comes
pub heavy_set : (i : Isotope) (es ms : List ℕ) (j e m : ℕ) → j < length es → j < length ms →
    heavy_of i (set es j e) (set ms j m) + cell_of i (get_or es j 0) (get_or ms j 0) ≡ heavy_of i es ms + cell_of i e m
heavy_set i [] ms j e m h k = absurd (omega arith)
heavy_set i (x ∷ es) [] j e m h k = absurd (omega arith)
heavy_set i (x ∷ es) (y ∷ ms) zero e m h k = omega (arith, heavy_cons i e m es ms, heavy_cons i x y es ms)
heavy_set i (x ∷ es) (y ∷ ms) (suc j) e m h k =
    omega (arith, heavy_cons i x y (set es j e) (set ms j m), heavy_cons i x y es ms, heavy_set i es ms j e m (omega arith) (omega arith))

-- a cell without atom holds nothing for an isotope that has a mass
pub cell_empty : (i : Isotope) (e : ℕ) → 0 < i.mass → cell_of i e 0 ≡ 0
cell_empty i e h = total_other i (isotope_of e 0) 1 (mass_apart i e 0 (λ q. omega arith))

pub heavy_blank : (i : Isotope) (es ms : List ℕ) → 0 < i.mass → Blank ms → heavy_of i es ms ≡ 0
unfolding heavy_of
heavy_blank i [] ms h b = refl
heavy_blank i (e ∷ es) [] h b = refl
heavy_blank i (e ∷ es) (m ∷ ms) h b =
    let z : cell_of i e m ≡ 0 = ap (cell_of i e) (b 0) ∙ cell_empty i e h in
    omega (arith, heavy_cons i e m es ms, heavy_blank i es ms h (λ n. b (suc n)))

-- from a cell on: those before it may be of other isotopes
pub heavy_drop : (i : Isotope) (es ms : List ℕ) (j : ℕ) → j < length es → j < length ms → heavy_of i (drop j es) (drop j ms) ≡ cell_of i (get_or es j 0) (get_or ms j 0) + heavy_of i (drop (j + 1) es) (drop (j + 1) ms)
heavy_drop i es ms j h k = rw (drop-cons es j 0 h, drop-cons ms j 0 k, add-one j) (heavy_cons i (get_or es j 0) (get_or ms j 0) (drop (suc j) es) (drop (suc j) ms))

pub heavy_past : (i : Isotope) (es ms : List ℕ) (j : ℕ) → length ms ≤ j → heavy_of i (drop j es) (drop j ms) ≡ 0
unfolding heavy_of
heavy_past i es ms j h = ap (heavy_of i (drop j es)) (drop_of_length-le ms h) ∙ None (drop j es)
  where
    None : (l : List ℕ) → heavy_of i l [] ≡ 0
    None [] = refl
    None (e ∷ l) = refl

-- WRITTEN CELLS: what comes to what is left
module _ (cs es ms : List ℕ) where
  -- of those without mass
  pub light_set : (e v : ℕ) → e < length cs → (i : Isotope) →
      left_of (set cs e v) es ms i + total i (entry (isotope_of e 0) (get_or cs e 0) ∷ []) ≡ left_of cs es ms i + total i (entry (isotope_of e 0) v ∷ [])
  light_set e v h i = go (same_isotope i (isotope_of e 0)) refl
    where
      go : (t : Bool) → same_isotope i (isotope_of e 0) ≡ t → left_of (set cs e v) es ms i + total i (entry (isotope_of e 0) (get_or cs e 0) ∷ []) ≡ left_of cs es ms i + total i (entry (isotope_of e 0) v ∷ [])
      go true q =
          let k : i ≡ isotope_of e 0 = isotope_is i (isotope_of e 0) q in
          rw k (omega (arith, total_own (isotope_of e 0) (get_or cs e 0), total_own (isotope_of e 0) v, left_light (set cs e v) es ms (isotope_of e 0) refl, left_light cs es ms (isotope_of e 0) refl, get_or-set_same cs e v 0 h))
      go false q =
          let same : left_of (set cs e v) es ms i ≡ left_of cs es ms i =
          by_mass_lem i
          (λ z. left_light (set cs e v) es ms i z ∙ get_or-set_other cs e i.element v 0 (λ p. torn (same_isotope i (isotope_of e 0)) (isotope_same i (isotope_of e 0) (ap₂ isotope_of p z)) q) ∙ sym (left_light cs es ms i z))
          (λ z. left_heavy (set cs e v) es ms i z ∙ sym (left_heavy cs es ms i z)) in
          omega (arith, same, total_other i (isotope_of e 0) (get_or cs e 0) q, total_other i (isotope_of e 0) v q)

  pub light_added : (e n : ℕ) → e < length cs → Adds (left_of cs es ms) (left_of (set cs e (get_or cs e 0 + n)) es ms) (entry (isotope_of e 0) n)
  light_added e n h i = omega (arith, light_set e (get_or cs e 0 + n) h i, total_sum i (isotope_of e 0) (get_or cs e 0) n)

  pub light_taken : (e n : ℕ) → e < length cs → n ≤ get_or cs e 0 → Takes (left_of cs es ms) (left_of (set cs e (get_or cs e 0 - n)) es ms) (entry (isotope_of e 0) n) true
  light_taken e n h k i =
      let q : get_or cs e 0 - n + n ≡ get_or cs e 0 = omega arith in
      let z : total i (entry (isotope_of e 0) (get_or cs e 0 - n + n) ∷ []) ≡ total i (entry (isotope_of e 0) (get_or cs e 0) ∷ []) = ap (λ (v : ℕ). total i (entry (isotope_of e 0) v ∷ [])) q in
      omega (arith, light_set e (get_or cs e 0 - n) h i, total_sum i (isotope_of e 0) (get_or cs e 0 - n) n, z)

  pub light_short : (e n : ℕ) → get_or cs e 0 < n → Takes (left_of cs es ms) (left_of cs es ms) (entry (isotope_of e 0) n) false
  light_short e n h = omega (arith, left_light cs es ms (isotope_of e 0) refl)

  -- the same for a mass that is found to be 0
  pub take_light : (e m n : ℕ) → m ≡ 0 → e < length cs → n ≤ get_or cs e 0 → Takes (left_of cs es ms) (left_of (set cs e (get_or cs e 0 - n)) es ms) (entry (isotope_of e m) n) true
  take_light e m n z h k = rw z (light_taken e n h k)

  pub take_short : (e m n : ℕ) → m ≡ 0 → get_or cs e 0 < n → Takes (left_of cs es ms) (left_of cs es ms) (entry (isotope_of e m) n) false
  take_short e m n z h = rw z (light_short e n h)

  -- of those with a mass
  pub heavy_added : (j e m : ℕ) → j < length es → j < length ms → get_or ms j 0 ≡ 0 → 0 < m → Adds (left_of cs es ms) (left_of cs (set es j e) (set ms j m)) (entry (isotope_of e m) 1)
  heavy_added j e m h k z p i =
      by_mass_lem i
      (λ q. omega (arith, left_light cs (set es j e) (set ms j m) i q, left_light cs es ms i q, total_other i (isotope_of e m) 1 (mass_apart i e m (λ r. omega arith))))
      (λ q. omega (arith, left_heavy cs (set es j e) (set ms j m) i q, left_heavy cs es ms i q, heavy_set i es ms j e m h k, ap (cell_of i (get_or es j 0)) z ∙ cell_empty i (get_or es j 0) q))

  pub heavy_struck : (j : ℕ) → j < length es → j < length ms → 0 < get_or ms j 0 → Takes (left_of cs es ms) (left_of cs es (set ms j 0)) (entry (isotope_of (get_or es j 0) (get_or ms j 0)) 1) true
  heavy_struck j h k p i =
      by_mass_lem i
      (λ q. omega (arith, left_light cs es (set ms j 0) i q, left_light cs es ms i q, total_other i (isotope_of (get_or es j 0) (get_or ms j 0)) 1 (mass_apart i (get_or es j 0) (get_or ms j 0) (λ r. omega arith))))
      (λ q.
      let s : heavy_of i (set es j (get_or es j 0)) (set ms j 0) ≡ heavy_of i es (set ms j 0) = ap (λ (l : List ℕ). heavy_of i l (set ms j 0)) (set-get_or es j 0) in
      omega (arith, left_heavy cs es (set ms j 0) i q, left_heavy cs es ms i q, heavy_set i es ms j (get_or es j 0) 0 h k, s, cell_empty i (get_or es j 0) q))

-- TAKEN one after the other
pub takes_none : (left : Isotope → ℕ) (k : Isotope) → Takes left left (entry k 0) true
takes_none left k i = omega (arith, total_none i k)

pub takes_both : (left mid next : Isotope → ℕ) (k : Isotope) (a b : ℕ) → Takes left mid (entry k a) true → Takes mid next (entry k b) true → Takes left next (entry k (a + b)) true
takes_both left mid next k a b f g i = omega (arith, f i, g i, total_sum i k a b)

-- NOTHING LEFT
-- cells that are made
pub zeros_blank : (n : ℕ) → Blank (replicate n 0)
zeros_blank zero m = refl
zeros_blank (suc n) zero = refl
zeros_blank (suc n) (suc m) = zeros_blank n m

pub all_blank : (l : List ℕ) → all is_zero l ≡ true → Blank l
all_blank [] h n = refl
all_blank (x ∷ l) h zero = eqb-true x 0 (all_parts is_zero x l h).0
all_blank (x ∷ l) h (suc n) = all_blank l (all_parts is_zero x l h).1 n

pub blank_all : (l : List ℕ) → Blank l → all is_zero l ≡ true
blank_all [] b = all_nil is_zero
blank_all (x ∷ l) b = all_both is_zero x l (eq-eqb x 0 (b 0)) (blank_all l (λ n. b (suc n)))

-- cells that are looked at one after the other, a telling whether those before are 0
and_true : (a : Bool) → (a && true) ≡ a
and_true true = refl
and_true false = refl

pub seen_more : (a b : ℕ) → eqb (bit_or a b) 0 ≡ (eqb a 0 && is_zero b)
seen_more a b =
    both_ways (eqb (bit_or a b) 0) (eqb a 0 && is_zero b)
    (λ e. let z : bit_or a b ≡ 0 = eqb-true _ _ e in and_both (eqb a 0) (is_zero b) (eq-eqb a 0 (omega (arith, le_or_l a b))) (eq-eqb b 0 (omega (arith, le_or_r a b))))
    (λ e. let p : (eqb a 0 ≡ true) × (eqb b 0 ≡ true) = and_parts (eqb a 0) (eqb b 0) e in rw (eqb-true a 0 p.0, eqb-true b 0 p.1))

module _ (l : List ℕ) (i : ℕ) (a : Bool) where
  pub clear_on : (r : Bool) → i < length l → r ≡ (a && is_zero (get_or l i 0)) → (a && all is_zero (drop i l)) ≡ (r && all is_zero (drop (i + 1) l))
  clear_on r h q = go (is_zero (get_or l i 0)) refl
    where
      go : (t : Bool) → is_zero (get_or l i 0) ≡ t → (a && all is_zero (drop i l)) ≡ (r && all is_zero (drop (i + 1) l))
      go true e = ap (λ (b : Bool). a && b) (all_step is_zero 0 l i h e) ∙ ap (λ (b : Bool). b && all is_zero (drop (i + 1) l)) (sym (q ∙ ap (λ (b : Bool). a && b) e ∙ and_true a))
      go false e = and_right_false a (all is_zero (drop i l)) (all_miss is_zero 0 l i h e) ∙ sym (and_left_false r (all is_zero (drop (i + 1) l)) (q ∙ and_right_false a (is_zero (get_or l i 0)) e))

  pub clear_end : length l ≤ i → (a && all is_zero (drop i l)) ≡ a
  clear_end h = ap (λ (b : Bool). a && b) (all_end is_zero l i h) ∙ and_true a

-- where no isotope has an atom, no cell has one
pub heavy_none : (es ms : List ℕ) → length es ≡ length ms → ((i : Isotope) → 0 < i.mass → heavy_of i es ms ≡ 0) → Blank ms
heavy_none es [] h f n = refl
heavy_none [] (m ∷ ms) h f n = absurd (omega arith)
heavy_none (e ∷ es) (zero ∷ ms) h f zero = refl
heavy_none (e ∷ es) (suc m ∷ ms) h f zero =
    absurd (omega (arith, f (isotope_of e (suc m)) (omega arith), heavy_cons (isotope_of e (suc m)) e (suc m) es ms, total_own (isotope_of e (suc m)) 1))
heavy_none (e ∷ es) (m ∷ ms) h f (suc n) = heavy_none es ms (omega arith) (λ i p. omega (arith, f i p, heavy_cons i e m es ms)) n

module _ (cs es ms : List ℕ) where
  pub left_none : Blank cs → Blank ms → Counts (left_of cs es ms) []
  left_none b d i = by_mass_lem i (λ q. left_light cs es ms i q ∙ b i.element) (λ q. left_heavy cs es ms i q ∙ heavy_blank i es ms q d) ∙ sym (total_nil i)

  pub counts_blank : Counts (left_of cs es ms) [] → Blank cs
  counts_blank f e = sym (left_light cs es ms (isotope_of e 0) refl) ∙ f (isotope_of e 0) ∙ total_nil (isotope_of e 0)

  pub masses_blank : length es ≡ length ms → Counts (left_of cs es ms) [] → Blank ms
  masses_blank h f = heavy_none es ms h (λ i p. sym (left_heavy cs es ms i p) ∙ f i ∙ total_nil i)

  pub count_left : all is_zero cs ≡ false → Says false (Counts (left_of cs es ms) [])
  count_left h f = torn (all is_zero cs) (blank_all cs (counts_blank f)) h

  pub mass_left : all is_zero cs ≡ true → length es ≡ length ms → (t : Bool) → t ≡ all is_zero ms → Says t (Counts (left_of cs es ms) [])
  mass_left h l true e = left_none (all_blank cs h) (all_blank ms (sym e))
  mass_left h l false e = λ f. torn (all is_zero ms) (blank_all ms (masses_blank l f)) (sym e)
