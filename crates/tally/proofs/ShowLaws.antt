-- Keys and counts that show entries (Shows), with one entry more: where its key is there, its count is raised; where it is not, key and count are put to their
-- place. Which entries they are and in what order they came does not matter, only which keys there are and what each counts. Document 01, "The one written
-- form". Assumes nothing.
use Prim.Native.Nat.{ℕ, ◌+◌, ◌≤◌, ◌<◌}
use mathlib.Core.Path.{◌≡◌, refl, sym, ap, ap₂, ◌∙◌}
use mathlib.Core.Bool.{Bool, true, false, not, ◌||◌}
use mathlib.Core.List.{List, [], ◌∷◌, ◌++◌, map, map-append}
use native.Mathlib.Omega.{arith}
use lib.ListN.{length, get_or, take, drop, set, length-set}
use lib.Seq.{get_or-set_same, get_or-set_other, ext_get_or}
use lib.Dec.{eqb, ltb}
use borrow.Author.Tests.{ltb-true, lt-ltb, le-ltb, ne_eqb}
use Rattle.lists.specs.Lists.{any, span}
use Rattle.lists.specs.Order.{insert, ascends, level}
use Rattle.lists.proofs.Bools.{eqb_same}
use Rattle.lists.proofs.ListLaws.{any_nil, any_cons, any_parts}
use Rattle.lists.proofs.PartLaws.{map_take, map_drop}
use Rattle.lists.proofs.LexLaws.{Sides, less, equal, greater, sides, ltb_strict}
use Rattle.lists.proofs.SortLaws.{any_perm, ascends_nil, insert_place, insert_perm, insert_ascends}
use Rattle.tally.specs.declared.entries.Entry.{Entry as Tallied}
use Rattle.tally.specs.Gathering.{keyed, sum_of, Shows}
use Rattle.lists.proofs.IndexLaws.{any_index, any_nowhere, span_index, ascends_at, map_length, map_at, map_on}

-- SUMS, clause by clause
module _ (k : ℕ) where
  pub sum_nil : sum_of k [] ≡ 0
  unfolding sum_of
  sum_nil = refl

  pub sum_hit : (e : Tallied) (es : List Tallied) → keyed k e ≡ true → sum_of k (e ∷ es) ≡ e.count + sum_of k es
  unfolding sum_of
  sum_hit e es h = rw (h, sum_of)

  pub sum_miss : (e : Tallied) (es : List Tallied) → keyed k e ≡ false → sum_of k (e ∷ es) ≡ sum_of k es
  unfolding sum_of
  sum_miss e es h = rw (h, sum_of)

  pub sum_absent : (es : List Tallied) → any (keyed k) es ≡ false → sum_of k es ≡ 0
  sum_absent [] h = sum_nil
  sum_absent (e ∷ es) h = let p : (keyed k e ≡ false) × (any (keyed k) es ≡ false) = any_parts (keyed k) e es h in sum_miss e es p.0 ∙ sum_absent es p.1

-- NO ENTRIES, and the same entries otherwise
pub shows_none : Shows [] [] []
shows_none = record { up = ascends_nil ltb; there = λ k. any_nil (eqb k) ∙ sym (any_nil (keyed k)); sums = refl }

pub shows_same : (es fs : List Tallied) (ks cs : List ℕ) → ((k : ℕ) → any (keyed k) es ≡ any (keyed k) fs) → ((k : ℕ) → sum_of k es ≡ sum_of k fs) → Shows es ks cs → Shows fs ks cs
shows_same es fs ks cs a b s =
    record { up = s.up; there = λ k. s.there k ∙ a k; sums = s.sums ∙ map_on (λ (k : ℕ). sum_of k es) (λ (k : ℕ). sum_of k fs) 0 ks (λ i h. b (get_or ks i 0)) }

-- WHAT STANDS AT AN INDEX
module _ (es : List Tallied) (ks cs : List ℕ) (s : Shows es ks cs) where
  pub shows_long : length cs ≡ length ks
  shows_long = ap length s.sums ∙ map_length (λ (k : ℕ). sum_of k es) ks

  pub shows_count : (i : ℕ) → i < length ks → get_or cs i 0 ≡ sum_of (get_or ks i 0) es
  shows_count i h = ap (λ (l : List ℕ). get_or l i 0) s.sums ∙ map_at (λ (k : ℕ). sum_of k es) 0 0 ks i h

  pub shows_up : (i j : ℕ) → i < j → j < length ks → get_or ks i 0 < get_or ks j 0
  shows_up i j a b = ltb-true (get_or ks i 0) (get_or ks j 0) (ascends_at ltb ltb_strict 0 ks i j s.up a b)

  -- ONE ENTRY MORE
  module _ (e : Tallied) (p : ℕ) where
    sum_own : sum_of e.key (e ∷ es) ≡ e.count + sum_of e.key es
    sum_own = sum_hit e.key e es (eqb_same e.key)

    sum_other : (k : ℕ) → (k ≡ e.key → ⊥) → sum_of k es ≡ sum_of k (e ∷ es)
    sum_other k n = sym (sum_miss k e es (ne_eqb k e.key n))

    -- its key is there
    module _ (b : p < length ks) (q : get_or ks p 0 ≡ e.key) where
      key_once : (i : ℕ) → i < length ks → (i ≡ p → ⊥) → get_or ks i 0 ≡ e.key → ⊥
      key_once i c n w = go (sides i p)
        where
          go : Sides i p → ⊥
          go (less a) = omega (arith, shows_up i p a b)
          go (equal a) = n a
          go (greater a) = omega (arith, shows_up p i a c)

      raised : set cs p (get_or cs p 0 + e.count) ≡ map (λ k. sum_of k (e ∷ es)) ks
      raised =
          ext_get_or 0 (set cs p (get_or cs p 0 + e.count)) (map (λ k. sum_of k (e ∷ es)) ks) (length-set cs p (get_or cs p 0 + e.count) ∙ shows_long ∙ sym (map_length (λ (k : ℕ). sum_of k (e ∷ es)) ks))
          (λ i h. let c : i < length ks = omega (arith, shows_long, length-set cs p (get_or cs p 0 + e.count)) in each i c (sides i p) ∙ sym (map_at (λ (k : ℕ). sum_of k (e ∷ es)) 0 0 ks i c))
        where
          other : (i : ℕ) → i < length ks → (i ≡ p → ⊥) → get_or (set cs p (get_or cs p 0 + e.count)) i 0 ≡ sum_of (get_or ks i 0) (e ∷ es)
          other i c n = get_or-set_other cs p i (get_or cs p 0 + e.count) 0 n ∙ shows_count i c ∙ sum_other (get_or ks i 0) (key_once i c n)

          here : get_or (set cs p (get_or cs p 0 + e.count)) p 0 ≡ sum_of (get_or ks p 0) (e ∷ es)
          here =
              get_or-set_same cs p (get_or cs p 0 + e.count) 0 (omega (arith, shows_long))
              ∙ omega (arith, shows_count p b, ap (λ (k : ℕ). sum_of k es) q, sum_own)
              ∙ ap (λ (k : ℕ). sum_of k (e ∷ es)) (sym q)

          each : (i : ℕ) → i < length ks → Sides i p → get_or (set cs p (get_or cs p 0 + e.count)) i 0 ≡ sum_of (get_or ks i 0) (e ∷ es)
          each i c (less a) = other i c (λ z. omega arith)
          each i c (equal a) = ap (λ (j : ℕ). get_or (set cs p (get_or cs p 0 + e.count)) j 0) a ∙ here ∙ ap (λ (j : ℕ). sum_of (get_or ks j 0) (e ∷ es)) (sym a)
          each i c (greater a) = other i c (λ z. omega arith)

      still : (k : ℕ) → any (eqb k) ks ≡ any (keyed k) (e ∷ es)
      still k = go (eqb k e.key) refl ∙ sym (any_cons (keyed k) e es)
        where
          go : (t : Bool) → eqb k e.key ≡ t → any (eqb k) ks ≡ (eqb k e.key || any (keyed k) es)
          go true w = any_index (eqb k) 0 ks p b (ap (eqb k) q ∙ w) ∙ sym (ap (λ (t : Bool). t || any (keyed k) es) w)
          go false w = s.there k ∙ sym (ap (λ (t : Bool). t || any (keyed k) es) w)

      pub shows_raised : Shows (e ∷ es) ks (set cs p (get_or cs p 0 + e.count))
      shows_raised = record { up = s.up; there = still; sums = raised }

    -- its key is not there
    module _ (b : p ≤ length ks) (lower : (i : ℕ) → i < p → get_or ks i 0 < e.key) (higher : (i : ℕ) → p ≤ i → i < length ks → e.key < get_or ks i 0) where
      key_none : (i : ℕ) → i < length ks → e.key ≡ get_or ks i 0 → ⊥
      key_none i c w = go (sides i p)
        where
          go : Sides i p → ⊥
          go (less a) = omega (arith, lower i a)
          go (equal a) = omega (arith, higher i (omega arith) c)
          go (greater a) = omega (arith, higher i (omega arith) c)

      placed : take p ks ++ (e.key ∷ drop p ks) ≡ insert ltb e.key ks
      placed =
          let q : span (λ y. not (ltb e.key y)) ks ≡ p =
          span_index (λ y. not (ltb e.key y)) 0 ks p b (λ i h. ap not (le-ltb e.key (get_or ks i 0) (omega (arith, lower i h))))
          (λ h. ap not (lt-ltb e.key (get_or ks p 0) (higher p (omega arith) h))) in
          ap (λ (j : ℕ). take j ks ++ (e.key ∷ drop j ks)) (sym q) ∙ sym (insert_place ltb e.key ks)

      apart : any (level ltb e.key) ks ≡ false
      apart = any_nowhere (level ltb e.key) 0 ks (λ i h. go (get_or ks i 0) (key_none i h) (sides e.key (get_or ks i 0)))
        where
          go : (y : ℕ) → (e.key ≡ y → ⊥) → Sides e.key y → level ltb e.key y ≡ false
          go y n (less a) = rw (lt-ltb e.key y a)
          go y n (equal a) = absurd (n a)
          go y n (greater a) = rw (le-ltb e.key y (omega arith), lt-ltb y e.key a)

      absent : sum_of e.key es ≡ 0
      absent = sum_absent e.key es (sym (s.there e.key) ∙ any_nowhere (eqb e.key) 0 ks (λ i h. ne_eqb e.key (get_or ks i 0) (key_none i h)))

      others : cs ≡ map (λ k. sum_of k (e ∷ es)) ks
      others = s.sums ∙ map_on (λ (k : ℕ). sum_of k es) (λ (k : ℕ). sum_of k (e ∷ es)) 0 ks (λ i h. sum_other (get_or ks i 0) (λ w. key_none i h (sym w)))

      put : take p cs ++ (e.count ∷ drop p cs) ≡ map (λ k. sum_of k (e ∷ es)) (take p ks ++ (e.key ∷ drop p ks))
      put =
          let q : e.count ≡ sum_of e.key (e ∷ es) = omega (arith, sum_own, absent) in
          ap (λ (l : List ℕ). take p l ++ (e.count ∷ drop p l)) others
          ∙ ap (λ (n : ℕ). take p (map (λ k. sum_of k (e ∷ es)) ks) ++ (n ∷ drop p (map (λ k. sum_of k (e ∷ es)) ks))) q
          ∙ ap₂ (λ (x y : List ℕ). x ++ (sum_of e.key (e ∷ es) ∷ y)) (sym (map_take (λ k. sum_of k (e ∷ es)) p ks)) (sym (map_drop (λ k. sum_of k (e ∷ es)) p ks))
          ∙ sym (map-append (λ k. sum_of k (e ∷ es)) (take p ks) (e.key ∷ drop p ks))

      now_there : (k : ℕ) → any (eqb k) (insert ltb e.key ks) ≡ any (keyed k) (e ∷ es)
      now_there k =
          any_perm (eqb k) (insert_perm ltb e.key ks) ∙ any_cons (eqb k) e.key ks
          ∙ ap (λ (t : Bool). eqb k e.key || t) (s.there k) ∙ sym (any_cons (keyed k) e es)

      pub shows_put : Shows (e ∷ es) (take p ks ++ (e.key ∷ drop p ks)) (take p cs ++ (e.count ∷ drop p cs))
      shows_put =
          record {
            up = ap (ascends ltb) placed ∙ insert_ascends ltb ltb_strict e.key ks apart s.up;
            there = λ k. ap (any (eqb k)) placed ∙ now_there k;
            sums = put;
          }
