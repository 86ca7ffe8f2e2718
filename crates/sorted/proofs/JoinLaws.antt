-- A row joined to a sorted list: what the place of its key among the keys tells of the definitions' tests, and what each answer of src/join.rt shows. Document
-- 01, "Rows": "The same pair and kind again is dropped; another kind for the pair .. is a clash"; refusals 13 and 14. Assumes nothing.
use Prim.Native.Nat.{ℕ, ◌+◌, ◌*◌, ◌≤◌, ◌<◌}
use mathlib.Core.Path.{◌≡◌, refl, sym, ap, ◌∙◌, subst}
use mathlib.Core.Bool.{Bool, true, false, not, ◌&&◌}
use mathlib.Core.List.{List, ◌∷◌}
use native.Mathlib.Numerals.{add-one}
use native.Mathlib.Omega.{arith}
use lib.ListN.{length, get_or}
use lib.Dec.{eqb, ltb}
use borrow.Author.Tests.{ltb-true, eqb-true, eq-eqb, ne_eqb, lt-ltb, le-ltb, le-leb, lt-leb}
use Rattle.lists.specs.Lists.{any, span}
use Rattle.lists.specs.Order.{sort}
use Rattle.lists.proofs.Bools.{torn, and_parts, and_both, and_left_false, and_right_false}
use Rattle.lists.proofs.ListLaws.{any_imply}
use Rattle.lists.proofs.LexLaws.{Sides, less, equal, greater, sides}
use Rattle.lists.proofs.SortLaws.{sort_length, sort_any}
use Rattle.format.specs.Labels.{ListOf}
use Rattle.format.specs.Rows.{Row}
use Rattle.format.specs.Structure.{most, meets, repeats, clash, row_before, row_ok}
use Rattle.format.proofs.OrderLaws.{clash_is}
use Rattle.sorted.specs.Steps.{kept, refused, join_after}
use Rattle.sorted.specs.Regions.{key_of, payload_of, keyed_region, Fits}
use Rattle.sorted.specs.Keyed.{keyed, drops, key_at, KeysAscend, Between, behind, with_row, JoinShows}
use Rattle.std.specs.Prelude.{Ok, Err}
use Rattle.format.specs.Refusals.{number_of}
use Rattle.format.specs.declared.refusal.Refusal.{Refusal}
use Rattle.lists.proofs.IndexLaws.{any_index, any_nowhere, span_index}
use Rattle.sorted.proofs.SearchLaws.{behind_all}
use Rattle.sorted.proofs.KeyLaws.{repeats_payload, repeats_never}
use Rattle.sorted.proofs.RegionRows.{no_row, sorted_at, fine_at, payload_at, keys_ascend, meets_at, before_at, region_more}

-- THE TABLE of joining
module _ (l : ListOf) (rs : List Row) (r : Row) where
  pub join_clash : any (clash l r) rs ≡ true → join_after l rs r ≡ refused 13
  unfolding join_after
  join_clash e = rw e

  pub join_again : any (clash l r) rs ≡ false → any (meets l r) rs ≡ true → join_after l rs r ≡ kept rs
  unfolding join_after
  join_again e g = rw (e, g)

  pub join_full : any (clash l r) rs ≡ false → any (meets l r) rs ≡ false → most l ≤ length rs → join_after l rs r ≡ refused 14
  unfolding join_after
  join_full e g h = rw (e, g, le-leb (most l) (length rs) h)

  pub join_new : any (clash l r) rs ≡ false → any (meets l r) rs ≡ false → length rs < most l → join_after l rs r ≡ kept (r ∷ rs)
  unfolding join_after
  join_new e g h = rw (e, g, lt-leb (most l) (length rs) h)

  clash_meets : any (meets l r) rs ≡ false → any (clash l r) rs ≡ false
  clash_meets e = any_imply (meets l r) (clash l r) (λ s q. clash_is l r s ∙ and_left_false (meets l r s) (not (repeats l r s)) q) rs e

-- THE PLACE of the row's key among those of the list
module _ (l : ListOf) (k : keyed l ≡ true) (n : ℕ) (h : n < 1024) (rs : List Row) (f : Fits l n rs) (r : Row) (o : row_ok l n r ≡ true) where
  at_index : (q : Row → Bool) (i : ℕ) → i < length rs → q (sorted_at rs i) ≡ true → any q rs ≡ true
  at_index q i b e = sym (sort_any row_before q rs) ∙ any_index q no_row (sort row_before rs) i (omega (arith, sort_length row_before rs)) e

  at_none : (q : Row → Bool) → ((i : ℕ) → i < length rs → q (sorted_at rs i) ≡ false) → any q rs ≡ false
  at_none q g = sym (sort_any row_before q rs) ∙ any_nowhere q no_row (sort row_before rs) (λ i b. g i (omega (arith, sort_length row_before rs)))

  other_key : (i : ℕ) → i < length rs → (key_of r ≡ key_at (keyed_region l rs) i → ⊥) → meets l r (sorted_at rs i) ≡ false
  other_key i b g = meets_at l k n h rs f r o i b ∙ ne_eqb (key_of r) (key_at (keyed_region l rs) i) g

  ascend : KeysAscend (length rs) (keyed_region l rs)
  ascend = keys_ascend l k n h rs f

  module _ (p : ℕ) where
    -- A ROW WITH THE KEY
    module _ (b : p < length rs) (e : key_at (keyed_region l rs) p ≡ key_of r) where
      meets_there : meets l r (sorted_at rs p) ≡ true
      meets_there = meets_at l k n h rs f r o p b ∙ eq-eqb (key_of r) (key_at (keyed_region l rs) p) (sym e)

      pub found_meets : any (meets l r) rs ≡ true
      found_meets = at_index (meets l r) p b meets_there

      pub found_clash : repeats l r (sorted_at rs p) ≡ false → any (clash l r) rs ≡ true
      found_clash g = at_index (clash l r) p b (clash_is l r (sorted_at rs p) ∙ and_both (meets l r (sorted_at rs p)) (not (repeats l r (sorted_at rs p))) meets_there (ap not g))

      -- one that it repeats: no other has the key
      pub found_repeat : repeats l r (sorted_at rs p) ≡ true → any (clash l r) rs ≡ false
      found_repeat g = at_none (clash l r) (λ i c. clash_is l r (sorted_at rs i) ∙ each i c (sides i p))
        where
          each : (i : ℕ) → i < length rs → Sides i p → (meets l r (sorted_at rs i) && not (repeats l r (sorted_at rs i))) ≡ false
          each i c (less a) = and_left_false (meets l r (sorted_at rs i)) (not (repeats l r (sorted_at rs i))) (other_key i c (λ q. omega (arith, ascend i p a b)))
          each i c (equal a) = and_right_false (meets l r (sorted_at rs i)) (not (repeats l r (sorted_at rs i))) (ap (λ (j : ℕ). not (repeats l r (sorted_at rs j))) a ∙ ap not g)
          each i c (greater a) = and_left_false (meets l r (sorted_at rs i)) (not (repeats l r (sorted_at rs i))) (other_key i c (λ q. omega (arith, ascend p i a c)))

    -- NO ROW WITH THE KEY
    module _ (w : Between (keyed_region l rs) (length rs) (key_of r) p p) (e : (ltb p (length rs) && eqb (key_at (keyed_region l rs) p) (key_of r)) ≡ false) where
      not_there : p < length rs → key_at (keyed_region l rs) p ≡ key_of r → ⊥
      not_there b q = torn (ltb p (length rs) && eqb (key_at (keyed_region l rs) p) (key_of r)) (and_both (ltb p (length rs)) (eqb (key_at (keyed_region l rs) p) (key_of r)) (lt-ltb p (length rs) b) (eq-eqb (key_at (keyed_region l rs) p) (key_of r) q)) e

      higher_there : p < length rs → key_of r < key_at (keyed_region l rs) p
      higher_there b = go (sides (key_of r) (key_at (keyed_region l rs) p))
        where
          go : Sides (key_of r) (key_at (keyed_region l rs) p) → key_of r < key_at (keyed_region l rs) p
          go (less a) = a
          go (equal a) = absurd (not_there b (sym a))
          go (greater a) = absurd (omega (arith, w.others p (omega arith) b))

      higher : (i : ℕ) → p ≤ i → i < length rs → key_of r < key_at (keyed_region l rs) i
      higher i a b = go (sides p i)
        where
          go : Sides p i → key_of r < key_at (keyed_region l rs) i
          go (less c) = omega (arith, higher_there (omega arith), ascend p i c b)
          go (equal c) = subst (λ (j : ℕ). key_of r < key_at (keyed_region l rs) j) c (higher_there (omega arith))
          go (greater c) = absurd (omega arith)

      pub absent : any (meets l r) rs ≡ false
      absent = at_none (meets l r) (λ i b. other_key i b (apart i b (sides i p)))
        where
          apart : (i : ℕ) → i < length rs → Sides i p → key_of r ≡ key_at (keyed_region l rs) i → ⊥
          apart i b (less a) q = omega (arith, w.lower i a)
          apart i b (equal a) q = omega (arith, higher i (omega arith) b)
          apart i b (greater a) q = omega (arith, higher i (omega arith) b)

      pub absent_place : p ≤ length rs → span (λ y. not (row_before r y)) (sort row_before rs) ≡ p
      absent_place le =
          span_index (λ y. not (row_before r y)) no_row (sort row_before rs) p (omega (arith, sort_length row_before rs))
          (λ i a. ap not (before_at l k n h rs f r o i (omega arith) ∙ le-ltb (key_of r) (key_at (keyed_region l rs) i) (omega (arith, w.lower i a))))
          (λ b. ap not (before_at l k n h rs f r o p (omega (arith, sort_length row_before rs)) ∙ lt-ltb (key_of r) (key_at (keyed_region l rs) p) (higher_there (omega (arith, sort_length row_before rs)))))

-- WHAT EACH ANSWER SHOWS, t the region as it was, u as it is
module _ (l : ListOf) (kd : keyed l ≡ true) (limit : ℕ) (m : most l ≡ limit) (key payload count : ℕ) (t : List ℕ) (p : ℕ) where
  key_there : (rs : List Row) (r : Row) → key_of r ≡ key → t ≡ keyed_region l rs → key_at t p ≡ key → key_at (keyed_region l rs) p ≡ key_of r
  key_there rs r ko e x = ap (λ (v : List ℕ). key_at v p) (sym e) ∙ x ∙ sym ko

  there : (ltb p count && eqb (key_at t p) key) ≡ true → (p < count) × (key_at t p ≡ key)
  there x =
      let q = and_parts (ltb p count) (eqb (key_at t p) key) x in
      (ltb-true p count q.0, eqb-true (key_at t p) key q.1)

  -- its payload stands in the region
  pub payload_within : length t ≡ 2 * limit → count ≤ limit → (b : Bool) → b ≡ (ltb p count && eqb (key_at t p) key) → b ≡ true → 2 * p + 1 < length t
  payload_within h k b x y = omega (arith, (there (sym x ∙ y)).0)

  module _ (x : (ltb p count && eqb (key_at t p) key) ≡ true) where
    payload_there : (n : ℕ) (rs : List Row) (r : Row) → n ≤ 256 → drops l ≡ true → payload_of r ≡ payload → length rs ≡ count → Fits l n rs
        → row_ok l n r ≡ true → t ≡ keyed_region l rs → repeats l r (sorted_at rs p) ≡ eqb payload (get_or t (2 * p + 1) 0)
    payload_there n rs r h d po len fi ok e =
        let c : p < length rs = omega (arith, len, (there x).0) in
        repeats_payload l n r (sorted_at rs p) d ok (fine_at l kd n (omega arith) rs fi p c)
        ∙ rw (po, ← payload_at l kd n (omega arith) rs fi p c, ← e) refl

    -- the key is there, in a list that drops nothing or with another payload
    pub shows_clash : (dr : Bool) → drops l ≡ dr → (u : List ℕ) → (dr && eqb (get_or t (2 * p + 1) 0) payload) ≡ false → (e : Refusal) → number_of e ≡ 13 → JoinShows l key payload count t u (Err e)
    shows_clash dr d u y z w n rs r h ko po len fi ok e =
        rw (join_clash l rs r (found_clash l kd n (omega arith) rs fi r ok p (omega (arith, len, (there x).0)) (key_there rs r ko e (there x).1) (other dr d y))) w
      where
        other : (dr : Bool) → drops l ≡ dr → (dr && eqb (get_or t (2 * p + 1) 0) payload) ≡ false → repeats l r (sorted_at rs p) ≡ false
        other false d y = repeats_never l r (sorted_at rs p) d
        other true d y = payload_there n rs r h d po len fi ok e ∙ ne_eqb payload (get_or t (2 * p + 1) 0) (λ q. torn (eqb (get_or t (2 * p + 1) 0) payload) (eq-eqb (get_or t (2 * p + 1) 0) payload (sym q)) y)

    -- the same row again
    pub shows_again : (dr : Bool) → drops l ≡ dr → (dr && eqb (get_or t (2 * p + 1) 0) payload) ≡ true → JoinShows l key payload count t t (Ok count)
    shows_again dr d y n rs r h ko po len fi ok e =
        let d' : drops l ≡ true = d ∙ (and_parts dr (eqb (get_or t (2 * p + 1) 0) payload) y).0 in
        let y' : get_or t (2 * p + 1) 0 ≡ payload = eqb-true (get_or t (2 * p + 1) 0) payload (and_parts dr (eqb (get_or t (2 * p + 1) 0) payload) y).1 in
        let c : p < length rs = omega (arith, len, (there x).0) in
        let q : key_at (keyed_region l rs) p ≡ key_of r = key_there rs r ko e (there x).1 in
        let g : repeats l r (sorted_at rs p) ≡ true = payload_there n rs r h d' po len fi ok e ∙ eq-eqb payload (get_or t (2 * p + 1) 0) (sym y') in
        rw (join_again l rs r (found_repeat l kd n (omega arith) rs fi r ok p c q g) (found_meets l kd n (omega arith) rs fi r ok p c q)) (ap Ok (sym len), e)

  -- the key is not there
  module _ (le : p ≤ count) (w : KeysAscend count t → Between t count key p p) (x : (ltb p count && eqb (key_at t p) key) ≡ false) where
    module _ (n : ℕ) (rs : List Row) (r : Row) (h : n ≤ 256) (ko : key_of r ≡ key) (len : length rs ≡ count) (fi : Fits l n rs) (e : t ≡ keyed_region l rs) where
      between_there : Between (keyed_region l rs) (length rs) (key_of r) p p
      between_there =
          let up : KeysAscend count t = subst (λ (c : ℕ). KeysAscend c t) len (subst (λ (v : List ℕ). KeysAscend (length rs) v) (sym e) (keys_ascend l kd n (omega arith) rs fi)) in
          rw (len, ko, ← e) (w up)

      none_there : (ltb p (length rs) && eqb (key_at (keyed_region l rs) p) (key_of r)) ≡ false
      none_there = rw (len, ko, ← e) x

    pub shows_full : (u : List ℕ) → count ≡ limit → (e : Refusal) → number_of e ≡ 14 → JoinShows l key payload count t u (Err e)
    shows_full u f z v n rs r h ko po len fi ok e =
        let a : any (meets l r) rs ≡ false = absent l kd n (omega arith) rs fi r ok p (between_there n rs r h ko len fi e) (none_there n rs r h ko len fi e) in
        rw (join_full l rs r (clash_meets l rs r a) a (omega (arith, m, len, f))) v

    pub shows_new : (u : List ℕ) → count < limit → u ≡ with_row t p count key payload → JoinShows l key payload count t u (Ok (count + 1))
    shows_new u f g n rs r h ko po len fi ok e =
        let a : any (meets l r) rs ≡ false = absent l kd n (omega arith) rs fi r ok p (between_there n rs r h ko len fi e) (none_there n rs r h ko len fi e) in
        let s : span (λ y. not (row_before r y)) (sort row_before rs) ≡ p = absent_place l kd n (omega arith) rs fi r ok p (between_there n rs r h ko len fi e) (none_there n rs r h ko len fi e) (omega (arith, len)) in
        rw (join_new l rs r (clash_meets l rs r a) a (omega (arith, m, len, f)))
        (ap Ok (ap (λ (c : ℕ). c + 1) (sym len) ∙ add-one (length rs)), g ∙ rw (← ko, ← po, ← len, e) (region_more l rs r p (omega (arith, len)) (omega (arith, m, len, f)) s))

-- a row behind all others
module _ (l : ListOf) (kd : keyed l ≡ true) (limit : ℕ) (m : most l ≡ limit) (key payload count : ℕ) (t : List ℕ) where
  pub shows_last : (u : List ℕ) → behind t count key ≡ true → count < limit → u ≡ with_row t count count key payload → JoinShows l key payload count t u (Ok (count + 1))
  shows_last u b =
      shows_new l kd limit m key payload count t count (omega arith) (λ up. behind_all t count key up b) (and_left_false (ltb count count) (eqb (key_at t count) key) (le-ltb count count (omega arith))) u
