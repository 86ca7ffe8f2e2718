-- Rows get their numbers in the order in which they appear, atom by atom, and the row without atoms gets the last: these are the rows' numbers in the sorted list.
-- Document 01, "The structure table". Assumes nothing.
use Prim.Native.Nat.{ℕ, suc, ◌≤◌, ◌<◌}
use mathlib.Core.Path.{◌≡◌, refl, sym, ap, ◌∙◌, subst}
use mathlib.Core.Bool.{Bool, true, false, ◌&&◌, not}
use mathlib.Core.Logic.{◌⊎◌, inl, inr}
use mathlib.Core.List.{List, [], ◌∷◌}
use native.Mathlib.Omega.{arith}
use lib.ListN.{length, get_or, set, length-set}
use lib.Seq.{get_or-set_same, get_or-set_other}
use lib.Dec.{eqb, ltb}
use borrow.Author.Tests.{eqb-true, eqb-false, ne_eqb, lt-ltb, eq-eqb}
use Rattle.lists.proofs.Bools.{and_both, and_left_false, and_right_false}
use Rattle.numbering.specs.Numbering.{is_new, next_after, order_after, numbered}

-- WHETHER A ROW IS NEW
module _ (k : ℕ) (order : List ℕ) where
  pub new_zero : k ≡ 0 → is_new k order ≡ false
  unfolding is_new
  new_zero e = and_left_false (not (eqb k 0)) (ltb k (length order) && eqb (get_or order k 0) 0) (ap not (eq-eqb k 0 e))

  pub new_numbered : (get_or order k 0 ≡ 0 → ⊥) → is_new k order ≡ false
  unfolding is_new
  new_numbered h =
      and_right_false (not (eqb k 0)) (ltb k (length order) && eqb (get_or order k 0) 0)
      (and_right_false (ltb k (length order)) (eqb (get_or order k 0) 0) (ne_eqb (get_or order k 0) 0 h))

  pub new_is : (k ≡ 0 → ⊥) → k < length order → get_or order k 0 ≡ 0 → is_new k order ≡ true
  unfolding is_new
  new_is h l e =
      and_both (not (eqb k 0)) (ltb k (length order) && eqb (get_or order k 0) 0) (ap not (ne_eqb k 0 h))
      (and_both (ltb k (length order)) (eqb (get_or order k 0) 0) (lt-ltb k (length order) l) (eq-eqb (get_or order k 0) 0 e))

pub numbered_cons : (next k : ℕ) (ks order : List ℕ) → numbered next (k ∷ ks) order ≡ numbered (next_after (is_new k order) next) ks (order_after (is_new k order) k next order)
unfolding numbered
numbered_cons next k ks order = refl

pub numbered_nil : (next : ℕ) (order : List ℕ) → numbered next [] order ≡ order
unfolding numbered
numbered_nil next order = refl

-- TWO NUMBERINGS of the rows that atoms stand in, f as they came and g as they are sorted: both tell the same rows apart, and by g they appear in order
pub record Numberings (f g : ℕ → ℕ) : Type 0 where
  pub none : (n : ℕ) → f n ≡ 0 → g n ≡ 0
  pub some : (n : ℕ) → g n ≡ 0 → f n ≡ 0
  pub same : (n m : ℕ) → (f n ≡ 0 → ⊥) → f n ≡ f m → g n ≡ g m
  pub back : (n m : ℕ) → (g n ≡ 0 → ⊥) → g n ≡ g m → f n ≡ f m
  pub small : (n : ℕ) → f n < 65
  pub above : (n : ℕ) → (g n ≡ 0 → ⊥) → ((m : ℕ) → m < n → g m ≡ g n → ⊥) → (m : ℕ) → m < n → g m < g n
  pub tight : (n : ℕ) → (g n ≡ 0 → ⊥) → ((m : ℕ) → m < n → g m ≡ g n → ⊥) → (g n ≡ 1) ⊎ ((m : ℕ) × (m < n) × (suc (g m) ≡ g n))

-- where the atoms below n have been looked at
pub record Going (f g : ℕ → ℕ) (n next : ℕ) (order : List ℕ) : Type 0 where
  pub long : length order ≡ 65
  pub met : (m : ℕ) → m < n → (f m ≡ 0 → ⊥) → get_or order (f m) 0 ≡ 0 → ⊥
  pub right : (m : ℕ) → (get_or order (f m) 0 ≡ 0 → ⊥) → get_or order (f m) 0 ≡ g m
  pub first : get_or order 0 0 ≡ 0
  pub low : (k : ℕ) → get_or order k 0 < next
  pub above : (m : ℕ) → m < n → g m < next
  pub tight : (next ≡ 1) ⊎ ((m : ℕ) × (m < n) × (suc (g m) ≡ next))

module _ (f g : ℕ → ℕ) (N : Numberings f g) (n next : ℕ) (order : List ℕ) (G : Going f g n next order) where
  -- up to n, and n itself
  split : (P : ℕ → Type 0) → ((m : ℕ) → m < n → P m) → P n → (m : ℕ) → m < suc n → P m
  split P h p m l = go (eqb m n) refl
    where
      go : (t : Bool) → eqb m n ≡ t → P m
      go true e = rw (eqb-true m n e) p
      go false e = h m (omega (arith, eqb-false m n e))

  wider : (next ≡ 1) ⊎ ((m : ℕ) × (m < n) × (suc (g m) ≡ next)) → (next ≡ 1) ⊎ ((m : ℕ) × (m < suc n) × (suc (g m) ≡ next))
  wider (inl e) = inl e
  wider (inr x) = inr (x.0, omega (arith, x.1), x.2)

  -- an atom without a row, or of a row that has its number
  passed : ((f n ≡ 0 → ⊥) → get_or order (f n) 0 ≡ 0 → ⊥) → g n < next → Going f g (suc n) next order
  passed h l = record {
    long = G.long;
    met = split (λ m. (f m ≡ 0 → ⊥) → get_or order (f m) 0 ≡ 0 → ⊥) G.met h;
    right = G.right;
    first = G.first;
    low = G.low;
    above = split (λ m. g m < next) G.above l;
    tight = wider G.tight;
  }

  pub pass_zero : f n ≡ 0 → Going f g (suc n) next order
  pass_zero e = passed (λ h. absurd (h e)) (omega (arith, N.none n e, G.low 0))

  pub pass_numbered : (get_or order (f n) 0 ≡ 0 → ⊥) → Going f g (suc n) next order
  pass_numbered h = passed (λ k. h) (omega (arith, G.right n h, G.low (f n)))

  -- an atom of a row that has none
  module _ (mine : f n ≡ 0 → ⊥) (free : get_or order (f n) 0 ≡ 0) where
    lasting : g n ≡ 0 → ⊥
    lasting e = mine (N.some n e)

    new : (m : ℕ) → m < n → g m ≡ g n → ⊥
    new m l e =
        let q : f n ≡ f m = N.back n m lasting (sym e) in
        G.met m l (λ z. mine (q ∙ z)) (ap (λ (k : ℕ). get_or order k 0) (sym q) ∙ free)

    most : (g n ≡ 1) ⊎ ((m : ℕ) × (m < n) × (suc (g m) ≡ g n)) → g n ≤ next
    most (inl e) = omega (arith, e, G.low 0)
    most (inr x) = omega (arith, x.2, G.above x.0 x.1)

    least : (next ≡ 1) ⊎ ((m : ℕ) × (m < n) × (suc (g m) ≡ next)) → next ≤ g n
    least (inl e) = omega (arith, e, lasting)
    least (inr x) = omega (arith, x.2, N.above n lasting new x.0 x.1)

    number_is : g n ≡ next
    number_is = omega (arith, most (N.tight n lasting new), least G.tight)

    room : f n < length order
    room = omega (arith, N.small n, G.long)

    here : (k : ℕ) → k ≡ f n → get_or (set order (f n) next) k 0 ≡ next
    here k e = ap (λ (i : ℕ). get_or (set order (f n) next) i 0) e ∙ get_or-set_same order (f n) next 0 room

    there : (k : ℕ) → (k ≡ f n → ⊥) → get_or (set order (f n) next) k 0 ≡ get_or order k 0
    there k e = get_or-set_other order (f n) k next 0 e

    met_more : (m : ℕ) → m < suc n → (f m ≡ 0 → ⊥) → get_or (set order (f n) next) (f m) 0 ≡ 0 → ⊥
    met_more m l h z = go (eqb (f m) (f n)) refl
      where
        go : (t : Bool) → eqb (f m) (f n) ≡ t → ⊥
        go true e = omega (arith, here (f m) (eqb-true (f m) (f n) e), z, G.low 0)
        go false e = split (λ k. (f k ≡ f n → ⊥) → (f k ≡ 0 → ⊥) → get_or order (f k) 0 ≡ 0 → ⊥) (λ k b a. G.met k b) (λ a b c. a refl) m l (eqb-false (f m) (f n) e) h (sym (there (f m) (eqb-false (f m) (f n) e)) ∙ z)

    right_more : (m : ℕ) → (get_or (set order (f n) next) (f m) 0 ≡ 0 → ⊥) → get_or (set order (f n) next) (f m) 0 ≡ g m
    right_more m h = go (eqb (f m) (f n)) refl
      where
        go : (t : Bool) → eqb (f m) (f n) ≡ t → get_or (set order (f n) next) (f m) 0 ≡ g m
        go true e = here (f m) (eqb-true (f m) (f n) e) ∙ sym number_is ∙ N.same n m mine (sym (eqb-true (f m) (f n) e))
        go false e = let q = there (f m) (eqb-false (f m) (f n) e) in q ∙ G.right m (λ z. h (q ∙ z))

    low_more : (k : ℕ) → get_or (set order (f n) next) k 0 < suc next
    low_more k = go (eqb k (f n)) refl
      where
        go : (t : Bool) → eqb k (f n) ≡ t → get_or (set order (f n) next) k 0 < suc next
        go true e = omega (arith, here k (eqb-true k (f n) e))
        go false e = omega (arith, there k (eqb-false k (f n) e), G.low k)

    pub pass_new : Going f g (suc n) (suc next) (set order (f n) next)
    pass_new = record {
      long = length-set order (f n) next ∙ G.long;
      met = met_more;
      right = right_more;
      first = there 0 (λ e. mine (sym e)) ∙ G.first;
      low = low_more;
      above = split (λ m. g m < suc next) (λ m l. omega (arith, G.above m l)) (omega (arith, number_is));
      tight = inr (n, omega arith, ap suc number_is);
    }

  -- one atom more
  pub pass : Going f g (suc n) (next_after (is_new (f n) order) next) (order_after (is_new (f n) order) (f n) next order)
  pass = go (eqb (f n) 0) refl
    where
      kept : is_new (f n) order ≡ false → Going f g (suc n) next order → Going f g (suc n) (next_after (is_new (f n) order) next) (order_after (is_new (f n) order) (f n) next order)
      kept e h = subst (λ (b : Bool). Going f g (suc n) (next_after b next) (order_after b (f n) next order)) (sym e) h

      at : (f n ≡ 0 → ⊥) → (t : Bool) → eqb (get_or order (f n) 0) 0 ≡ t → Going f g (suc n) (next_after (is_new (f n) order) next) (order_after (is_new (f n) order) (f n) next order)
      at h true e =
          let z : get_or order (f n) 0 ≡ 0 = eqb-true (get_or order (f n) 0) 0 e in
          subst (λ (b : Bool). Going f g (suc n) (next_after b next) (order_after b (f n) next order)) (sym (new_is (f n) order h (room h z) z)) (pass_new h z)
      at h false e = let z = eqb-false (get_or order (f n) 0) 0 e in kept (new_numbered (f n) order z) (pass_numbered z)

      go : (t : Bool) → eqb (f n) 0 ≡ t → Going f g (suc n) (next_after (is_new (f n) order) next) (order_after (is_new (f n) order) (f n) next order)
      go true e = kept (new_zero (f n) order (eqb-true (f n) 0 e)) (pass_zero (eqb-true (f n) 0 e))
      go false e = at (eqb-false (f n) 0 e) (eqb (get_or order (f n) 0) 0) refl
