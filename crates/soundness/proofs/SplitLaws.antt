-- Parts of a table one behind the other, and a region that is filled up with zeros: a list put together from parts is a table's stretch if and only if each part is
-- that stretch's part. Serves document 01, "The structure table" ("unused ones are 0"). Assumes nothing.
use Prim.Native.Nat.{ℕ, ◌+◌, ◌-◌, ◌≤◌}
use mathlib.Core.Path.{◌≡◌, refl, sym, ap, ◌∙◌}
use mathlib.Core.Bool.{true}
use mathlib.Core.List.{List, [], ◌∷◌, ◌++◌}
use native.Mathlib.Omega.{arith}
use lib.ListN.{length, take, drop, replicate, length-drop}
use lib.Seq.{length-take-le, take-add, drop-drop}
use lib.IntN.{ℤ, pos, negsuc, nat_abs}
use Rattle.lists.specs.Lists.{all, filled}
use Rattle.lists.proofs.Bools.{torn}
use Rattle.lists.proofs.ListLaws.{all_parts, all_replicate}
use Rattle.lists.proofs.PartLaws.{filled_is, append_parts}
use Rattle.format.specs.Structure.{ranging}
use Rattle.format.proofs.ByteLaws.{within_true, within_is}
use Rattle.soundness.specs.Sounding.{unused}

-- A STRETCH of a table as two parts
module _ {A : Type 0} (t a b : List A) (from n m : ℕ) where
  pub split : length a ≡ n → from + n ≤ length t → a ++ b ≡ take (n + m) (drop from t) → (a ≡ take n (drop from t)) × (b ≡ take m (drop (from + n) t))
  split h k e =
      let s : List A = drop from t in
      let q : length a ≡ length (take n s) = h ∙ sym (length-take-le n s (omega (arith, length-drop from t))) in
      let p : (a ≡ take n s) × (b ≡ take m (drop n s)) = append_parts a (take n s) b (take m (drop n s)) q (e ∙ take-add n m s) in
      (p.0, p.1 ∙ ap (take m) (drop-drop n from t))

  pub joined : a ≡ take n (drop from t) → b ≡ take m (drop (from + n) t) → a ++ b ≡ take (n + m) (drop from t)
  joined e f = rw (e, f, ← drop-drop n from t) (sym (take-add n m (drop from t)))

-- A NUMBER IN A RANGE
pub record Ranged (low high : ℕ) (z : ℤ) : Type 0 where
  pub is : pos (nat_abs z) ≡ z
  pub low_is : low ≤ nat_abs z
  pub high_is : nat_abs z ≤ high

pub ranged_of : (low high : ℕ) (z : ℤ) → ranging low high z ≡ true → Ranged low high z
unfolding ranging
ranged_of low high (pos n) h = let p = within_true low high n h in record { is = refl; low_is = p.0; high_is = p.1 }
ranged_of low high (negsuc n) h = torn _ h refl

pub ranging_of : (low high : ℕ) (z : ℤ) → pos (nat_abs z) ≡ z → low ≤ nat_abs z → nat_abs z ≤ high → ranging low high z ≡ true
unfolding ranging
ranging_of low high z e h k = ap (ranging low high) (sym e) ∙ within_is low high (nat_abs z) h k

pub ranging_pos : (low high n : ℕ) → low ≤ n → n ≤ high → ranging low high (pos n) ≡ true
ranging_pos low high n h k = ranging_of low high (pos n) refl h k

-- ZEROS
pub zero_is : (z : ℤ) → ranging 0 0 z ≡ true → z ≡ pos 0
zero_is z h =
    let r : Ranged 0 0 z = ranged_of 0 0 z h in
    let q : nat_abs z ≡ 0 = omega (arith, r.high_is) in
    sym r.is ∙ ap pos q

pub unused_is : (s : List ℤ) → unused s ≡ true → s ≡ replicate (length s) (pos 0)
unfolding unused
unused_is [] h = refl
unused_is (z ∷ s) h =
    let p : (ranging 0 0 z ≡ true) × (all (ranging 0 0) s ≡ true) = all_parts (ranging 0 0) z s h in
    rw (zero_is z p.0) (ap (λ (l : List ℤ). pos 0 ∷ l) (unused_is s p.1))

unused_zeros : (n : ℕ) → unused (replicate n (pos 0)) ≡ true
unfolding unused
unused_zeros n = all_replicate (ranging 0 0) n (pos 0) (ranging_pos 0 0 0 (omega arith) (omega arith))

-- A REGION FILLED UP
module _ (t cells : List ℤ) (from size used : ℕ) (h : length cells ≡ used) (k : used ≤ size) (l : from + size ≤ length t) where
  parts_are : filled (pos 0) size cells ≡ cells ++ replicate (size - used) (pos 0)
  parts_are = filled_is (pos 0) size cells ∙ ap (λ (n : ℕ). cells ++ replicate (size - n) (pos 0)) h

  whole_is : take size (drop from t) ≡ take (used + (size - used)) (drop from t)
  whole_is = let q : size ≡ used + (size - used) = omega arith in ap (λ (n : ℕ). take n (drop from t)) q

  pub region_split : filled (pos 0) size cells ≡ take size (drop from t) → (cells ≡ take used (drop from t)) × (unused (take (size - used) (drop (from + used) t)) ≡ true)
  region_split e =
      let p = split t cells (replicate (size - used) (pos 0)) from used (size - used) h (omega arith) (sym parts_are ∙ e ∙ whole_is) in
      (p.0, ap unused (sym p.1) ∙ unused_zeros (size - used))

  pub region_joined : cells ≡ take used (drop from t) → unused (take (size - used) (drop (from + used) t)) ≡ true → filled (pos 0) size cells ≡ take size (drop from t)
  region_joined e f =
      let z : List ℤ = take (size - used) (drop (from + used) t) in
      let n : length z ≡ size - used = length-take-le (size - used) (drop (from + used) t) (omega (arith, length-drop (from + used) t)) in
      parts_are ∙ joined t cells (replicate (size - used) (pos 0)) from used (size - used) e (ap (λ (i : ℕ). replicate i (pos 0)) (sym n) ∙ sym (unused_is z f)) ∙ sym whole_is
