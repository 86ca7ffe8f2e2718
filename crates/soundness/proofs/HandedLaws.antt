-- The number that says that a molecule is handed as a whole, and the two behind it: they are fine if and only if they are those derived from the table's structure, and the
-- structure is not handed by a centre or a pair too. Serves document 02, L4 ("A sound table with 13 set has no centres and no pairs."). Assumes nothing.
use Prim.Native.Nat.{ℕ, zero, suc, ◌≤◌, ◌<◌}
use mathlib.Core.Path.{◌≡◌, refl, sym, ap, ap₂, ◌∙◌}
use mathlib.Core.Bool.{Bool, true, false, not, ◌&&◌, ◌||◌}
use mathlib.Core.List.{List, [], ◌∷◌}
use native.Mathlib.Omega.{arith}
use lib.ListN.{length, take, drop, replicate, length-drop}
use lib.Seq.{length-take-le, drop-cons}
use lib.IntN.{ℤ, pos, negsuc, nat_abs}
use lib.Dec.{eqb, leb}
use borrow.Author.Tests.{ne_eqb, lt-leb}
use Rattle.lists.specs.Lists.{is_nil, all, rows_from}
use Rattle.lists.proofs.Bools.{and_parts, and_both, and_left_false, and_right_false}
use Rattle.format.specs.Bytes.{within}
use Rattle.format.specs.Structure.{ranging, handed_twice}
use Rattle.format.specs.Table.{cell, marked_at, flag, derived, same_number}
use Rattle.format.proofs.TableLaws.{number_equal, number_self}
use Rattle.soundness.specs.Sounding.{number_at, unused, handed_fine}
use Rattle.soundness.proofs.SplitLaws.{ranging_pos, unused_is}
use Rattle.soundness.proofs.HeaderLaws.{shown}

-- ONE NUMBER: 0, or 1 in a table with no other handedness; -1 has the size of 1, and is not fine
below_zero : (handed : Bool) (n : ℕ) → same_number (flag handed) (negsuc n) ≡ false
below_zero true n = refl
below_zero false n = refl

above : (low high n : ℕ) → high < n → ranging low high (pos n) ≡ false
unfolding ranging within
above low high n h = and_right_false (leb low n) (leb n high) (lt-leb n high h)

beyond_one : (n : ℕ) (alone : Bool) → (ranging 0 0 (pos (suc (suc n))) || (ranging 1 1 (pos (suc (suc n))) && alone)) ≡ (same_number (flag (eqb (suc (suc n)) 1)) (pos (suc (suc n))) && not (eqb (suc (suc n)) 1 && not alone))
beyond_one n alone =
    let m : ℕ = suc (suc n) in
    rw (above 0 0 m (omega arith), above 1 1 m (omega arith), ne_eqb m 1 (λ e. omega arith)) (sym (and_left_false (eqb 0 m) true (ne_eqb 0 m (λ e. omega arith))))

number_fine : (z : ℤ) (alone : Bool) → (ranging 0 0 z || (ranging 1 1 z && alone)) ≡ (same_number (flag (eqb (nat_abs z) 1)) z && not (eqb (nat_abs z) 1 && not alone))
unfolding ranging within
number_fine (pos zero) alone = refl
number_fine (pos (suc zero)) true = refl
number_fine (pos (suc zero)) false = refl
number_fine (pos (suc (suc n))) alone = beyond_one n alone
number_fine (negsuc n) alone = rw (below_zero (eqb (suc n) 1) n)

rows_none : {A : Type 0} (w : ℕ) (row : List ℤ → A) (n : ℕ) (t : List ℤ) → eqb n 0 ≡ is_nil (rows_from w row n t)
unfolding rows_from
rows_none w row zero t = refl
rows_none w row (suc n) t = ne_eqb (suc n) 0 (λ e. omega arith)

module _ (t : List ℤ) where
  handed_once : handed_fine t ≡ (same_number (flag (shown t).handed) (number_at t 13) && not (handed_twice (shown t)))
  unfolding handed_fine handed_twice
  handed_once =
      number_fine (number_at t 13) (eqb (cell t 4) 0 && eqb (cell t 5) 0) ∙ rw (rows_none 3 (marked_at 1) (cell t 4) (drop 2960 t), rows_none 4 (marked_at 2) (cell t 5) (drop 3344 t))

  pub handed_there : handed_fine t ≡ true → (flag (shown t).handed ≡ number_at t 13) × (not (handed_twice (shown t)) ≡ true)
  handed_there h =
      let p = and_parts (same_number (flag (shown t).handed) (number_at t 13)) (not (handed_twice (shown t))) (sym handed_once ∙ h) in
      (number_equal (flag (shown t).handed) (number_at t 13) p.0, p.1)

  handed_back : flag (shown t).handed ≡ number_at t 13 → not (handed_twice (shown t)) ≡ true → handed_fine t ≡ true
  handed_back e h =
      handed_once ∙ and_both _ (not (handed_twice (shown t))) (ap (same_number (flag (shown t).handed)) (sym e) ∙ number_self (flag (shown t).handed)) h

  -- THE THREE NUMBERS behind the texts' places
  module _ (long : 3856 ≤ length t) where
    three : take 3 (drop 13 t) ≡ number_at t 13 ∷ take 2 (drop 14 t)
    three = ap (take 3) (drop-cons t 13 (pos 0) (omega arith))

    pub derived_there : handed_fine t ≡ true → unused (take 2 (drop 14 t)) ≡ true → derived (shown t) ≡ take 3 (drop 13 t)
    unfolding derived
    derived_there h k =
        let n : length (take 2 (drop 14 t)) ≡ 2 = length-take-le 2 (drop 14 t) (omega (arith, length-drop 14 t)) in
        let z : take 2 (drop 14 t) ≡ pos 0 ∷ pos 0 ∷ [] = unused_is (take 2 (drop 14 t)) k ∙ ap (λ (i : ℕ). replicate i (pos 0)) n in
        ap₂ (λ (x : ℤ) (l : List ℤ). x ∷ l) (handed_there h).0 (sym z) ∙ sym three

    pub derived_back : derived (shown t) ≡ take 3 (drop 13 t) → not (handed_twice (shown t)) ≡ true → (handed_fine t && unused (take 2 (drop 14 t))) ≡ true
    unfolding derived unused all
    derived_back e h =
        let q : derived (shown t) ≡ number_at t 13 ∷ take 2 (drop 14 t) = e ∙ three in
        and_both (handed_fine t) _ (handed_back (ap (λ (l : List ℤ). number_at l 0) q) h) (ap unused (sym (ap (drop 1) q)) ∙ rw (ranging_pos 0 0 0 (omega arith) (omega arith)))
