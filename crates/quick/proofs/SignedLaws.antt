-- Signed numbers of a quick row, at places of the block: document 02, L2, "three signed numbers of 1 to 6 digits". Assumes nothing.
use Prim.Native.Nat.{ℕ, suc, ◌+◌, ◌-◌, ◌*◌, ◌^◌, ◌≤◌, ◌<◌}
use mathlib.Core.Path.{◌≡◌, refl, sym, ap, ◌∙◌}
use mathlib.Core.Bool.{Bool, true, false}
use Rattle.std.specs.declared.option.Option.TheVariants.{Some}
use Rattle.std.proofs.lemmas.Option.{same_Some}
use mathlib.Core.List.{[], ◌∷◌, ◌++◌}
use native.Mathlib.Omega.{arith}
use lib.ListN.{length, get_or, take, drop, length-drop, take-append-drop}
use lib.Seq.{take-suc, get_or-drop, drop-drop, length-take-le}
use lib.IntN.{pos, neg_ℤ}
use lib.Dec.{eqb, ltb}
use borrow.Author.Tests.{eq-eqb, ne_eqb, eqb-true, eqb-false, lt-ltb, le-ltb}
use Rattle.lists.specs.Lists.{all}
use Rattle.lists.proofs.ListLaws.{all_nil, all_both, all_parts, all_append_both}
use Rattle.format.specs.Bytes.{Bytes, within}
use Rattle.format.specs.Rows.{◌and_then◌, digit, number_from, number, natural, negative, signed}
use Rattle.format.proofs.ByteLaws.{within_is, digit_bounds}
use Rattle.format.proofs.NumberLaws.{number_is, digits_of_lem, from_nil, from_digit, bound_more}
use Rattle.rows.specs.Raised.{lowered, six_digits}
use Rattle.rows.proofs.XyzLaws.{lowered_raised, raised_plus, raised_minus}
use Rattle.quick.specs.Pieces.{word_at, DigitsAre, behind_minus, lifted_by, SignedIs, SpacedIs}
use Rattle.quick.specs.declared.parts.Digits.{Digits}
use Rattle.quick.specs.declared.parts.SignedAt.{SignedAt}
use Rattle.quick.proofs.PieceLaws.{byte_at, digits_word}

-- ONE DIGIT MORE
word_more : (s : Bytes) (at to : ℕ) → at ≤ to → to < length s → word_at s at (to + 1) ≡ word_at s at to ++ (get_or s to 0 ∷ [])
word_more s at to h l =
    let q : to + 1 - at ≡ suc (to - at) = omega arith in
    let m : to - at < length (drop at s) = simp length-drop (omega arith) in
    let g : at + (to - at) ≡ to = omega arith in
    ap (λ (n : ℕ). take n (drop at s)) q ∙ take-suc (drop at s) (to - at) 0 m ∙ ap (λ (b : ℕ). word_at s at to ++ (b ∷ [])) (get_or-drop at s (to - at) 0 ∙ ap (λ (n : ℕ). get_or s n 0) g)

from_append : (a n d : ℕ) (w : Bytes) → all digit w ≡ true → number_from a w ≡ Some n → digit d ≡ true → number_from a (w ++ (d ∷ [])) ≡ Some (n * 10 + (d - 48))
from_append a n d [] h e f =
    let q : a ≡ n = same_Some a n (sym (from_nil a) ∙ e) in
    from_digit a d [] f ∙ from_nil (a * 10 + (d - 48)) ∙ ap (λ (m : ℕ). Some (m * 10 + (d - 48))) q
from_append a n d (b ∷ w) h e f =
    let p : (digit b ≡ true) × (all digit w ≡ true) = all_parts digit b w h in
    from_digit a b (w ++ (d ∷ [])) p.0 ∙ from_append (a * 10 + (b - 48)) n d w p.1 (sym (from_digit a b w p.0) ∙ e) f

-- the digits so far
pub record SoFar (s : Bytes) (at value to : ℕ) : Type 0 where
  pub low : at ≤ to
  pub high : to ≤ at + 6
  pub digits : all digit (word_at s at to) ≡ true
  pub says : number_from 0 (word_at s at to) ≡ Some value
  pub small : value < 10 ^ (to - at)

pub so_far_none : (s : Bytes) (at : ℕ) → SoFar s at 0 at
so_far_none s at =
    let z : at - at ≡ 0 = omega arith in
    let w : word_at s at at ≡ [] = ap (λ (n : ℕ). take n (drop at s)) z in
    record { low = omega arith; high = omega arith; digits = ap (all digit) w ∙ all_nil digit; says = ap (number_from 0) w ∙ from_nil 0; small = rw z (omega arith) }

pub so_far_more : (s : Bytes) (at value to d : ℕ) → SoFar s at value to → at + 6 ≤ length s → to < at + 6 → digit (get_or s to 0) ≡ true → d ≡ get_or s to 0 - 48 → SoFar s at (value * 10 + d) (to + 1)
so_far_more s at value to d h room l e q =
    let w : word_at s at (to + 1) ≡ word_at s at to ++ (get_or s to 0 ∷ []) = word_more s at to h.low (omega arith) in
    let k : to + 1 - at ≡ suc (to - at) = omega (arith, h.low) in
    let v : value * 10 + (get_or s to 0 - 48) ≡ value * 10 + d = omega arith in
    record {
      low = omega (arith, h.low);
      high = omega arith;
      digits = ap (all digit) w ∙ all_append_both digit (word_at s at to) (get_or s to 0 ∷ []) h.digits (all_both digit (get_or s to 0) [] e (all_nil digit));
      says = ap (number_from 0) w ∙ from_append 0 value (get_or s to 0) (word_at s at to) h.digits h.says e ∙ ap Some v;
      small = rw (k, ← v) (bound_more value (to - at) (get_or s to 0) h.small e);
    }

-- A WORD with its sign
bare_digits : (b : ℕ) (w : Bytes) → digit b ≡ true → signed (b ∷ w) ≡ natural (b ∷ w)
unfolding signed
bare_digits b w e = rw (ne_eqb b 43 (λ q. omega (arith, (digit_bounds b e).0)), ne_eqb b 45 (λ q. omega (arith, (digit_bounds b e).0)), signed)

signed_digits : (w : Bytes) (n : ℕ) → 0 < length w → all digit w ≡ true → number w ≡ Some n → signed w ≡ Some (pos n)
unfolding natural
signed_digits [] n h d e = absurd (omega arith)
signed_digits (b ∷ w) n h d e = bare_digits b w (all_parts digit b w d).0 ∙ rw (e, ◌and_then◌)

signed_minus : (w : Bytes) (n : ℕ) → number w ≡ Some n → signed (45 ∷ w) ≡ Some (neg_ℤ (pos n))
unfolding signed negative
signed_minus w n e = rw (e, ◌and_then◌)

-- THE SIGN
pub minus_there : (s : Bytes) (at : ℕ) → get_or s at 0 ≡ 45 → at + 1 ≡ behind_minus s at
unfolding behind_minus
minus_there s at e = sym (rw (eq-eqb (get_or s at 0) 45 e, behind_minus))

pub minus_absent : (s : Bytes) (at : ℕ) → (get_or s at 0 ≡ 45 → ⊥) → at ≡ behind_minus s at
unfolding behind_minus
minus_absent s at e = sym (rw (ne_eqb (get_or s at 0) 45 e, behind_minus))

-- the digits as a number without a sign, and behind a minus
module _ (s : Bytes) (from : ℕ) (r : Digits) (h : DigitsAre s from r) (more : r.to ≡ from → ⊥) (room : from + 6 ≤ length s) where
  abbrev digit_word : Bytes
  digit_word = word_at s from r.to

  long : length digit_word ≡ r.to - from
  long = length-take-le (r.to - from) (drop from s) (simp length-drop (omega (arith, h.high)))

  some_digits : 0 < length digit_word
  some_digits = omega (arith, long, h.low)

  digits_number : number digit_word ≡ Some r.value
  digits_number = number_is digit_word ∙ digits_of_lem 6 digit_word some_digits (omega (arith, long, h.high)) ∙ h.says

  digits_stand : drop from s ≡ digit_word ++ drop r.to s
  digits_stand =
      let k : from + (r.to - from) ≡ r.to = omega (arith, h.low) in
      sym (take-append-drop (r.to - from) (drop from s)) ∙ ap (λ (t : Bytes). digit_word ++ t) (drop-drop (r.to - from) from s ∙ ap (λ (n : ℕ). drop n s) k)

  plus_is : lowered (lifted_by false r.value) ≡ pos r.value
  plus_is = lowered_raised (pos r.value) (raised_plus r.value h.small).1

  minus_is : lowered (lifted_by true r.value) ≡ neg_ℤ (pos r.value)
  minus_is = let p = raised_minus r.value h.small in ap lowered (sym p.0) ∙ lowered_raised (neg_ℤ (pos r.value)) p.1

  pub plain_signed : SignedIs s from (record { number = lifted_by false r.value; to = r.to })
  plain_signed = record {
    word = digit_word;
    is = digits_stand;
    fine = digits_word digit_word some_digits h.digits;
    says = signed_digits digit_word r.value some_digits h.digits digits_number ∙ ap Some (sym plus_is);
    small = ap six_digits plus_is ∙ (raised_plus r.value h.small).1;
    low = omega (arith, h.low);
    high = omega (arith, h.high);
  }

  pub minus_signed : (at : ℕ) → from ≡ at + 1 → get_or s at 0 ≡ 45 → SignedIs s at (record { number = lifted_by true r.value; to = r.to })
  minus_signed at e b = record {
    word = 45 ∷ digit_word;
    is = byte_at s at from (omega (arith, h.high)) e ∙ ap (λ (c : ℕ). c ∷ drop from s) b ∙ ap (λ (t : Bytes). 45 ∷ t) digits_stand;
    fine = record { some = omega arith; seen = all_both (within 37 126) 45 digit_word (within_is 37 126 45 (omega arith) (omega arith)) (digits_word digit_word some_digits h.digits).seen };
    says = signed_minus digit_word r.value digits_number ∙ ap Some (sym minus_is);
    small = ap six_digits minus_is ∙ (raised_minus r.value h.small).1;
    low = omega (arith, h.low);
    high = omega (arith, h.high);
  }

-- BY WHETHER A MINUS STANDS THERE
pub signed_is : (s : Bytes) (at : ℕ) (from : ℕ) → from ≡ behind_minus s at → at + 7 ≤ length s → (r : Digits) → DigitsAre s from r → (r.to ≡ from → ⊥) → (n : ℕ) → n ≡ lifted_by (ltb at from) r.value
    → SignedIs s at (record { number = n; to = r.to })
signed_is s at from e room r h more n q = go (eqb (get_or s at 0) 45) refl
  where
    go : (t : Bool) → eqb (get_or s at 0) 45 ≡ t → SignedIs s at (record { number = n; to = r.to })
    go true f =
        let b : get_or s at 0 ≡ 45 = eqb-true (get_or s at 0) 45 f in
        let k : from ≡ at + 1 = e ∙ sym (minus_there s at b) in
        let m : n ≡ lifted_by true r.value = q ∙ ap (λ (t : Bool). lifted_by t r.value) (lt-ltb at from (omega arith)) in
        rw m (minus_signed s from r h more (omega arith) at k b)
    go false f =
        let b : get_or s at 0 ≡ 45 → ⊥ = eqb-false (get_or s at 0) 45 f in
        let k : from ≡ at = e ∙ sym (minus_absent s at b) in
        let m : n ≡ lifted_by false r.value = q ∙ ap (λ (t : Bool). lifted_by t r.value) (le-ltb at from (omega arith)) in
        rw (m, ← k) (plain_signed s from r h more (omega arith))

pub behind_near : (s : Bytes) (at from : ℕ) → from ≡ behind_minus s at → (at ≤ from) × (from ≤ at + 1)
behind_near s at from e = go (eqb (get_or s at 0) 45) refl
  where
    go : (t : Bool) → eqb (get_or s at 0) 45 ≡ t → (at ≤ from) × (from ≤ at + 1)
    go true f = let k : from ≡ at + 1 = e ∙ sym (minus_there s at (eqb-true (get_or s at 0) 45 f)) in (omega arith, omega arith)
    go false f = let k : from ≡ at = e ∙ sym (minus_absent s at (eqb-false (get_or s at 0) 45 f)) in (omega arith, omega arith)

pub spaced_near : (s : Bytes) (at : ℕ) (r : SignedAt) → SpacedIs s at r → (at < r.to) × (r.to ≤ at + 8)
spaced_near s at r h = (omega (arith, h.next, h.number.low), omega (arith, h.next, h.number.high))
