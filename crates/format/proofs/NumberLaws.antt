-- Numbers: what a word of digits says, clause by clause, at an index, with its bound; and that a printed number is read as itself. Serves document 01, "Rows" ("An
-- unsigned number is 1 to 6 digits; a signed one may have `+` or `-` before them") and "The one written form" ("no leading zeros"). Assumes nothing.
use Prim.Native.Nat.{ℕ, zero, suc, ◌+◌, ◌-◌, ◌*◌, ◌/◌, ◌%◌, ◌^◌, ◌≤◌, ◌<◌}
use mathlib.Core.Path.{◌≡◌, refl, sym, ap, ◌∙◌}
use mathlib.Core.Bool.{Bool, true, false}
use Rattle.std.specs.declared.option.Option.TheVariants.{None, Some}
use Rattle.std.proofs.lemmas.Option.{none-some, same_Some}
use mathlib.Core.List.{List, [], ◌∷◌, ◌++◌, map}
use native.Mathlib.Omega.{arith}
use native.Mathlib.Nat.{pow-suc, zero-add, add-zero, pow-le-pow_right}
use native.Mathlib.Numerals.{add-one}
use lib.ListN.{length, get_or, drop, length-append, drop_of_length-le}
use lib.Seq.{drop-cons}
use lib.IntN.{ℤ, pos, negsuc, nat_abs}
use lib.Dec.{ltb, leb}
use borrow.Author.Tests.{lt-ltb, le-ltb, ltb-true, ltb-false, leb-true, leb-false}
use Rattle.lists.specs.Lists.{all}
use Rattle.lists.proofs.ListLaws.{all_nil, all_parts, all_both, all_append_both, all_imply}
use Rattle.format.specs.Bytes.{Bytes, within}
use Rattle.format.specs.Rows.{digit, number_from, digits_of, number, natural, negative, signed, numbers}
use Rattle.format.specs.Writing.{digits_in, digits, signed_of}
use Rattle.format.proofs.ByteLaws.{within_is, within_true, within_low, within_high, digit_bounds}
use Rattle.format.proofs.FieldLaws.{printed, Words}

-- CLAUSES, and at an index
pub from_digit : (a d : ℕ) (w : Bytes) → digit d ≡ true → number_from a (d ∷ w) ≡ number_from (a * 10 + (d - 48)) w
unfolding number_from
from_digit a d w e = rw (e, number_from)

pub from_other : (a d : ℕ) (w : Bytes) → digit d ≡ false → number_from a (d ∷ w) ≡ None
unfolding number_from
from_other a d w e = rw (e, number_from)

pub from_nil : (a : ℕ) → number_from a [] ≡ Some a
unfolding number_from
from_nil a = refl

module _ (a : ℕ) (w : Bytes) (i : ℕ) where
  pub from_at_digit : i < length w → digit (get_or w i 0) ≡ true → number_from a (drop i w) ≡ number_from (a * 10 + (get_or w i 0 - 48)) (drop (i + 1) w)
  from_at_digit h e = rw (drop-cons w i 0 h, add-one) (from_digit a (get_or w i 0) (drop (suc i) w) e)

  pub from_at_other : i < length w → digit (get_or w i 0) ≡ false → number_from a (drop i w) ≡ None
  from_at_other h e = rw (drop-cons w i 0 h) (from_other a (get_or w i 0) (drop (suc i) w) e)

  pub from_at_end : length w ≤ i → number_from a (drop i w) ≡ Some a
  from_at_end h = ap (number_from a) (drop_of_length-le w h) ∙ from_nil a

-- so many digits
module _ (most : ℕ) (w : Bytes) where
  pub digits_of_lem : 0 < length w → length w ≤ most → digits_of most w ≡ number_from 0 w
  unfolding digits_of
  digits_of_lem h k = rw (within_is 1 most (length w) h k, digits_of)

  pub digits_of_none : length w ≡ 0 → digits_of most w ≡ None
  unfolding digits_of
  digits_of_none h = rw (within_low 1 most (length w) (omega arith), digits_of)

  pub digits_of_long : most < length w → digits_of most w ≡ None
  unfolding digits_of
  digits_of_long h = rw (within_high 1 most (length w) h, digits_of)

pub number_is : (w : Bytes) → number w ≡ digits_of 6 w
unfolding number
number_is w = refl

-- THE VALUE of digits
unfoldable pub value : ℕ → Bytes → ℕ
value a [] = a
value a (d ∷ w) = value (a * 10 + (d - 48)) w

pub from_digits : (a : ℕ) (w : Bytes) → all digit w ≡ true → number_from a w ≡ Some (value a w)
unfolding value
from_digits a [] h = from_nil a
from_digits a (d ∷ w) h = from_digit a d w (all_parts digit d w h).0 ∙ from_digits (a * 10 + (d - 48)) w (all_parts digit d w h).1

pub value_append : (a : ℕ) (v w : Bytes) → value a (v ++ w) ≡ value (value a v) w
unfolding value
value_append a [] w = refl
value_append a (d ∷ v) w = value_append (a * 10 + (d - 48)) v w

pub value_one : (a d : ℕ) → value a (d ∷ []) ≡ a * 10 + (d - 48)
unfolding value
value_one a d = refl

pub value_first : (d : ℕ) (w : Bytes) → value 0 (d ∷ w) ≡ value (d - 48) w
unfolding value
value_first d w = let q : 0 * 10 + (d - 48) ≡ d - 48 = omega arith in ap (λ (a : ℕ). value a w) q

-- THE BOUND: k digits more are k powers of ten more
pub bound_more : (a k d : ℕ) → a < 10 ^ k → digit d ≡ true → a * 10 + (d - 48) < 10 ^ suc k
bound_more a k d h e = rw pow-suc (omega (arith, (digit_bounds d e).0, (digit_bounds d e).1))

pub from_bound : (a k n : ℕ) (w : Bytes) → a < 10 ^ k → number_from a w ≡ Some n → n < 10 ^ (k + length w)
from_bound a k n [] h e = let q : a ≡ n = same_Some a n (sym (from_nil a) ∙ e) in rw (add-zero k) (rw q at h)
from_bound a k n (d ∷ w) h e = go (digit d) refl (from_bound (a * 10 + (d - 48)) (suc k) n w)
  where
    go : (t : Bool) → digit d ≡ t → (a * 10 + (d - 48) < 10 ^ suc k → number_from (a * 10 + (d - 48)) w ≡ Some n → n < 10 ^ (suc k + length w)) → n < 10 ^ (k + suc (length w))
    go true f ih = let s : k + suc (length w) ≡ suc k + length w = omega arith in rw s (ih (bound_more a k d h f) (sym (from_digit a d w f) ∙ e))
    go false f ih = absurd (none-some n (sym (from_other a d w f) ∙ e))

pub digits_of_bound : (most n : ℕ) (w : Bytes) → digits_of most w ≡ Some n → (0 < length w) × (length w ≤ most) × (n < 10 ^ most)
digits_of_bound most n w e = go (leb 1 (length w)) (leb (length w) most) refl refl
  where
    go : (t u : Bool) → leb 1 (length w) ≡ t → leb (length w) most ≡ u → (0 < length w) × (length w ≤ most) × (n < 10 ^ most)
    go false u p q = let h : length w < 1 = leb-false 1 (length w) p in absurd (none-some n (sym (digits_of_none most w (omega arith)) ∙ e))
    go true false p q = absurd (none-some n (sym (digits_of_long most w (leb-false (length w) most q)) ∙ e))
    go true true p q =
        let h : 1 ≤ length w = leb-true 1 (length w) p in
        let k : length w ≤ most = leb-true (length w) most q in
        let b : n < 10 ^ (0 + length w) = from_bound 0 0 n w (omega arith) (sym (digits_of_lem most w h k) ∙ e) in
        let c : n < 10 ^ length w = rw (zero-add (length w)) at b in
        let m : 10 ^ length w ≤ 10 ^ most = pow-le-pow_right (omega arith) k in
        (h, k, omega arith)

pub number_bound : (n : ℕ) (w : Bytes) → number w ≡ Some n → n < 1000000
number_bound n w e = (digits_of_bound 6 n w (sym (number_is w) ∙ e)).2

-- PRINTED NUMBERS
pub digits_one : (k n : ℕ) → n < 10 → digits_in (suc k) n ≡ (48 + n) ∷ []
unfolding digits_in
digits_one k n h = rw (lt-ltb _ _ h, digits_in)

pub digits_more : (k n : ℕ) → 10 ≤ n → digits_in (suc k) n ≡ digits_in k (n / 10) ++ ((48 + n % 10) ∷ [])
unfolding digits_in
digits_more k n h = rw (le-ltb _ _ h, digits_in)

pub digits_nil : (n : ℕ) → digits_in 0 n ≡ []
unfolding digits_in
digits_nil n = refl

pub is_digit : (n : ℕ) → n < 10 → digit (48 + n) ≡ true
is_digit n h = within_is 48 57 (48 + n) (omega arith) (omega arith)

-- by whether there is one digit: what holds of one, and of one more behind some, holds of all
module _ (P : ℕ → ℕ → Bytes → Type 0) (None : (n : ℕ) → P 0 n []) (one : (k n : ℕ) → n < 10 → P (suc k) n ((48 + n) ∷ []))
    (more : (k n : ℕ) → 10 ≤ n → P k (n / 10) (digits_in k (n / 10)) → P (suc k) n (digits_in k (n / 10) ++ ((48 + n % 10) ∷ []))) where
  digits_by : (k n : ℕ) → P k n (digits_in k n)
  digits_by zero n = rw (digits_nil n) (None n)
  digits_by (suc k) n = go (ltb n 10) refl (digits_by k (n / 10))
    where
      go : (t : Bool) → ltb n 10 ≡ t → P k (n / 10) (digits_in k (n / 10)) → P (suc k) n (digits_in (suc k) n)
      go true e ih = rw (digits_one k n (ltb-true _ _ e)) (one k n (ltb-true _ _ e))
      go false e ih = rw (digits_more k n (ltb-false _ _ e)) (more k n (ltb-false _ _ e) ih)

pub digits_digits : (k n : ℕ) → all digit (digits_in k n) ≡ true
digits_digits = digits_by (λ k n w. all digit w ≡ true) (λ n. all_nil digit) (λ k n h. all_both digit (48 + n) [] (is_digit n h) (all_nil digit))
    (λ k n h ih. all_append_both digit (digits_in k (n / 10)) _ ih (all_both digit (48 + n % 10) [] (is_digit (n % 10) (omega arith)) (all_nil digit)))

pub digits_most : (k n : ℕ) → length (digits_in k n) ≤ k
digits_most = digits_by (λ k n w. length w ≤ k) (λ n. omega arith) (λ k n h. omega arith) (λ k n h ih. omega (arith, ih, length-append (digits_in k (n / 10)) ((48 + n % 10) ∷ [])))

pub digits_value : (k n : ℕ) → n < 10 ^ k → value 0 (digits_in k n) ≡ n
unfolding value
digits_value = digits_by (λ k n w. n < 10 ^ k → value 0 w ≡ n) (λ n h. omega arith) (λ k n h b. omega arith)
    (λ k n h ih b.
    let c : n < 10 ^ k * 10 = rw pow-suc at b in
    let v : value 0 (digits_in k (n / 10)) ≡ n / 10 = ih (omega arith) in
    value_append 0 (digits_in k (n / 10)) ((48 + n % 10) ∷ []) ∙ omega arith)

pub digits_some : (k n : ℕ) → 0 < length (digits_in (suc k) n)
digits_some k n = go (ltb n 10) refl
  where
    go : (t : Bool) → ltb n 10 ≡ t → 0 < length (digits_in (suc k) n)
    go true e = rw (digits_one k n (ltb-true _ _ e)) (omega arith)
    go false e = rw (digits_more k n (ltb-false _ _ e), length-append (digits_in k (n / 10)) ((48 + n % 10) ∷ [])) (omega arith)

-- as few as the number's size has, however many there may be
pub digits_few : (k j n : ℕ) → n < 10 ^ suc j → length (digits_in k n) ≤ suc j
digits_few zero j n h = rw (digits_nil n) (omega arith)
digits_few (suc k) j n h = go (ltb n 10) refl j h (digits_few k)
  where
    go : (t : Bool) → ltb n 10 ≡ t → (j : ℕ) → n < 10 ^ suc j → ((j m : ℕ) → m < 10 ^ suc j → length (digits_in k m) ≤ suc j) → length (digits_in (suc k) n) ≤ suc j
    go true e j h ih = rw (digits_one k n (ltb-true _ _ e)) (omega arith)
    go false e zero h ih = absurd (omega (arith, ltb-false n 10 e))
    go false e (suc j) h ih =
        let b : n < 10 ^ suc j * 10 = rw pow-suc at h in
        rw (digits_more k n (ltb-false _ _ e), length-append (digits_in k (n / 10)) ((48 + n % 10) ∷ [])) (omega (arith, ih j (n / 10) (omega arith)))

-- more room changes nothing
pub digits_room : (k n : ℕ) → n < 10 ^ suc k → digits_in (suc (suc k)) n ≡ digits_in (suc k) n
digits_room zero n h = digits_one 1 n h ∙ sym (digits_one 0 n h)
digits_room (suc k) n h = go (ltb n 10) refl (digits_room k (n / 10))
  where
    go : (t : Bool) → ltb n 10 ≡ t → (n / 10 < 10 ^ suc k → digits_in (suc (suc k)) (n / 10) ≡ digits_in (suc k) (n / 10)) → digits_in (suc (suc (suc k))) n ≡ digits_in (suc (suc k)) n
    go true e ih = digits_one (suc (suc k)) n (ltb-true _ _ e) ∙ sym (digits_one (suc k) n (ltb-true _ _ e))
    go false e ih =
        let b : n < 10 ^ suc k * 10 = rw pow-suc at h in
        rw (digits_more (suc (suc k)) n (ltb-false _ _ e), digits_more (suc k) n (ltb-false _ _ e), ih (omega arith))

pub digits_is : (n : ℕ) → digits n ≡ digits_in 6 n
unfolding digits
digits_is n = refl

-- for a loop that prints: one digit, or the digits of the tenth and one more
pub digits_small : (n : ℕ) → n < 10 → digits n ≡ (48 + n) ∷ []
unfolding digits
digits_small n h = digits_one 5 n h

pub digits_back : (n : ℕ) → 10 ≤ n → n < 1000000 → digits n ≡ digits (n / 10) ++ ((48 + n % 10) ∷ [])
unfolding digits
digits_back n h b = digits_more 5 n h ∙ ap (λ (w : Bytes). w ++ ((48 + n % 10) ∷ [])) (sym (digits_room 4 (n / 10) (omega arith)))

-- WHAT HOLDS of every printed number
pub record Number (w : Bytes) : Type 0 where
  pub digits : all digit w ≡ true
  pub some : 0 < length w
  pub few : length w ≤ 6

pub printed_number : (n : ℕ) → Number (digits n)
unfolding digits
printed_number n = record { digits = digits_digits 6 n; some = digits_some 5 n; few = digits_most 6 n }

pub number_few : (j n : ℕ) → n < 10 ^ suc j → length (digits n) ≤ suc j
unfolding digits
number_few j n h = digits_few 6 j n h

pub number_value : (n : ℕ) → n < 1000000 → value 0 (digits n) ≡ n
unfolding digits
number_value n h = digits_value 6 n h

pub digit_printed : (b : ℕ) → digit b ≡ true → printed b ≡ true
digit_printed b e = within_is 37 126 b (omega (arith, (digit_bounds b e).0)) (omega (arith, (digit_bounds b e).1))

pub digits_printed : (n : ℕ) → all printed (digits n) ≡ true
digits_printed n = all_imply digit printed digit_printed (digits n) (printed_number n).digits

-- THE WAY BACK
pub digits_of_back : (j n : ℕ) → j ≤ 5 → n < 10 ^ suc j → digits_of (suc j) (digits n) ≡ Some n
unfolding digits
digits_of_back j n r h =
    let m : 10 ^ suc j ≤ 10 ^ 6 = pow-le-pow_right (omega arith) {i = suc j} {j = 6} (omega arith) in
    digits_of_lem (suc j) (digits_in 6 n) (digits_some 5 n) (digits_few 6 j n h) ∙ from_digits 0 (digits_in 6 n) (digits_digits 6 n) ∙ ap Some (digits_value 6 n (omega arith))

pub number_back : (n : ℕ) → n < 1000000 → number (digits n) ≡ Some n
number_back n h = number_is (digits n) ∙ digits_of_back 5 n (omega arith) h

pub natural_back : (n : ℕ) → n < 1000000 → natural (digits n) ≡ Some (pos n)
unfolding natural
natural_back n h = rw (number_back n h)

pub negative_back : (n : ℕ) → suc n < 1000000 → negative (digits (suc n)) ≡ Some (negsuc n)
unfolding negative
negative_back n h = rw (number_back (suc n) h)

pub signed_back : (v : ℤ) → nat_abs v < 1000000 → signed (signed_of v) ≡ Some v
unfolding signed
signed_back (pos n) h = natural_back n h
signed_back (negsuc n) h = negative_back n h

pub signed_printed : (v : ℤ) → (0 < length (signed_of v)) × (all printed (signed_of v) ≡ true)
signed_printed (pos n) = (omega arith, all_both printed 43 (digits n) (within_is 37 126 43 (omega arith) (omega arith)) (digits_printed n))
signed_printed (negsuc n) = (omega arith, all_both printed 45 (digits (suc n)) (within_is 37 126 45 (omega arith) (omega arith)) (digits_printed (suc n)))

-- lists of numbers
abbrev pub small : ℕ → Bool
small n = ltb n 1000000

pub numbers_back : (ns : List ℕ) → all small ns ≡ true → numbers (map digits ns) ≡ Some ns
unfolding numbers
numbers_back [] h = refl
numbers_back (n ∷ ns) h = let p : (small n ≡ true) × (all small ns ≡ true) = all_parts small n ns h in rw (number_back n (ltb-true _ _ p.0), numbers_back ns p.1)

pub within_small : (n : ℕ) (ns : List ℕ) → n < 1000000 → all (within 1 n) ns ≡ true → all small ns ≡ true
within_small n ns h e = all_imply (within 1 n) small (λ m q. lt-ltb m 1000000 (omega (arith, (within_true 1 n m q).1))) ns e

pub numbers_words : (ns : List ℕ) → Words (map digits ns)
numbers_words [] = tt
numbers_words (n ∷ ns) = ((printed_number n).some, digits_printed n, numbers_words ns)
