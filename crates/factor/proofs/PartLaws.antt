-- A word parted at its first point, and the digits of one part behind those of the other. Serves document 02, L2 ("1 to 9 digits with at most one point,
-- anywhere"). Assumes nothing.
use Prim.Native.Nat.{ℕ, suc, ◌+◌, ◌-◌, ◌*◌, ◌^◌, ◌≤◌, ◌<◌}
use mathlib.Core.Path.{◌≡◌, refl, sym, ap, ◌∙◌}
use mathlib.Core.Bool.{Bool, true, false, cond}
use Rattle.std.specs.declared.option.Option.{Option}
use Rattle.std.specs.declared.option.Option.TheVariants.{None, Some}
use mathlib.Core.List.{[], ◌∷◌, ◌++◌}
use native.Mathlib.Nat.{pow-le-pow_right}
use native.Mathlib.Omega.{arith}
use lib.Dec.{eqb, ltb}
use lib.ListN.{length, length-append}
use Rattle.std.specs.Prelude.{unwrap_or}
use Rattle.std.specs.List.{position_or_len}
use Rattle.lists.specs.Lists.{span}
use Rattle.lists.proofs.LibraryLaws.{place_or, span_is}
use Rattle.format.specs.Bytes.{Bytes}
use Rattle.format.specs.Rows.{◌and_then◌, digit, number_from, digits_of}
use Rattle.format.specs.Coordinates.{unpointed}
use Rattle.format.proofs.NumberLaws.{from_digit, from_other, from_nil, from_bound, bound_more, digits_of_lem, digits_of_none, digits_of_long, digits_of_bound}

-- ROOM for digits: a part of l digits leaves 9 - l before it
pub room_more : (l i n d : ℕ) → n < 10 ^ (9 - l + i) → digit d ≡ true → n * 10 + (d - 48) < 10 ^ (9 - l + (i + 1))
room_more l i n d h e = let s : 9 - l + (i + 1) ≡ suc (9 - l + i) = omega arith in rw s (bound_more n (9 - l + i) d h e)

pub room_left : (l i n : ℕ) → l ≤ 9 → i < l → n < 10 ^ (9 - l + i) → n < 100000000
room_left l i n k j h = let m : 10 ^ (9 - l + i) ≤ 10 ^ 8 = pow-le-pow_right (omega arith) {j = 8} (omega arith) in omega arith

pub room_end : (l i n : ℕ) → l ≤ 9 → i ≤ l → n < 10 ^ (9 - l + i) → n < 1000000000
room_end l i n k j h = let m : 10 ^ (9 - l + i) ≤ 10 ^ 9 = pow-le-pow_right (omega arith) {j = 9} (omega arith) in omega arith

-- A POINT, as the library's search tests for it, and its place
abbrev pub pointed : ℕ → Bool
pointed b = eqb b 46

pub place_is : (w : Bytes) (r : Option ℕ) → r ≡ cond (ltb (position_or_len pointed w) (length w)) (Some (position_or_len pointed w)) None → unwrap_or r (length w) ≡ span unpointed w
place_is w r e = ap (λ (o : Option ℕ). unwrap_or o (length w)) e ∙ place_or pointed w ∙ span_is unpointed w

-- DIGITS one part after the other
from_append : (a : ℕ) (v w : Bytes) → number_from a (v ++ w) ≡ (number_from a v and_then λ b. number_from b w)
from_append a [] w = sym (rw (from_nil a))
from_append a (d ∷ v) w = go (digit d) refl (from_append (a * 10 + (d - 48)) v w)
  where
    go : (t : Bool) → digit d ≡ t → number_from (a * 10 + (d - 48)) (v ++ w) ≡ (number_from (a * 10 + (d - 48)) v and_then λ b. number_from b w)
        → number_from a (d ∷ (v ++ w)) ≡ (number_from a (d ∷ v) and_then λ b. number_from b w)
    go true e ih = from_digit a d (v ++ w) e ∙ ih ∙ sym (ap (λ (o : Option ℕ). o and_then λ b. number_from b w) (from_digit a d v e))
    go false e ih = from_other a d (v ++ w) e ∙ sym (ap (λ (o : Option ℕ). o and_then λ b. number_from b w) (from_other a d v e))

-- A FRONT AND WHAT IS BEHIND it, nine digits at most
module _ (front behind : Bytes) where
  counted : length (front ++ behind) ≡ length front + length behind
  counted = length-append front behind

  pub no_digits : length front + length behind < 1 → None ≡ digits_of 9 (front ++ behind)
  no_digits h = sym (digits_of_none 9 (front ++ behind) (omega (arith, counted)))

  pub many_digits : 9 < length front + length behind → None ≡ digits_of 9 (front ++ behind)
  many_digits h = sym (digits_of_long 9 (front ++ behind) (omega (arith, counted)))

  module _ (low : 1 ≤ length front + length behind) (high : length front + length behind ≤ 9) where
    digits_are : digits_of 9 (front ++ behind) ≡ (number_from 0 front and_then λ b. number_from b behind)
    digits_are = digits_of_lem 9 (front ++ behind) (omega (arith, counted)) (omega (arith, counted)) ∙ from_append 0 front behind

    pub front_room : (length front ≤ 9) × (0 < 10 ^ (9 - length front))
    front_room = let m : 10 ^ 0 ≤ 10 ^ (9 - length front) = pow-le-pow_right (omega arith) {i = 0} {j = 9 - length front} (omega arith) in (omega arith, omega arith)

    pub front_none : None ≡ number_from 0 front → None ≡ digits_of 9 (front ++ behind)
    front_none e = ap (λ (o : Option ℕ). o and_then λ b. number_from b behind) e ∙ sym digits_are

    module _ (n : ℕ) (e : Some n ≡ number_from 0 front) where
      pub behind_room : (length behind ≤ 9) × (n < 10 ^ (9 - length behind))
      behind_room =
          let b : n < 10 ^ (0 + length front) = from_bound 0 0 n front (omega arith) (sym e) in
          let m : 10 ^ (0 + length front) ≤ 10 ^ (9 - length behind) = pow-le-pow_right (omega arith) {i = 0 + length front} {j = 9 - length behind} (omega arith) in
          (omega arith, omega arith)

      pub both_is : number_from n behind ≡ digits_of 9 (front ++ behind)
      both_is = ap (λ (o : Option ℕ). o and_then λ b. number_from b behind) e ∙ sym digits_are

  pub few_behind : (n : ℕ) → Some n ≡ digits_of 9 (front ++ behind) → length behind ≤ 9
  few_behind n e = omega (arith, counted, (digits_of_bound 9 n (front ++ behind) (sym e)).1)
