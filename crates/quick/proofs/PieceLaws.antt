-- The pieces of a quick row, at places of the block. Document 01, "Lines and labels" and "Rows". Assumes nothing.
use Prim.Native.Nat.{ℕ, ◌+◌, ◌-◌, ◌*◌, ◌/◌, ◌%◌, ◌^◌, ◌≤◌, ◌<◌}
use mathlib.Core.Path.{◌≡◌, refl, sym, ap, ◌∙◌}
use mathlib.Core.Bool.{Bool, true, false, ◌&&◌}
use Rattle.std.specs.declared.option.Option.{Option}
use Rattle.std.specs.declared.option.Option.TheVariants.{None, Some}
use mathlib.Core.List.{[], ◌∷◌, ◌++◌}
use native.Mathlib.Omega.{arith}
use native.Mathlib.Numerals.{add-one}
use lib.ListN.{length, get_or, drop}
use lib.Seq.{drop-cons}
use lib.Dec.{eqb, ltb}
use borrow.Author.Tests.{eqb-true, ltb-true, ne_eqb}
use Rattle.lists.specs.Lists.{all, same_by}
use Rattle.lists.proofs.Bools.{and_parts}
use Rattle.lists.proofs.IndexLaws.{below, at_below}
use Rattle.lists.proofs.ListLaws.{all_nil, all_both, all_imply}
use Rattle.format.specs.Bytes.{Bytes, bytes, within}
use Rattle.format.specs.Rows.{digit, upper, lower, number, place_in}
use Rattle.format.proofs.ByteLaws.{within_is, digit_bounds, upper_bounds}
use Rattle.format.proofs.SymbolLaws.{symbol_plain, lettered_one, lettered_two, upper_printed, lower_printed}
use Rattle.symbols.specs.declared.Mark.{Mark}
use Rattle.format.proofs.NumberLaws.{value, number_is, digits_of_lem, from_digits, digit_printed}
use Rattle.quick.specs.Pieces.{Word, later, NumberIs, EndIs, KindIs, SymbolIs, TailIs}

-- the byte at a place, and the rest
pub byte_at : (s : Bytes) (i j : ℕ) → i < length s → j ≡ i + 1 → drop i s ≡ get_or s i 0 ∷ drop j s
byte_at s i j h e = drop-cons s i 0 h ∙ ap (λ (n : ℕ). get_or s i 0 ∷ drop n s) (sym (e ∙ add-one i))

-- NUMBERS
pub digits_word : (w : Bytes) → 0 < length w → all digit w ≡ true → Word w
digits_word w h d = record { some = h; seen = all_imply digit (within 37 126) digit_printed w d }

digits_say : (w : Bytes) → 0 < length w → length w ≤ 6 → all digit w ≡ true → number w ≡ Some (value 0 w)
digits_say w h k d = number_is w ∙ digits_of_lem 6 w h k ∙ from_digits 0 w d

-- what holds of one digit, two or three, and a space behind them
module _ (s : Bytes) (at n to : ℕ) (w : Bytes) (is : drop at s ≡ w ++ (32 ∷ drop to s)) (present : 0 < length w) (few : length w ≤ 3) (d : all digit w ≡ true) (v : value 0 w ≡ n) (small : n < 1000)
    (next : to ≡ at + length w + 1) where
  number_of : NumberIs s at (record { number = n; to = to })
  number_of = record {
    word = w;
    is = is;
    fine = digits_word w present d;
    says = digits_say w present (omega arith) d ∙ ap Some v;
    small = small;
    low = omega arith;
    high = omega arith;
  }

-- one digit more behind what is told already
pub sums : {t n x y : ℕ} → t ≡ x → n ≡ y → t * 10 + n ≡ x * 10 + y
sums e f = omega arith

module _ (s : Bytes) (at : ℕ) (room : at + 4 ≤ length s) where
  abbrev byte : ℕ → ℕ
  byte i = get_or s i 0

  one_digit : (d : ℕ) → digit d ≡ true → all digit (d ∷ []) ≡ true
  one_digit d e = all_both digit d [] e (all_nil digit)

  pub number_one : (n : ℕ) → digit (byte at) ≡ true → byte (at + 1) ≡ 32 → n ≡ byte at - 48 → NumberIs s at (record { number = n; to = at + 2 })
  unfolding value
  number_one n a e q =
      number_of s at n (at + 2) (byte at ∷ [])
      (byte_at s at (at + 1) (omega arith) refl ∙ ap (λ (r : Bytes). byte at ∷ r) (byte_at s (at + 1) (at + 2) (omega arith) (omega arith) ∙ ap (λ (b : ℕ). b ∷ drop (at + 2) s) e))
      (omega arith) (omega arith) (one_digit (byte at) a) (omega arith) (omega (arith, (digit_bounds (byte at) a).1)) (omega arith)

  pub number_two : (n : ℕ) → digit (byte at) ≡ true → digit (byte (at + 1)) ≡ true → byte (at + 2) ≡ 32 → n ≡ (byte at - 48) * 10 + (byte (at + 1) - 48) → NumberIs s at (record { number = n; to = at + 3 })
  unfolding value
  number_two n a b e q =
      number_of s at n (at + 3) (byte at ∷ byte (at + 1) ∷ [])
      (byte_at s at (at + 1) (omega arith) refl
      ∙ ap (λ (r : Bytes). byte at ∷ r) (byte_at s (at + 1) (at + 2) (omega arith) (omega arith)
      ∙ ap (λ (r : Bytes). byte (at + 1) ∷ r) (byte_at s (at + 2) (at + 3) (omega arith) (omega arith) ∙ ap (λ (c : ℕ). c ∷ drop (at + 3) s) e)))
      (omega arith) (omega arith) (all_both digit (byte at) _ a (one_digit (byte (at + 1)) b)) (omega arith)
      (omega (arith, (digit_bounds (byte at) a).1, (digit_bounds (byte (at + 1)) b).1)) (omega arith)

  pub number_three : (n : ℕ) → digit (byte at) ≡ true → digit (byte (at + 1)) ≡ true → digit (byte (at + 2)) ≡ true → byte (at + 3) ≡ 32
      → n ≡ ((byte at - 48) * 10 + (byte (at + 1) - 48)) * 10 + (byte (at + 2) - 48) → NumberIs s at (record { number = n; to = at + 4 })
  unfolding value
  number_three n a b c e q =
      number_of s at n (at + 4) (byte at ∷ byte (at + 1) ∷ byte (at + 2) ∷ [])
      (byte_at s at (at + 1) (omega arith) refl
      ∙ ap (λ (r : Bytes). byte at ∷ r) (byte_at s (at + 1) (at + 2) (omega arith) (omega arith)
      ∙ ap (λ (r : Bytes). byte (at + 1) ∷ r) (byte_at s (at + 2) (at + 3) (omega arith) (omega arith)
      ∙ ap (λ (r : Bytes). byte (at + 2) ∷ r) (byte_at s (at + 3) (at + 4) (omega arith) (omega arith) ∙ ap (λ (d : ℕ). d ∷ drop (at + 4) s) e))))
      (omega arith) (omega arith) (all_both digit (byte at) _ a (all_both digit (byte (at + 1)) _ b (one_digit (byte (at + 2)) c))) (omega arith)
      (omega (arith, (digit_bounds (byte at) a).1, (digit_bounds (byte (at + 1)) b).1, (digit_bounds (byte (at + 2)) c).1)) (omega arith)

-- A SYMBOL of one letter, of two
pub letter_word : (b : ℕ) → within 37 126 b ≡ true → Word (b ∷ [])
letter_word b e = record { some = omega arith; seen = all_both (within 37 126) b [] e (all_nil (within 37 126)) }

abbrev plain_mark : (first second : ℕ) → Mark
plain_mark a b = record { caret = false; mass = 0; first = a; second = b }

module _ (s : Bytes) (at : ℕ) (room : at + 2 ≤ length s) (u : upper (get_or s at 0) ≡ true) where
  abbrev one : ℕ
  one = get_or s at 0

  abbrev two : ℕ
  two = get_or s (at + 1) 0

  no_caret : one ≡ 94 → ⊥
  no_caret e = omega (arith, (upper_bounds one u).1)

  pub symbol_one : (m : Mark) → m ≡ plain_mark one 0 → SymbolIs s at (record { mark = m; to = at + 1 })
  symbol_one m e = rw e (record {
    word = one ∷ [];
    is = byte_at s at (at + 1) (omega arith) refl;
    fine = letter_word one (upper_printed one u);
    says = symbol_plain one [] (ne_eqb one 94 no_caret) ∙ lettered_one false 0 one u;
    plain = refl;
    bare = refl;
    low = omega arith;
    high = omega arith;
  })

  pub symbol_two : lower two ≡ true → (m : Mark) → m ≡ plain_mark one two → SymbolIs s at (record { mark = m; to = at + 2 })
  symbol_two l m e = rw e (record {
    word = one ∷ two ∷ [];
    is = byte_at s at (at + 1) (omega arith) refl ∙ ap (λ (r : Bytes). one ∷ r) (byte_at s (at + 1) (at + 2) (omega arith) (omega arith));
    fine = record { some = omega arith; seen = all_both (within 37 126) one (two ∷ []) (upper_printed one u) (letter_word two (lower_printed two l)).seen };
    says = symbol_plain one (two ∷ []) (ne_eqb one 94 no_caret) ∙ lettered_two false 0 one two u l;
    plain = refl;
    bare = refl;
    low = omega arith;
    high = omega arith;
  })

-- BEHIND A SYMBOL
module _ (s : Bytes) (at next : ℕ) where
  pub tail_bare : EndIs s at next → TailIs s at (record { hydrogens = 0; next = next })
  unfolding later
  tail_bare h = record { words = []; returned = h.returned; is = h.is; fine = tt; says = refl; small = omega arith; low = h.low; high = omega (arith, h.high) }

  pub tail_digit : at + 4 ≤ length s → get_or s at 0 ≡ 32 → digit (get_or s (at + 1) 0) ≡ true → (n : ℕ) → n ≡ get_or s (at + 1) 0 - 48 → EndIs s (at + 2) next → TailIs s at (record { hydrogens = n; next = next })
  unfolding later value
  tail_digit room e d n q h =
      let b : ℕ = get_or s (at + 1) 0 in
      let a : all digit (b ∷ []) ≡ true = all_both digit b [] d (all_nil digit) in
      let v : value 0 (b ∷ []) ≡ n = omega arith in
      record {
        words = (b ∷ []) ∷ [];
        returned = h.returned;
        is = byte_at s at (at + 1) (omega arith) refl ∙ ap (λ (c : ℕ). c ∷ drop (at + 1) s) e ∙ ap (λ (r : Bytes). 32 ∷ r) (byte_at s (at + 1) (at + 2) (omega arith) (omega arith) ∙ ap (λ (r : Bytes). b ∷ r) h.is);
        fine = (digits_word (b ∷ []) (omega arith) a, tt);
        says = digits_say (b ∷ []) (omega arith) (omega arith) a ∙ ap Some v;
        small = omega (arith, (digit_bounds b d).1);
        low = omega (arith, h.low);
        high = omega (arith, h.high);
      }

-- THE KIND, three bits a letter
abbrev pub kind_at : (k : ℕ) → ℕ
kind_at k = 451485862643893253 / 2 ^ (3 * k) % 8

unfoldable kind_of : ℕ → ℕ
kind_of letter = elim (place_in 1 (letter ∷ []) (bytes "SDTQA")) [ None ↦ 0 | Some n ↦ n ]

unfoldable right : ℕ → Bool
right k = eqb (kind_at k) (kind_of (65 + k)) && ltb (kind_at k) 6

all_right : below right 20 ≡ true
unfolding below right kind_of place_in bytes same_by
all_right = refl

kind_said : (letter n : ℕ) → n ≡ kind_of letter → (n ≡ 0 → ⊥) → place_in 1 (letter ∷ []) (bytes "SDTQA") ≡ Some n
unfolding kind_of
kind_said letter n e z = go (place_in 1 (letter ∷ []) (bytes "SDTQA")) refl
  where
    go : (r : Option ℕ) → place_in 1 (letter ∷ []) (bytes "SDTQA") ≡ r → place_in 1 (letter ∷ []) (bytes "SDTQA") ≡ Some n
    go None f = absurd (z (e ∙ rw (f, kind_of)))
    go (Some m) f = f ∙ ap Some (sym (e ∙ rw (f, kind_of)))

module _ (letter : ℕ) (low : 65 ≤ letter) (high : letter ≤ 84) where
  entry_right : (eqb (kind_at (letter - 65)) (kind_of (65 + (letter - 65))) ≡ true) × (ltb (kind_at (letter - 65)) 6 ≡ true)
  unfolding right
  entry_right = and_parts _ _ (at_below right 20 all_right (letter - 65) (omega arith))

  pub kind_is : (k : ℕ) → k ≡ letter - 65 → (kind_at k ≡ 0 → ⊥) → KindIs letter (kind_at k)
  kind_is k e z =
      let j : 65 + (letter - 65) ≡ letter = omega arith in
      let same : kind_at k ≡ kind_at (letter - 65) = ap kind_at e in
      record {
        says = kind_said letter (kind_at k) (same ∙ eqb-true _ _ entry_right.0 ∙ ap kind_of j) z;
        seen = within_is 37 126 letter (omega arith) (omega arith);
        small = rw same (ltb-true _ _ entry_right.1);
      }
