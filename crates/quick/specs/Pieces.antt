-- What the pieces of a quick row are, each told of the bytes from a place of the block on: a number and the space behind it, a signed one, a kind's letter, a line's end.
-- Document 01, "Lines and labels" and "Rows". Assumes nothing.
use Rattle.std.specs.Prelude.{ℕ, ◌+◌, ◌-◌, ◌≤◌, ◌<◌, ◌≡◌, Bool, true, false, List, [], ◌∷◌, ◌++◌, length, take, drop, get_or, eqb}
use Rattle.std.specs.declared.option.Option.TheVariants.{Some}
use Rattle.lists.specs.Lists.{all}
use Rattle.format.specs.Bytes.{Bytes, bytes, within}
use Rattle.format.specs.Rows.{digit, number_from, number, signed, symbol, optional, place_in}
use Rattle.symbols.specs.ShownSymbols.{sym_of_mark}
use Rattle.rows.specs.Raised.{lowered, six_digits}
use Rattle.quick.specs.declared.parts.NumberAt.{NumberAt}
use Rattle.quick.specs.declared.parts.SymbolAt.{SymbolAt}
use Rattle.quick.specs.declared.parts.Tail.{Tail}
use Rattle.quick.specs.declared.parts.Digits.{Digits}
use Rattle.quick.specs.declared.parts.SignedAt.{SignedAt}

-- a word of a quick row: not empty, and no byte of it is a gap, `#` or `$`
pub record Word (w : Bytes) : Type 0 where
  pub some : 0 < length w
  pub seen : all (within 37 126) w ≡ true

abbrev pub Words : List Bytes → Type 0
Words [] = Unit {0}
Words (w ∷ ws) = Word w × Words ws

-- further words, each behind one space, and then e
unfoldable pub later : List Bytes → Bytes → Bytes
later [] e = e
later (w ∷ ws) e = 32 ∷ (w ++ later ws e)

-- a line's end: a line feed, a carriage return before it or not
abbrev pub feed : (returned : Bool) → Bytes
feed true = 13 ∷ 10 ∷ []
feed false = 10 ∷ []

-- the number stands at `at`, one space behind it, and the rest starts at `to`
pub record NumberIs (s : Bytes) (at : ℕ) (r : NumberAt) : Type 0 where
  pub word : Bytes
  pub is : drop at s ≡ word ++ (32 ∷ drop r.to s)
  pub fine : Word word
  pub says : number word ≡ Some r.number
  pub small : r.number < 1000
  pub low : at < r.to
  pub high : r.to ≤ at + 4

-- the line ends at `at`, and the next one starts at `next`
pub record EndIs (s : Bytes) (at next : ℕ) : Type 0 where
  pub returned : Bool
  pub is : drop at s ≡ feed returned ++ drop next s
  pub low : at < next
  pub high : next ≤ at + 2

-- a letter that is a kind
pub record KindIs (letter kind : ℕ) : Type 0 where
  pub says : place_in 1 (letter ∷ []) (bytes "SDTQA") ≡ Some kind
  pub seen : within 37 126 letter ≡ true
  pub small : kind < 6

-- a symbol stands from `at` to `to`, without a caret
pub record SymbolIs (s : Bytes) (at : ℕ) (r : SymbolAt) : Type 0 where
  pub word : Bytes
  pub is : drop at s ≡ word ++ drop r.to s
  pub fine : Word word
  pub says : symbol word ≡ Some (sym_of_mark r.mark)
  pub plain : r.mark.caret ≡ false
  pub bare : r.mark.mass ≡ 0
  pub low : at < r.to
  pub high : r.to ≤ at + 2

-- behind a symbol stand the implied hydrogens or none, and the line's end
pub record TailIs (s : Bytes) (at : ℕ) (r : Tail) : Type 0 where
  pub words : List Bytes
  pub returned : Bool
  pub is : drop at s ≡ later words (feed returned ++ drop r.next s)
  pub fine : Words words
  pub says : optional number words ≡ Some r.hydrogens
  pub small : r.hydrogens < 10
  pub low : at < r.next
  pub high : r.next ≤ at + 4

-- the digits from `at` on, none or at most six, and the number that they say
abbrev pub word_at : Bytes → (at to : ℕ) → Bytes
word_at s at to = take (to - at) (drop at s)

pub record DigitsAre (s : Bytes) (at : ℕ) (r : Digits) : Type 0 where
  pub low : at ≤ r.to
  pub high : r.to ≤ at + 6
  pub digits : all digit (word_at s at r.to) ≡ true
  pub says : number_from 0 (word_at s at r.to) ≡ Some r.value
  pub small : r.value < 1000000

-- the place behind a minus, if there is one; a number of that sign, 1,000,000 above it
unfoldable pub behind_minus : Bytes → (at : ℕ) → ℕ
behind_minus s at = elim (eqb (get_or s at 0) 45) [ true ↦ at + 1 | false ↦ at ]

abbrev pub lifted_by : (negative : Bool) → ℕ → ℕ
lifted_by true n = 1000000 - n
lifted_by false n = 1000000 + n

-- a signed number stands from `at` to `to`, and the answer's is 1,000,000 above it
pub record SignedIs (s : Bytes) (at : ℕ) (r : SignedAt) : Type 0 where
  pub word : Bytes
  pub is : drop at s ≡ word ++ drop r.to s
  pub fine : Word word
  pub says : signed word ≡ Some (lowered r.number)
  pub small : six_digits (lowered r.number) ≡ true
  pub low : at < r.to
  pub high : r.to ≤ at + 7

-- the same with a space behind it, and the rest starts at `to`
pub record SpacedIs (s : Bytes) (at : ℕ) (r : SignedAt) : Type 0 where
  pub stop : ℕ
  pub number : SignedIs s at (record { number = r.number; to = stop })
  pub is : drop stop s ≡ 32 ∷ drop r.to s
  pub next : r.to ≡ stop + 1
