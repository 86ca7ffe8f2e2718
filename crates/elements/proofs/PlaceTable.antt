-- The elements by their letters, and the rule of it, which is computed once for all letters: an entry is the place among the symbols of the letters that its
-- number has. Serves the elements of document 01, "Rows". Assumes nothing.
use mathlib.Core.Path.{◌≡◌, refl, sym, ap, ◌∙◌}
use mathlib.Core.Bool.{Bool, true}
use mathlib.Core.List.{List, [], ◌∷◌}
use Prim.Native.Nat.{ℕ, ◌*◌, ◌/◌, ◌%◌, ◌^◌, ◌≤◌, ◌<◌}
use native.Mathlib.Omega.{arith}
use lib.ListN.{get_or}
use lib.Dec.{eqb}
use borrow.Author.Tests.{eqb-true}
use Rattle.lists.specs.Lists.{any, same_by}
use Rattle.lists.proofs.IndexLaws.{below, at_below}
use Rattle.format.specs.Bytes.{bytes, blank, gap, cons_to, fields}
use Rattle.format.specs.Structure.{symbols, place_of}
use Rattle.elements.specs.Spelling.{spelling}
use Rattle.elements.specs.Words.{words, word_of, entry_of}
use Rattle.elements.proofs.TableRule.{Missed, bare, gone}

-- THE WORDS, by the numbers of the arms, the last first
abbrev early_rows : List ℕ
early_rows = 32 ∷ 30 ∷ 26 ∷ 25 ∷ 24 ∷ 22 ∷ 21 ∷ 18 ∷ 17 ∷ 16 ∷ 15 ∷ 14 ∷ 11 ∷ 8 ∷ 7 ∷ 6 ∷ 5 ∷ 4 ∷ 3 ∷ 2 ∷ 1 ∷ 0 ∷ []

abbrev late_rows : List ℕ
late_rows = 77 ∷ 76 ∷ 72 ∷ 69 ∷ 66 ∷ 63 ∷ 60 ∷ 58 ∷ 57 ∷ 56 ∷ 55 ∷ 54 ∷ 53 ∷ 52 ∷ 51 ∷ 47 ∷ 46 ∷ 45 ∷ 44 ∷ 42 ∷ 40 ∷ 39 ∷ 37 ∷ 36 ∷ 35 ∷ 34 ∷ 33 ∷ []

pub word_is : (row x : ℕ) → row ≡ x → get_or words x 0 ≡ word_of row
unfolding word_of
word_is row x e = sym (ap (λ (k : ℕ). get_or words k 0) e)

early_bare : below (bare word_of early_rows 0) 33 ≡ true
unfolding below bare any word_of words
early_bare = refl

late_bare : below (bare word_of late_rows 33) 78 ≡ true
unfolding below bare any word_of words
late_bare = refl

pub early_gone : (row : ℕ) → row < 33 → Missed early_rows row → 0 ≡ word_of row
early_gone row h m = gone word_of early_rows 0 33 early_bare row (omega arith) h m

pub late_gone : (row : ℕ) → 33 ≤ row → row < 78 → Missed late_rows row → 0 ≡ word_of row
late_gone row l h m = gone word_of late_rows 33 78 late_bare row l h m

-- AN ENTRY is the place of its letters
unfoldable right : ℕ → Bool
right k = eqb (entry_of k) (place_of 1 (spelling k) symbols)

all_right : below right 702 ≡ true
unfolding below right word_of words place_of spelling symbols same_by any bytes blank gap cons_to fields
all_right = refl

pub entry_place : (k w : ℕ) → k < 702 → w ≡ word_of (k / 9) → w / 2 ^ (7 * (k % 9)) % 128 ≡ place_of 1 (spelling k) symbols
unfolding right
entry_place k w h e =
    ap (λ (v : ℕ). v / 2 ^ (7 * (k % 9)) % 128) e ∙ eqb-true (entry_of k) (place_of 1 (spelling k) symbols) (at_below right 702 all_right k h)

-- ONE LETTER, by its byte
unfoldable pub lone : ℕ → ℕ
lone letter = place_of 1 (letter ∷ []) symbols

abbrev lone_letters : List ℕ
lone_letters = 89 ∷ 87 ∷ 86 ∷ 85 ∷ 83 ∷ 80 ∷ 79 ∷ 78 ∷ 75 ∷ 73 ∷ 72 ∷ 70 ∷ 67 ∷ 66 ∷ []

lone_bare : below (bare lone lone_letters 0) 256 ≡ true
unfolding below bare lone place_of symbols same_by any bytes blank gap cons_to fields
lone_bare = refl

pub lone_is : (letter x n : ℕ) → letter ≡ x → lone x ≡ n → n ≡ place_of 1 (letter ∷ []) symbols
unfolding lone
lone_is letter x n e f = sym (ap lone e ∙ f)

pub lone_gone : (letter : ℕ) → letter < 256 → Missed lone_letters letter → 0 ≡ place_of 1 (letter ∷ []) symbols
unfolding lone
lone_gone letter h m = gone lone lone_letters 0 256 lone_bare letter (omega arith) h m
