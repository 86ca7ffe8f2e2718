-- The key of a label: its letters, A = 1 to Z = 26, as the digits of a number, five bits a letter and at most twelve letters, read in one pass over the label as it
-- stands; the one known label that is longer has numbers of its own for its last two letters. Document 01, "Lines and labels" ("For comparison letters become upper
-- case, and space, `-`, `/`, `_` are dropped."), and document 02, L4 (STEREOMOLECULE). Assumes nothing.
use Rattle.std.specs.Prelude.{ℕ, suc, ◌+◌, ◌-◌, ◌*◌, true, false, List, [], ◌∷◌, eqb, ltb}
use Rattle.format.specs.Bytes.{Bytes, is_in}
use Rattle.format.specs.Rows.{upper, lower}

-- the key of a label that cannot be a known one: above every key of twelve letters
abbrev pub strange : ℕ
strange = 1152921504606846976

-- STEREOMOLECULE has fourteen letters: the key of its first twelve, and, above the strange one, those of its first thirteen and of all
abbrev pub twelve_letters : ℕ
twelve_letters = 707261042924065909

abbrev pub thirteen_letters : ℕ
thirteen_letters = 1152921504606846977

abbrev pub fourteen_letters : ℕ
fourteen_letters = 1152921504606846978

-- one letter more than twelve: STEREOMOLECU and L, STEREOMOLECUL and E, and no other
unfoldable pub longer : (key letter : ℕ) → ℕ
longer key letter =
    elim (eqb key twelve_letters) [
      | true ↦ elim (eqb letter 12) [ true ↦ thirteen_letters | false ↦ strange ]
      | false ↦ elim (eqb key thirteen_letters) [ true ↦ elim (eqb letter 5) [ true ↦ fourteen_letters | false ↦ strange ] | false ↦ strange ]
    ]

-- one letter more; a key of twelve letters is not below 2 ^ 55
unfoldable pub grown : (key letter : ℕ) → ℕ
grown key letter = elim (ltb key 36028797018963968) [ true ↦ key * 32 + letter | false ↦ longer key letter ]

-- one byte of the label more
unfoldable pub next_key : (key b : ℕ) → ℕ
next_key key b =
    elim (upper b) [
      | true ↦ grown key (b - 64)
      | false ↦ elim (lower b) [ true ↦ grown key (b - 96) | false ↦ elim (is_in b (32 ∷ 45 ∷ 47 ∷ 95 ∷ [])) [ true ↦ key | false ↦ strange ] ]
    ]

unfoldable pub key_of : (key : ℕ) → Bytes → ℕ
key_of key [] = key
key_of key (b ∷ s) = key_of (next_key key b) s

-- the keys of the known labels, in the order of their codes
unfoldable pub keys : List ℕ
keys =
    21287301
    ∷ 10839572595
    ∷ 522493230
    ∷ 16496818
    ∷ 14474755661
    ∷ 56351925876
    ∷ 85299963508
    ∷ 109103333
    ∷ 19365399596
    ∷ 707261042578116786
    ∷ 690684612314418
    ∷ 2565975332
    ∷ 5572
    ∷ 438068026
    ∷ 27275392307698
    ∷ 25402
    ∷ fourteen_letters
    ∷ []

-- the place of a key among some, counted from n; 0 where it is not there
unfoldable pub place_of_key : (n key : ℕ) → List ℕ → ℕ
place_of_key n key [] = 0
place_of_key n key (k ∷ ks) = elim (eqb key k) [ true ↦ n | false ↦ place_of_key (suc n) key ks ]
