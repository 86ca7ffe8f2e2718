-- The words that hold the elements by their letters, seven bits an entry, nine entries a word: three words for each upper-case letter, that letter alone and then
-- with `a` to `z`. Document 01, "Rows", ATOMLIST. Assumes nothing.
use Rattle.std.specs.Prelude.{ℕ, ◌*◌, ◌/◌, ◌%◌, ◌^◌, List, [], ◌∷◌, get_or}

unfoldable pub words : List ℕ
words =
    26458647997448192 ∷ 25528631296 ∷ 167071890 ∷ 137438960645 ∷ 1589331 ∷ 35 ∷ 433014307817990 ∷ 118773061255168 ∷ 60824472 ∷ 0 ∷ 0 ∷ 37154696925806592 ∷ 0 ∷ 0 ∷ 132133316 ∷ 893353197577 ∷ 26843545600 ∷ 87 ∷ 1116691500928 ∷ 0 ∷ 0 ∷ 45352724341981185 ∷ 294669116243968 ∷ 0 ∷ 53 ∷ 1683627180032 ∷ 77 ∷ 0 ∷ 0 ∷ 0 ∷ 19 ∷ 0 ∷ 36 ∷ 7296 ∷ 3 ∷ 148897895 ∷ 6755426553036800 ∷ 185576946925568 ∷ 0 ∷ 359704184199 ∷ 52802946412314652 ∷ 0 ∷ 8 ∷ 0 ∷ 9728 ∷ 12349386127 ∷ 369452281495552 ∷ 198410299 ∷ 0 ∷ 0 ∷ 0 ∷ 3242594308687752192 ∷ 2954937499648 ∷ 92274688 ∷ 1168275980304 ∷ 1734629916686 ∷ 38 ∷ 6485185250211161216 ∷ 18691915798 ∷ 0 ∷ 92 ∷ 0 ∷ 0 ∷ 23 ∷ 0 ∷ 0 ∷ 74 ∷ 0 ∷ 0 ∷ 1855425871872 ∷ 0 ∷ 0 ∷ 1146919 ∷ 0 ∷ 0 ∷ 0 ∷ 1030792151040 ∷ 40 ∷ []

unfoldable pub word_of : (row : ℕ) → ℕ
word_of row = get_or words row 0

-- the entry of the letters that have the number k
abbrev pub entry_of : (k : ℕ) → ℕ
entry_of k = word_of (k / 9) / 2 ^ (7 * (k % 9)) % 128
