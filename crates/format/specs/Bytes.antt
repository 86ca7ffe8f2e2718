-- Bytes, lines, fields, comments, texts: document 01, "Lines and labels", and the paper's section 3. A line keeps its own line feed, so that the lines of a
-- block are the block. Stricter than the paper: a lone carriage return ends no line. Assumes nothing.
use Rattle.std.specs.Prelude.{ℕ, suc, Bool, true, false, ◌&&◌, ◌||◌, not, List, [], ◌∷◌, drop, eqb, leb}
use Prim.Native.Char.{code}
use Prim.Native.String.{String}
use Rattle.lists.specs.Lists.{any, same_by, span}

abbrev pub Bytes : Type 0
Bytes = List ℕ

-- the bytes of a text between quotes
unfoldable pub bytes : String → Bytes
bytes String.[] = []
bytes (String.◌∷◌ c s) = code c ∷ bytes s

unfoldable pub within : (lowest highest : ℕ) → ℕ → Bool
within lowest highest n = leb lowest n && leb n highest

abbrev pub is_in : ℕ → List ℕ → Bool
is_in n ns = any (eqb n) ns

abbrev pub same : Bytes → Bytes → Bool
same v w = same_by eqb v w

abbrev pub head_is : (ℕ → Bool) → Bytes → Bool
head_is p [] = false
head_is p (b ∷ s) = p b

-- "Blanks are space, tab and carriage return." A gap is a blank or a line feed.
unfoldable pub blank : ℕ → Bool
blank b = eqb b 32 || (eqb b 9 || eqb b 13)

unfoldable pub gap : ℕ → Bool
gap b = blank b || eqb b 10

-- "Allowed bytes: 9, 10, 13 and 32 to 126."
unfoldable pub allowed : ℕ → Bool
allowed b = gap b || within 32 126 b

-- "A line ends with a line feed (10) or with the input; nothing after the last line feed is no line."
unfoldable pub cons_to : ℕ → List Bytes → List Bytes
cons_to b [] = (b ∷ []) ∷ []
cons_to b (l ∷ ls) = (b ∷ l) ∷ ls

unfoldable pub cut : Bytes → List Bytes
cut [] = []
cut (b ∷ s) = elim (eqb b 10) [ true ↦ (b ∷ []) ∷ cut s | false ↦ cons_to b (cut s) ]

-- the length of the first line, its line feed counted
unfoldable pub line_len : Bytes → ℕ
line_len [] = 0
line_len (b ∷ s) = elim (eqb b 10) [ true ↦ 1 | false ↦ suc (line_len s) ]

-- whole: empty, or ends in a line feed; it is told byte by byte, `ended` by whether the byte before was one
unfoldable pub whole_from : (ended : Bool) → Bytes → Bool
whole_from ended [] = ended
whole_from ended (b ∷ s) = whole_from (eqb b 10) s

abbrev pub whole : Bytes → Bool
whole s = whole_from true s

-- "Fields are parted by blanks." The line's own line feed parts them too.
abbrev pub ink : ℕ → Bool
ink b = not (gap b)

unfoldable pub fields : Bytes → List Bytes
fields [] = []
fields (b ∷ s) = elim (gap b) [ true ↦ fields s | false ↦ elim (head_is ink s) [ true ↦ cons_to b (fields s) | false ↦ (b ∷ []) ∷ fields s ] ]

-- "Other known records lose `$$` and the rest of that line"
abbrev pub dollar : ℕ → Bool
dollar b = eqb b 36

unfoldable pub strip : Bytes → Bytes
strip [] = []
strip (b ∷ s) = elim (dollar b && head_is dollar s) [ true ↦ [] | false ↦ b ∷ strip s ]

-- "with blanks and line feeds cut from both ends, the inside kept byte for byte"; lead is how many are cut in front
unfoldable pub lead : Bytes → ℕ
lead s = span gap s

unfoldable pub keep : ℕ → Bytes → Bytes
keep b [] = elim (gap b) [ true ↦ [] | false ↦ b ∷ [] ]
keep b (c ∷ s) = b ∷ c ∷ s

unfoldable pub trim_end : Bytes → Bytes
trim_end [] = []
trim_end (b ∷ s) = keep b (trim_end s)

unfoldable pub trim : Bytes → Bytes
trim s = trim_end (drop (lead s) s)

-- "A label line starts with `##` in its first column"
abbrev pub hash : ℕ → Bool
hash b = eqb b 35

abbrev pub is_label : Bytes → Bool
is_label [] = false
is_label (b ∷ s) = hash b && head_is hash s

-- no "`##` right after a line feed"
unfoldable pub unlabelled : Bytes → Bool
unlabelled [] = true
unlabelled (b ∷ s) = not (eqb b 10 && is_label s) && unlabelled s
