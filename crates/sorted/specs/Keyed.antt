-- The sorted lists in their regions, two numbers a row: which lists stand so, where a key belongs, a region with one row more, and what a line's answer and the
-- region after it show: document 01, "Rows", BONDLIST, STEREOCENTER, STEREOPAIR. Assumes nothing.
use Rattle.std.specs.Prelude.{ℕ, ◌+◌, ◌-◌, ◌*◌, ◌≤◌, ◌<◌, ◌≡◌, Bool, true, false, ◌&&◌, ◌||◌, List, ◌∷◌, ◌++◌, length, get_or, take, drop, eqb, ltb, leb, option_to_list, refl, Result, Ok, Err}
use Rattle.std.specs.declared.option.Option.TheVariants.{None, Some}
use Rattle.lists.specs.Lists.{all, pairs}
use Rattle.lists.specs.Order.{sort}
use Rattle.format.specs.Bytes.{Bytes, fields, within}
use Rattle.format.specs.Labels.{ListOf, Bonds, Charges, Radicals, Centres, Pairs}
use Rattle.format.specs.Rows.{Row, row_shape}
use Rattle.format.specs.Structure.{most, row_ok}
use Rattle.format.specs.Refusals.{number_of}
use Rattle.format.specs.declared.refusal.Refusal.{Refusal}
use Rattle.format.specs.declared.refusal.Refusal.TheVariants.{AtomNumber, Clash}
use Rattle.format.specs.declared.refusal.Refused.{Refused}
use Rattle.sorted.specs.Steps.{join_after, row_after, row_step}
use Rattle.sorted.specs.Regions.{key_from, key_of, payload_of, keyed_region, Fits}
use Rattle.sorted.specs.declared.kinds.KeyedRow.{KeyedRow}
use Rattle.sorted.specs.Shown.{ShowsAfter, ShowsLine}

-- whether a list's rows stand by key; whether one that repeats another is dropped: "The same pair and kind again is dropped"
abbrev pub keyed : ListOf → Bool
keyed l = elim l [ Bonds ↦ true | Charges ↦ false | Radicals ↦ false | Centres ↦ true | Pairs ↦ true ]

abbrev pub drops : ListOf → Bool
drops l = elim l [ Bonds ↦ true | Charges ↦ false | Radicals ↦ false | Centres ↦ false | Pairs ↦ false ]

-- how many rows bonds have at most, and centres and pairs
abbrev pub bonds_limit : ℕ
bonds_limit = 512

abbrev pub marks_limit : ℕ
marks_limit = 128

-- their limits
pub most_bonds : most Bonds ≡ 512
unfolding most
most_bonds = refl

pub most_centres : most Centres ≡ 128
unfolding most
most_centres = refl

pub most_pairs : most Pairs ≡ 128
unfolding most
most_pairs = refl

-- THE PLACE OF A KEY among the keys of so many rows: those before `low` are lower, those from `high` on are not
abbrev pub key_at : List ℕ → ℕ → ℕ
key_at t i = get_or t (2 * i) 0

abbrev pub KeysAscend : (count : ℕ) → List ℕ → Type 0
KeysAscend count t = (i j : ℕ) → i < j → j < count → key_at t i < key_at t j

pub record Between (t : List ℕ) (count key low high : ℕ) : Type 0 where
  pub lower : (i : ℕ) → i < low → key_at t i < key
  pub others : (i : ℕ) → high ≤ i → i < count → key ≤ key_at t i

-- whether a key is above the last of so many rows
abbrev pub behind : List ℕ → (count key : ℕ) → Bool
behind t count key = eqb count 0 || ltb (key_at t (count - 1)) key

-- t with its cells from `from` to `to` moved up by w
unfoldable pub opened : List ℕ → (from to w : ℕ) → List ℕ
opened t from to w = take (from + w) t ++ (take (to - from) (drop from t) ++ drop (to + w) t)

-- t with a row more among its `count` rows
unfoldable pub with_row : List ℕ → (place count key payload : ℕ) → List ℕ
with_row t place count key payload = take (2 * place) t ++ (key ∷ payload ∷ (take (2 * count - 2 * place) (drop (2 * place) t) ++ drop (2 * count + 2) t))

-- WHAT AN ANSWER SHOWS of joining a row: of every row of the list with that key and payload
abbrev pub JoinShows : ListOf → (key payload count : ℕ) (before after : List ℕ) → Result ℕ Refusal → Type 0
JoinShows l key payload count before after a =
    (n : ℕ) (rs : List Row) (r : Row) → n ≤ 256 → key_of r ≡ key → payload_of r ≡ payload
    → length rs ≡ count → Fits l n rs → row_ok l n r ≡ true → before ≡ keyed_region l rs → ShowsAfter (keyed_region l) after a (join_after l rs r)

-- whether a region is one that a reading lends: of its list's size, with no more rows and atoms than there may be
abbrev pub region_fits : (long size count limit atoms : ℕ) → Bool
region_fits long size count limit atoms = eqb long size && (leb count limit && leb atoms 256)

-- whether both atoms are listed, the lower one first
abbrev pub in_order : (n first second : ℕ) → Bool
in_order n first second = within 1 n first && (within 1 n second && ltb first second)

-- the key of a row's atoms, the lower one first, n atoms listed; its refusal where one is not listed, or "an atom with itself"
abbrev pub key_given : (listed itself : Bool) → (key : ℕ) → Result ℕ Refusal
key_given false itself key = Err AtomNumber
key_given true true key = Err Clash
key_given true false key = Ok key

abbrev pub key_answer : (n : ℕ) → List ℕ → Result ℕ Refusal
key_answer n ns = key_given (all (within 1 n) ns) (pairs eqb ns) (key_from (sort ltb ns))

-- WHAT A LINE'S ROW SAYS: its atoms as they stand, and its value and group as one payload
abbrev pub atoms_in : KeyedRow → List ℕ
atoms_in k = k.first ∷ option_to_list k.second

abbrev pub ShowsKeyedRow : ListOf → (line : List ℕ) → Result KeyedRow Refusal → Type 0
ShowsKeyedRow l line (Ok k) = (r : Row) × (row_shape l (fields line) ≡ Some r) × (r.atoms ≡ atoms_in k) × (payload_of r ≡ k.payload)
ShowsKeyedRow l line (Err e) = (row_shape l (fields line) ≡ None) × (number_of e ≡ 9)

-- of a row whose values are in hand: of every row of the list with those atoms and that payload that a line can say
abbrev pub RowShows : ListOf → (ns : List ℕ) (payload n count : ℕ) (before after : List ℕ) → Result ℕ Refusal → Type 0
RowShows l ns payload n count before after a =
    (fs : List Bytes) (rs : List Row) (r : Row) → row_shape l fs ≡ Some r → r.atoms ≡ ns → payload_of r ≡ payload
    → length rs ≡ count → Fits l n rs → before ≡ keyed_region l rs → ShowsAfter (keyed_region l) after a (row_after l n rs (Some r))

-- of a line, and of a line with its place
abbrev pub StepShows : ListOf → (n count : ℕ) (line : List ℕ) (before after : List ℕ) → Result ℕ Refusal → Type 0
StepShows l n count line before after a =
    (rs : List Row) → length rs ≡ count → Fits l n rs → before ≡ keyed_region l rs → ShowsAfter (keyed_region l) after a (row_step l n rs (fields line))

abbrev pub LineShows : ListOf → (n count : ℕ) (line : List ℕ) (place : ℕ) (before after : List ℕ) → Result ℕ Refused → Type 0
LineShows l n count line place before after a =
    (rs : List Row) → length rs ≡ count → Fits l n rs → before ≡ keyed_region l rs → ShowsLine (keyed_region l) place after a (row_step l n rs (fields line))
