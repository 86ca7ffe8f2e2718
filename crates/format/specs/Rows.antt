-- The shape of rows, fields to values or nothing: document 01, "Rows". What has no shape here is refused 9; ranges and atoms are judged in Reading.
-- Stricter than the paper: numbers are 1 to 6 digits, one row a line, no headings. Assumes nothing.
use Rattle.std.specs.Prelude.{ℕ, zero, suc, ◌+◌, ◌-◌, ◌*◌, Bool, true, false, ◌&&◌, ◌||◌, List, [], ◌∷◌, length, get_or, take, drop, ℤ, pos, neg_ℤ, eqb}
use Prim.Native.String.{String}
use Rattle.std.specs.declared.option.Option.{Option}
use Rattle.std.specs.declared.option.Option.TheVariants.{None, Some}
use Rattle.lists.specs.Lists.{span}
use Rattle.format.specs.Bytes.{Bytes, bytes, within, same}
use Rattle.format.specs.Labels.{ListOf, Bonds, Charges, Radicals, Centres, Pairs}

-- what follows is asked only of a value that is there
infixl 20 ◌and_then◌
abbrev pub ◌and_then◌ : {A B : Type 0} → Option A → (A → Option B) → Option B
None and_then f = None
Some a and_then f = f a

abbrev pub digit : ℕ → Bool
digit b = within 48 57 b

abbrev pub upper : ℕ → Bool
upper b = within 65 90 b

abbrev pub lower : ℕ → Bool
lower b = within 97 122 b

-- "An unsigned number is 1 to 6 digits"
unfoldable pub number_from : ℕ → Bytes → Option ℕ
number_from a [] = Some a
number_from a (d ∷ w) = elim (digit d) [ true ↦ number_from (a * 10 + (d - 48)) w | false ↦ None ]

unfoldable pub digits_of : (most : ℕ) → Bytes → Option ℕ
digits_of most w = elim (within 1 most (length w)) [ true ↦ number_from 0 w | false ↦ None ]

unfoldable pub number : Bytes → Option ℕ
number w = digits_of 6 w

unfoldable pub natural : Bytes → Option ℤ
natural w = number w and_then λ n. Some (pos n)

unfoldable pub negative : Bytes → Option ℤ
negative w = number w and_then λ n. Some (neg_ℤ (pos n))

-- "a signed one may have `+` or `-` before them"
unfoldable pub signed : Bytes → Option ℤ
signed [] = None
signed (b ∷ w) = elim (eqb b 43) [ true ↦ natural w | false ↦ elim (eqb b 45) [ true ↦ negative w | false ↦ natural (b ∷ w) ] ]

-- "A symbol is an upper-case letter and at most one lower-case letter, before it optionally `^` and 1 to 3 digits"; second is 0 where there is one letter
pub record Sym : Type 0 where
  pub caret : Bool
  pub mass : ℕ
  pub first : ℕ
  pub second : ℕ

abbrev pub sym_of : (caret : Bool) (mass first second : ℕ) → Sym
sym_of c m a b = record { caret = c; mass = m; first = a; second = b }

unfoldable pub lettered : (caret : Bool) (mass : ℕ) → Bytes → Option Sym
lettered c m [] = None
lettered c m (a ∷ []) = elim (upper a) [ true ↦ Some (sym_of c m a 0) | false ↦ None ]
lettered c m (a ∷ b ∷ []) = elim (upper a && lower b) [ true ↦ Some (sym_of c m a b) | false ↦ None ]
lettered c m (a ∷ b ∷ d ∷ w) = None

unfoldable pub massed : Bytes → Option Sym
massed w = digits_of 3 (take (span digit w) w) and_then λ m. lettered true m (drop (span digit w) w)

unfoldable pub symbol : Bytes → Option Sym
symbol [] = None
symbol (b ∷ w) = elim (eqb b 94) [ true ↦ massed w | false ↦ lettered false 0 (b ∷ w) ]

-- Fields are never empty, so a field that is missing is read as the empty one: no shape takes that.
abbrev pub field : ℕ → List Bytes → Bytes
field n fs = get_or fs n []

-- a last field that may be absent (0), and no field after it
abbrev pub optional : (Bytes → Option ℕ) → List Bytes → Option ℕ
optional shape [] = Some 0
optional shape (f ∷ []) = shape f
optional shape (f ∷ g ∷ fs) = None

abbrev pub nothing_more : Bytes → Option ℕ
nothing_more f = None

-- "optional group `0`, A to Z or a to z (absent means 0)": the group's byte, 0 for `0`
unfoldable pub group : Bytes → Option ℕ
group [] = None
group (b ∷ []) = elim (eqb b 48) [ true ↦ Some 0 | false ↦ elim (upper b || lower b) [ true ↦ Some b | false ↦ None ] ]
group (b ∷ c ∷ w) = None

-- the place of a field of one byte among some letters, counted from n
unfoldable pub place_in : ℕ → Bytes → Bytes → Option ℕ
place_in n w [] = None
place_in n w (b ∷ bs) = elim (same w (b ∷ [])) [ true ↦ Some n | false ↦ place_in (suc n) w bs ]

unfoldable pub numbers : List Bytes → Option (List ℕ)
numbers [] = Some []
numbers (f ∷ fs) = number f and_then λ n. numbers fs and_then λ ns. Some (n ∷ ns)

-- n fields, each a number
unfoldable pub first_numbers : ℕ → List Bytes → Option (List ℕ)
first_numbers zero fs = Some []
first_numbers (suc n) fs = number (field 0 fs) and_then λ a. first_numbers n (drop 1 fs) and_then λ ns. Some (a ∷ ns)

-- "ATOMLIST: number, symbol, optional hydrogens 0 to 15 (absent means 0)."
pub record AtomRow : Type 0 where
  pub number : ℕ
  pub symbol : Sym
  pub hydrogens : ℕ

unfoldable pub atom_shape : List Bytes → Option AtomRow
atom_shape fs = number (field 0 fs) and_then λ n. symbol (field 1 fs) and_then λ x. optional number (drop 2 fs) and_then λ h. Some (record { number = n; symbol = x; hydrogens = h })

-- A row of one of the five lists: its atoms, its value (a bond's kind, a charge, a radical, P or M), its group byte
pub record Row : Type 0 where
  pub atoms : List ℕ
  pub value : ℤ
  pub group : ℕ

abbrev pub row : List ℕ → ℤ → ℕ → Row
row ns v g = record { atoms = ns; value = v; group = g }

-- n atoms, a letter that counts from `from`, and what may follow
unfoldable pub marked : (n from : ℕ) → (letters : String) → (last : Bytes → Option ℕ) → List Bytes → Option Row
marked n from letters last fs =
    first_numbers n fs and_then λ ns. place_in from (field n fs) (bytes letters) and_then λ v. optional last (drop (suc n) fs) and_then λ g. Some (row ns (pos v) g)

-- a value, "then no or more atoms"
unfoldable pub spread : (value : Bytes → Option ℤ) → List Bytes → Option Row
spread value fs = value (field 0 fs) and_then λ v. numbers (drop 1 fs) and_then λ ns. Some (row ns v 0)

-- "BONDLIST: two atoms and S, D, T, Q or A." "CHARGE: signed value, .., then no or more atoms". "RADICAL: unsigned 1 to 15, then the same."
-- "STEREOCENTER: atom, P or M, optional group". "STEREOPAIR: two atoms, P, M or 0, optional group."
unfoldable pub row_shape : ListOf → List Bytes → Option Row
row_shape Bonds fs = marked 2 1 "SDTQA" nothing_more fs
row_shape Charges fs = spread signed fs
row_shape Radicals fs = spread natural fs
row_shape Centres fs = marked 1 1 "PM" group fs
row_shape Pairs fs = marked 2 0 "0PM" group fs
