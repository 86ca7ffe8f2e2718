-- The shape of MOLFORM's value, byte by byte: document 01, "Rows", MOLFORM; the paper's section on MOLFORM. A machine tells each entry where it ends; what
-- brings it into `dead` has no shape and is refused 9. Stricter than the paper: a count or a mass touches its symbol. Assumes nothing.
use Rattle.std.specs.Prelude.{ℕ, suc, ◌+◌, ◌-◌, ◌*◌, Bool, true, false, ◌&&◌, List, [], ◌∷◌, ◌++◌, eqb, ltb}
use Rattle.std.specs.declared.option.Option.{Option}
use Rattle.std.specs.declared.option.Option.TheVariants.{None, Some}
use Rattle.format.specs.Bytes.{Bytes, gap}
use Rattle.format.specs.Rows.{Sym, sym_of, digit, upper, lower}

-- "entries of a symbol and an optional count"
pub record Counted : Type 0 where
  pub symbol : Sym
  pub count : ℕ

abbrev pub counted : Sym → ℕ → Counted
counted x n = record { symbol = x; count = n }

-- Between entries (whether the fragment has one yet), after `^`, in a mass of so many digits, after one letter, after two, after `/`, in a count
pub data FState : Type 0 where
  dead : FState
  between : (begun : Bool) → FState
  at_caret : FState
  in_mass : (size value : ℕ) → FState
  at_one : (caret : Bool) (mass first : ℕ) → FState
  at_two : Sym → FState
  at_slash : Sym → FState
  in_count : Sym → (size value : ℕ) → FState

-- a byte's step: the entries that it ends, and the state behind it
pub record Move : Type 0 where
  pub told : List Counted
  pub state : FState

abbrev pub still : FState → Move
still q = record { told = []; state = q }

abbrev pub tells : Counted → FState → Move
tells e q = record { told = e ∷ []; state = q }

-- "A one-letter symbol without count is followed by a blank, `*` or the end"; "`*` parts two non-empty fragments"
unfoldable pub part : Counted → ℕ → Move
part e b = elim (gap b) [ true ↦ tells e (between true) | false ↦ elim (eqb b 42) [ true ↦ tells e (between false) | false ↦ still dead ] ]

-- behind two letters or a count the next entry's letter may follow at once, but no `^`: "`^` stands at the start or after a blank or `*`"
unfoldable pub leave : Counted → ℕ → Move
leave e b = elim (upper b) [ true ↦ tells e (at_one false 0 b) | false ↦ part e b ]

-- "an optional count 1 to 9,999 (1 to 6 digits, `/` before them optional)"
unfoldable pub count_or : Sym → ℕ → Move → Move
count_or x b other = elim (digit b) [ true ↦ still (in_count x 1 (b - 48)) | false ↦ elim (eqb b 47) [ true ↦ still (at_slash x) | false ↦ other ] ]

abbrev pub more : (room : Bool) → FState → Move
more true q = still q
more false q = still dead

unfoldable pub fstep : FState → ℕ → Move
fstep dead b = still dead
fstep (between begun) b =
    elim (upper b) [
      | true ↦ still (at_one false 0 b)
      | false ↦ elim (eqb b 94) [
        | true ↦ still at_caret
        | false ↦ elim (gap b) [ true ↦ still (between begun) | false ↦ elim (eqb b 42 && begun) [ true ↦ still (between false) | false ↦ still dead ] ]
      ]
    ]
fstep at_caret b = elim (digit b) [ true ↦ still (in_mass 1 (b - 48)) | false ↦ still dead ]
fstep (in_mass n v) b = elim (digit b) [ true ↦ more (ltb n 3) (in_mass (suc n) (v * 10 + (b - 48))) | false ↦ elim (upper b) [ true ↦ still (at_one true v b) | false ↦ still dead ] ]
fstep (at_one c m a) b = elim (lower b) [ true ↦ still (at_two (sym_of c m a b)) | false ↦ count_or (sym_of c m a 0) b (part (counted (sym_of c m a 0) 1) b) ]
fstep (at_two x) b = count_or x b (leave (counted x 1) b)
fstep (at_slash x) b = elim (digit b) [ true ↦ still (in_count x 1 (b - 48)) | false ↦ still dead ]
fstep (in_count x n v) b = elim (digit b) [ true ↦ more (ltb n 6) (in_count x (suc n) (v * 10 + (b - 48))) | false ↦ leave (counted x v) b ]

-- the end of the value: an entry that runs ends there; an empty fragment, a bare `^` or `/` has no shape
abbrev pub finish : FState → Option (List Counted)
finish dead = None
finish (between true) = Some []
finish (between false) = None
finish at_caret = None
finish (in_mass n v) = None
finish (at_one c m a) = Some (counted (sym_of c m a 0) 1 ∷ [])
finish (at_two x) = Some (counted x 1 ∷ [])
finish (at_slash x) = None
finish (in_count x n v) = Some (counted x v ∷ [])

abbrev pub join : List Counted → Option (List Counted) → Option (List Counted)
join es None = None
join es (Some fs) = Some (es ++ fs)

unfoldable pub frun : FState → Bytes → Option (List Counted)
frun q [] = finish q
frun q (b ∷ s) = join (fstep q b).told (frun (fstep q b).state s)

-- all entries of all fragments, in their order
unfoldable pub formula_shape : Bytes → Option (List Counted)
formula_shape v = frun (between false) v
