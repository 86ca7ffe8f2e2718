-- One line of a list, told of the list alone: document 01, "Rows". The definitions tell the same of the whole state (Reading.atom_line, row_line); gather's
-- StepLaws has the two equations. Assumes nothing.
use Rattle.std.specs.Prelude.{ℕ, suc, Bool, true, false, ◌&&◌, not, List, [], ◌∷◌, ◌++◌, length, eqb, leb}
use Rattle.std.specs.declared.option.Option.{Option}
use Rattle.std.specs.declared.option.Option.TheVariants.{None, Some}
use Rattle.lists.specs.Lists.{all, any, pairs}
use Rattle.format.specs.Bytes.{Bytes, within}
use Rattle.format.specs.Labels.{ListOf}
use Rattle.format.specs.Rows.{Row, AtomRow, atom_shape, row_shape}
use Rattle.format.specs.Structure.{Atom, isotope, unknown, mass_ok, most, ranged, meets, clash}
use Rattle.format.specs.Reading.{ordered}

-- the list after a line, or the refusal's number
pub data After (A : Type 0) : Type 0 where
  kept : List A → After A
  refused : ℕ → After A

infixr 10 if◌breaks◌else◌
abbrev pub if◌breaks◌else◌ : {A : Type 0} → Bool → ℕ → After A → After A
if true breaks n else next = refused n
if false breaks n else next = next

-- ATOMLIST, k elements known
unfoldable pub atom_after : (k : ℕ) → List Atom → Option AtomRow → After Atom
atom_after k listed None = refused 9
atom_after k listed (Some r) =
    if not (mass_ok r.symbol && leb r.hydrogens 15) breaks 10
    else if not (eqb r.number (suc (length listed))) breaks 11
    else if unknown k r.symbol breaks 12
    else if leb 256 (length listed) breaks 14
    else kept (listed ++ (record { kind = isotope k r.symbol; hydrogens = r.hydrogens } ∷ []))

unfoldable pub atom_step : (k : ℕ) → List Atom → List Bytes → After Atom
atom_step k listed [] = kept listed
atom_step k listed (f ∷ fs) = atom_after k listed (atom_shape (f ∷ fs))

-- a row whose atoms are listed and each its own, by whether it repeats one that is there and whether the list is full
abbrev pub joined_as : (again full : Bool) → List Row → Row → After Row
joined_as true full rs r = kept rs
joined_as false true rs r = refused 14
joined_as false false rs r = kept (r ∷ rs)

unfoldable pub join_after : ListOf → List Row → Row → After Row
join_after l rs r = if any (clash l r) rs breaks 13 else joined_as (any (meets l r) rs) (leb (most l) (length rs)) rs r

-- one of the five lists, n atoms listed, its rows latest first
unfoldable pub row_after : ListOf → (n : ℕ) → List Row → Option Row → After Row
row_after l n rs None = refused 9
row_after l n rs (Some r) =
    if not (ranged l r.value) breaks 10
    else if not (all (within 1 n) r.atoms) breaks 11
    else if pairs eqb r.atoms breaks 13
    else join_after l rs (ordered r)

unfoldable pub row_step : ListOf → (n : ℕ) → List Row → List Bytes → After Row
row_step l n rs [] = kept rs
row_step l n rs (f ∷ fs) = row_after l n rs (row_shape l (f ∷ fs))
