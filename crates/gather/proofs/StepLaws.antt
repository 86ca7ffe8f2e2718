-- A line of a list told of the list alone is the line's turn of the whole state: the other parts of the state stay. Assumes nothing.
use Prim.Native.Nat.{ℕ, suc}
use mathlib.Core.Path.{◌≡◌, refl, sym, ap}
use mathlib.Core.Bool.{Bool, true, false, ◌&&◌, not}
use Rattle.std.specs.declared.option.Option.{Option}
use Rattle.std.specs.declared.option.Option.TheVariants.{None, Some}
use mathlib.Core.List.{List, [], ◌∷◌, ◌++◌}
use lib.ListN.{length}
use lib.Dec.{eqb, leb}
use Rattle.lists.specs.Lists.{all, any, pairs}
use Rattle.format.specs.Bytes.{Bytes, within}
use Rattle.format.specs.Labels.{ListOf, Bonds, Charges, Radicals, Centres, Pairs}
use Rattle.format.specs.Rows.{Row, AtomRow, atom_shape, row_shape}
use Rattle.format.specs.Structure.{Atom, Structure, isotope, unknown, mass_ok, rows_of, most, ranged, meets, clash}
use Rattle.format.specs.Reading.{State, Turn, Go, Stop, if◌stop◌else◌, with_body, with_atoms, with_rows, atom_count, ordered, joined, join_turn, atom_turn, row_turn, atom_line, row_line}
use Rattle.sorted.specs.Steps.{After, kept, refused, if◌breaks◌else◌, atom_after, atom_step, joined_as, join_after, row_after, row_step}

-- the state with a list as it is after a line
abbrev pub with_kept : ListOf → State → After Row → Turn
with_kept l st (kept rs) = Go (with_body st (with_rows l rs st.body))
with_kept l st (refused n) = Stop n

abbrev pub with_listed : State → After Atom → Turn
with_listed st (kept listed) = Go (with_body st (with_atoms listed st.body))
with_listed st (refused n) = Stop n

pub rows_same : (l : ListOf) (s : Structure) → with_rows l (rows_of l s) s ≡ s
unfolding with_rows rows_of
rows_same Bonds s = refl
rows_same Charges s = refl
rows_same Radicals s = refl
rows_same Centres s = refl
rows_same Pairs s = refl

same_state : (l : ListOf) (st : State) → Go st ≡ Go (with_body st (with_rows l (rows_of l st.body) st.body))
same_state l st = ap (λ (s : Structure). Go (with_body st s)) (sym (rows_same l st.body))

-- the tables of tests agree, test by test
row_table : (l : ListOf) (st : State) (range listed own bad again full : Bool) (r : Row) →
    (if range stop 10 else if listed stop 11 else if own stop 13 else if bad stop 13
    else joined again full st (with_body st (with_rows l (r ∷ rows_of l st.body) st.body)))
    ≡ with_kept l st (if range breaks 10 else if listed breaks 11 else if own breaks 13 else if bad breaks 13 else joined_as again full (rows_of l st.body) r)
row_table l st true b c d e f r = refl
row_table l st false true c d e f r = refl
row_table l st false false true d e f r = refl
row_table l st false false false true e f r = refl
row_table l st false false false false true f r = same_state l st
row_table l st false false false false false true r = refl
row_table l st false false false false false false r = refl

row_turn_lem : (l : ListOf) (st : State) (o : Option Row) → row_turn l st o ≡ with_kept l st (row_after l (atom_count st) (rows_of l st.body) o)
unfolding row_turn row_after join_turn join_after
row_turn_lem l st None = refl
row_turn_lem l st (Some r) =
    row_table l st (not (ranged l r.value)) (not (all (within 1 (atom_count st)) r.atoms)) (pairs eqb r.atoms) (any (clash l (ordered r)) (rows_of l st.body))
    (any (meets l (ordered r)) (rows_of l st.body)) (leb (most l) (length (rows_of l st.body))) (ordered r)

-- a line of one of the five lists
pub row_line_lem : (l : ListOf) (st : State) (fs : List Bytes) → row_line l st fs ≡ with_kept l st (row_step l (atom_count st) (rows_of l st.body) fs)
unfolding row_line row_step
row_line_lem l st [] = same_state l st
row_line_lem l st (f ∷ fs) = row_turn_lem l st (row_shape l (f ∷ fs))

atom_table : (st : State) (range number symbol full : Bool) (next : List Atom) →
    (if range stop 10 else if number stop 11 else if symbol stop 12 else if full stop 14 else Go (with_body st (with_atoms next st.body)))
    ≡ with_listed st (if range breaks 10 else if number breaks 11 else if symbol breaks 12 else if full breaks 14 else kept next)
atom_table st true b c d next = refl
atom_table st false true c d next = refl
atom_table st false false true d next = refl
atom_table st false false false true next = refl
atom_table st false false false false next = refl

atom_turn_lem : (k : ℕ) (st : State) (o : Option AtomRow) → atom_turn k st o ≡ with_listed st (atom_after k st.body.atoms o)
unfolding atom_turn atom_after
atom_turn_lem k st None = refl
atom_turn_lem k st (Some r) =
    atom_table st (not (mass_ok r.symbol && leb r.hydrogens 15)) (not (eqb r.number (suc (atom_count st)))) (unknown k r.symbol) (leb 256 (atom_count st))
    (st.body.atoms ++ (record { kind = isotope k r.symbol; hydrogens = r.hydrogens } ∷ []))

-- a line of ATOMLIST
pub atom_line_lem : (k : ℕ) (st : State) (fs : List Bytes) → atom_line k st fs ≡ with_listed st (atom_step k st.body.atoms fs)
unfolding atom_line atom_step
atom_line_lem k st [] = refl
atom_line_lem k st (f ∷ fs) = atom_turn_lem k st (atom_shape (f ∷ fs))
