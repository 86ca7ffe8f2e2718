-- The atoms of a table one by one: the atoms that a table holds are those by index, also those of its part that has them, and atoms as a sound table has them make
-- entries that can be. Document 01, "The structure table". Assumes nothing.
use Prim.Native.Nat.{ℕ, zero, suc, ◌+◌, ◌*◌, ◌≤◌, ◌<◌, min}
use mathlib.Core.Path.{◌≡◌, refl, sym, ap, ap₂, ◌∙◌}
use mathlib.Core.Bool.{Bool, true, false}
use mathlib.Core.List.{List, [], ◌∷◌, ◌++◌, map, map-append}
use native.Mathlib.Numerals.{add-one}
use native.Mathlib.Omega.{arith}
use lib.ListN.{length, take, drop, get_or-eq_default}
use lib.Seq.{get_or-take, get_or-drop}
use Rattle.std.proofs.lemmas.List.{length-take}
use lib.IntN.{ℤ, pos, nat_abs}
use lib.Dec.{ltb}
use borrow.Author.Tests.{ltb-true, ltb-false}
use Rattle.lists.specs.Lists.{all, rows_from}
use Rattle.lists.proofs.ListLaws.{all_nil, all_parts, all_both, all_at}
use Rattle.lists.proofs.RegionLaws.{rows_zero, rows_length, rows_at, rows_snoc}
use Rattle.format.specs.Structure.{isotope_of, Atom, Entry, entry, entries_of, atom_ok}
use Rattle.format.specs.Table.{cell, count_at, atom_at, atom_place, atom_records, decode}
use Rattle.format.proofs.PlaceLaws.{atom_place_lem}
use Rattle.format.proofs.TotalLaws.{entries_bare, entries_implied}
use Rattle.std.specs.Prelude.{Option}
use Rattle.tally.specs.Ranks.{key_if, fine}
use Rattle.tally.specs.Gathering.{atoms_in, atom_no, atom_in}
use Rattle.lists.proofs.IndexLaws.{map_length, map_at}
use Rattle.tally.proofs.KeyLaws.{hydrogen_fine, atom_fine_lem}

-- ONE ATOM, read at its place
module _ (t : List ℤ) (i p : ℕ) (low : i < 256) (at : p ≡ atom_place i) where
  there : p ≡ 16 + 5 * i
  there = at ∙ atom_place_lem i low

  pub key_read : (e m : ℕ) (r : Option ℕ) → e ≡ cell t p → m ≡ cell t (p + 1) → r ≡ key_if (isotope_of e m) → r ≡ key_if (atom_no t i).kind
  unfolding atom_no
  key_read e m r a b f = f ∙ ap₂ (λ (x y : ℕ). key_if (isotope_of x y)) (a ∙ ap (cell t) there) (b ∙ ap (λ (n : ℕ). cell t (n + 1)) there)

  pub implied_read : (r : ℕ) → r ≡ cell t (p + 2) → r ≡ (atom_no t i).hydrogens
  unfolding atom_no
  implied_read r f = f ∙ ap (λ (n : ℕ). cell t (n + 2)) there

-- THE ATOMS BY INDEX
module _ (a : List ℤ) (n : ℕ) where
  cell_is : (j : ℕ) → j < 5 → cell (take 5 (drop (5 * n) a)) j ≡ cell a (5 * n + j)
  cell_is j h = ap nat_abs (get_or-take 5 (drop (5 * n) a) j (pos 0) h ∙ get_or-drop (5 * n) a j (pos 0))

  atom_is : atom_at (take 5 (drop (5 * n) a)) ≡ atom_in a n
  unfolding atom_in
  atom_is =
      let q : 5 * n + 0 ≡ 5 * n = omega arith in
      let first : cell (take 5 (drop (5 * n) a)) 0 ≡ cell a (5 * n) = cell_is 0 (omega arith) ∙ ap (cell a) q in
      rw (first, cell_is 1 (omega arith), cell_is 2 (omega arith))

  pub atoms_long : length (atoms_in a n) ≡ n
  atoms_long = map_length atom_at (rows_from 5 (take 5) n a) ∙ rows_length 5 (take 5) n a

  pub atoms_snoc : atoms_in a (suc n) ≡ atoms_in a n ++ (atom_in a n ∷ [])
  atoms_snoc =
      ap (λ (m : ℕ). map atom_at (rows_from 5 (take 5) m a)) (sym (add-one n))
      ∙ ap (map atom_at) (rows_snoc 5 (take 5) n a)
      ∙ map-append atom_at (rows_from 5 (take 5) n a) (take 5 (drop (5 * n) a) ∷ [])
      ∙ ap (λ (x : Atom). atoms_in a n ++ (x ∷ [])) atom_is

pub atom_at_lem : (p : Atom → Bool) (a : List ℤ) (m n : ℕ) → all p (atoms_in a m) ≡ true → n < m → p (atom_in a n) ≡ true
atom_at_lem p a m n h k =
    let l : n < length (rows_from 5 (take 5) m a) = omega (arith, rows_length 5 (take 5) m a) in
    ap p (sym (atom_is a n) ∙ ap atom_at (sym (rows_at 5 (take 5) [] m a n k)) ∙ sym (map_at atom_at (atom_in a n) [] (rows_from 5 (take 5) m a) n l))
    ∙ all_at p (atom_in a n) (atoms_in a m) n h (omega (arith, atoms_long a m))

-- so two lists whose atoms are the same by index have the same atoms
pub atoms_same : (a b : List ℤ) (n : ℕ) → ((i : ℕ) → i < n → atom_in a i ≡ atom_in b i) → atoms_in a n ≡ atoms_in b n
atoms_same a b zero f = ap (map atom_at) (rows_zero 5 (take 5) a ∙ sym (rows_zero 5 (take 5) b))
atoms_same a b (suc n) f =
    atoms_snoc a n ∙ ap₂ (λ (xs : List Atom) (x : Atom). xs ++ (x ∷ [])) (atoms_same a b n (λ i h. f i (omega arith))) (f n (omega arith)) ∙ sym (atoms_snoc b n)

-- THE ATOMS OF A TABLE, which has sixteen numbers before them
abbrev pub atoms_to : List ℤ → ℕ → List Atom
atoms_to t n = map atom_at (rows_from 5 (take 5) n (drop 16 t))

pub atoms_are : (t : List ℤ) → (decode t).atoms ≡ atoms_to t (count_at t 0 256)
unfolding decode atom_records
atoms_are t = refl

module _ (t : List ℤ) (i : ℕ) where
  read_on : (j : ℕ) → cell (drop 16 t) (5 * i + j) ≡ cell t (16 + 5 * i + j)
  read_on j =
      let q : 16 + (5 * i + j) ≡ 16 + 5 * i + j = omega arith in
      ap nat_abs (get_or-drop 16 t (5 * i + j) (pos 0)) ∙ ap (cell t) q

  pub atom_dropped : atom_no t i ≡ atom_in (drop 16 t) i
  unfolding atom_no atom_in
  atom_dropped =
      let first : cell t (16 + 5 * i) ≡ cell (drop 16 t) (5 * i) = ap nat_abs (sym (get_or-drop 16 t (5 * i) (pos 0))) in
      rw (first, sym (read_on 1), sym (read_on 2))

  pub key_dropped : (r : Option ℕ) → r ≡ key_if (atom_no t i).kind → r ≡ key_if (atom_in (drop 16 t) i).kind
  key_dropped r e = e ∙ ap (λ (a : Atom). key_if a.kind) atom_dropped

  pub implied_dropped : (r : ℕ) → r ≡ (atom_no t i).hydrogens → r ≡ (atom_in (drop 16 t) i).hydrogens
  implied_dropped r e = e ∙ ap (λ (a : Atom). a.hydrogens) atom_dropped

-- THE FRONT OF A TABLE, up to where its atoms end, as far as the table goes: beyond its end and the table's stands 0
module _ (t : List ℤ) (e i : ℕ) (q : e ≡ min (length t) 1296) (b : i < 256) where
  front_cell : (j : ℕ) → j < 5 → cell (take e t) (16 + 5 * i + j) ≡ cell t (16 + 5 * i + j)
  front_cell j h = by (ltb (16 + 5 * i + j) (length t)) refl
    where
      by : (d : Bool) → ltb (16 + 5 * i + j) (length t) ≡ d → cell (take e t) (16 + 5 * i + j) ≡ cell t (16 + 5 * i + j)
      by true g =
          let l : 16 + 5 * i + j < length t = ltb-true (16 + 5 * i + j) (length t) g in
          ap nat_abs (get_or-take e t (16 + 5 * i + j) (pos 0) (omega arith))
      by false g =
          let l : length t ≤ 16 + 5 * i + j = ltb-false (16 + 5 * i + j) (length t) g in
          ap nat_abs (get_or-eq_default (take e t) (pos 0) (omega (arith, length-take e t)) ∙ sym (get_or-eq_default t (pos 0) l))

  pub front_atom : atom_no (take e t) i ≡ atom_no t i
  unfolding atom_no
  front_atom =
      let first : cell (take e t) (16 + 5 * i) ≡ cell t (16 + 5 * i) = ap (cell (take e t)) (omega arith) ∙ front_cell 0 (omega arith) ∙ ap (cell t) (omega arith) in
      rw (first, front_cell 1 (omega arith), front_cell 2 (omega arith))

-- the atoms of a table are those of a part whose atoms by index are the table's
pub part_atoms : (t a : List ℤ) (n : ℕ) → n ≤ 256 → ((i : ℕ) → i < 256 → atom_in a i ≡ atom_no t i) → atoms_to t n ≡ atoms_in a n
part_atoms t a n few f = sym (atoms_same a (drop 16 t) n (λ i h. f i (omega arith) ∙ atom_dropped t i))

-- ATOMS AS A SOUND TABLE HAS THEM make entries that can be
pub entries_fine : (atoms : List Atom) → all (atom_ok 103) atoms ≡ true → all (λ (e : Entry). fine e.kind) (entries_of atoms) ≡ true
unfolding entries_of
entries_fine [] h = all_nil (λ (e : Entry). fine e.kind)
entries_fine (a ∷ rest) h = let p = all_parts (atom_ok 103) a rest h in go a.hydrogens refl (atom_fine_lem a p.0).0 (entries_fine rest p.1)
  where
    go : (n : ℕ) → a.hydrogens ≡ n → fine a.kind ≡ true → all (λ (e : Entry). fine e.kind) (entries_of rest) ≡ true → all (λ (e : Entry). fine e.kind) (entries_of (a ∷ rest)) ≡ true
    go zero e f ih = ap (all (λ (e : Entry). fine e.kind)) (entries_bare a rest e) ∙ all_both (λ (e : Entry). fine e.kind) (entry a.kind 1) (entries_of rest) f ih
    go (suc n) e f ih =
        ap (all (λ (e : Entry). fine e.kind)) (entries_implied a rest n e)
        ∙ all_both (λ (e : Entry). fine e.kind) (entry a.kind 1) (entry (isotope_of 1 0) (suc n) ∷ entries_of rest) f
        (all_both (λ (e : Entry). fine e.kind) (entry (isotope_of 1 0) (suc n)) (entries_of rest) hydrogen_fine ih)
