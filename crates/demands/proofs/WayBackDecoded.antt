-- A table read as a structure: the table of a well-formed structure holds that structure, and with texts that are fine it is sound. Serves document 01, "The
-- structure table", and demand 2 ("21, the table isn't sound"). Assumes nothing.
use Prim.Native.Nat.{ℕ, suc, ◌-◌, ◌*◌}
use mathlib.Core.Path.{◌≡◌, refl, sym, ap, ◌∙◌}
use mathlib.Core.Bool.{Bool, true, false, ◌||◌}
use mathlib.Core.List.{List, [], ◌∷◌, ◌++◌, map, append_assoc}
use native.Mathlib.Omega.{arith}
use native.Mathlib.Nat.{mul-le-mul_left}
use lib.ListN.{length, get_or, take, replicate, length-append, length-map}
use lib.Seq.{take-append_seam}
use lib.IntN.{ℤ, pos, nat_abs}
use lib.Dec.{eqb}
use borrow.Author.Tests.{eqb-true, ne_eqb}
use Rattle.lists.specs.Lists.{all, flat, filled, rows_from}
use Rattle.lists.proofs.Bools.{torn, or_other}
use Rattle.lists.proofs.ListLaws.{all_parts}
use Rattle.lists.proofs.PartLaws.{filled_is, filled_length}
use Rattle.lists.proofs.RegionLaws.{flat_length}
use Rattle.format.specs.Labels.{ListOf, Bonds, Charges, Radicals, Centres, Pairs}
use Rattle.format.specs.Rows.{Row, row}
use Rattle.format.specs.Structure.{Atom, Structure, rows_of, most, arity, group_ok, row_ok}
use Rattle.format.specs.Table.{width, row_with, atom_cells, row_cells, rows_part, atom_at, marked_at, bond_at}
use Rattle.format.proofs.RowLaws.{FineRow, row_fine_lem}
use Rattle.demands.proofs.WayBackLists.{FineRows}
use Rattle.demands.proofs.WayBackMembers.{Marks, SpreadRows}

-- A ROW'S CELLS, and the row from them: atoms, a value, a group
cells_atoms : (ns : List ℕ) (z : List ℤ) → map nat_abs (take (length ns) (map pos ns ++ z)) ≡ ns
cells_atoms [] z = refl
cells_atoms (n ∷ ns) z = ap (λ (l : List ℕ). n ∷ l) (cells_atoms ns z)

cells_value : (ns : List ℕ) (v : ℤ) (z : List ℤ) → get_or (map pos ns ++ (v ∷ z)) (length ns) (pos 0) ≡ v
cells_value [] v z = refl
cells_value (n ∷ ns) v z = cells_value ns v z

cells_group : (ns : List ℕ) (v g : ℤ) (z : List ℤ) → get_or (map pos ns ++ (v ∷ g ∷ z)) (suc (length ns)) (pos 0) ≡ g
cells_group [] v g z = refl
cells_group (n ∷ ns) v g z = cells_group ns v g z

size_of : (n k : ℕ) → (eqb (suc k) 0 || eqb n (suc k)) ≡ true → n ≡ suc k
size_of n k h = eqb-true n (suc k) (or_other (eqb (suc k) 0) (eqb n (suc k)) h (ne_eqb (suc k) 0 (λ q. omega arith)))

pub no_group : (g : ℕ) → (eqb g 0 || false) ≡ true → g ≡ 0
no_group g h = by (eqb g 0) refl h
  where
    by : (t : Bool) → eqb g 0 ≡ t → (t || false) ≡ true → g ≡ 0
    by true e h = eqb-true g 0 e
    by false e h = torn false h refl

marked_cells : (k : ℕ) (r : Row) (z : List ℤ) → length r.atoms ≡ k → marked_at k ((map pos r.atoms ++ (r.value ∷ pos r.group ∷ [])) ++ z) ≡ r
marked_cells k r z e =
    let t : List ℤ = map pos r.atoms ++ (r.value ∷ pos r.group ∷ z) in
    ap (marked_at k) (append_assoc (map pos r.atoms) (r.value ∷ pos r.group ∷ []) z) ∙ ap (λ (i : ℕ). marked_at i t) (sym e)
    ∙ rw (cells_atoms r.atoms (r.value ∷ pos r.group ∷ z), cells_value r.atoms r.value (pos r.group ∷ z), cells_group r.atoms r.value (pos r.group) z) refl

bond_cells : (r : Row) (z : List ℤ) → length r.atoms ≡ 2 → r.group ≡ 0 → bond_at ((map pos r.atoms ++ (r.value ∷ [])) ++ z) ≡ r
bond_cells r z e g =
    let t : List ℤ = map pos r.atoms ++ (r.value ∷ z) in
    ap bond_at (append_assoc (map pos r.atoms) (r.value ∷ []) z)
    ∙ ap (λ (i : ℕ). row (map nat_abs (take i t)) (get_or t i (pos 0)) 0) (sym e)
    ∙ rw (cells_atoms r.atoms (r.value ∷ z), cells_value r.atoms r.value z) (ap (row r.atoms r.value) (sym g))

module _ (n : ℕ) where
  -- as wide as its list has it
  pub row_wide : (l : ListOf) (r : Row) → row_ok l n r ≡ true → length (row_cells l r) ≡ width l
  unfolding row_cells width arity
  row_wide Bonds r h = omega (arith, length-append (map pos r.atoms) (r.value ∷ []), length-map r.atoms pos, size_of (length r.atoms) 1 (row_fine_lem Bonds n r h).size)
  row_wide Charges r h = refl
  row_wide Radicals r h = refl
  row_wide Centres r h = omega (arith, length-append (map pos r.atoms) (r.value ∷ pos r.group ∷ []), length-map r.atoms pos, size_of (length r.atoms) 0 (row_fine_lem Centres n r h).size)
  row_wide Pairs r h = omega (arith, length-append (map pos r.atoms) (r.value ∷ pos r.group ∷ []), length-map r.atoms pos, size_of (length r.atoms) 1 (row_fine_lem Pairs n r h).size)

  pub bond_back : (r : Row) (z : List ℤ) → row_ok Bonds n r ≡ true → bond_at (row_cells Bonds r ++ z) ≡ r
  unfolding row_cells arity group_ok
  bond_back r z h = let F : FineRow Bonds n r = row_fine_lem Bonds n r h in bond_cells r z (size_of (length r.atoms) 1 F.size) (no_group r.group F.group)

  pub centre_back : (r : Row) (z : List ℤ) → row_ok Centres n r ≡ true → marked_at 1 (row_cells Centres r ++ z) ≡ r
  unfolding row_cells arity
  centre_back r z h = marked_cells 1 r z (size_of (length r.atoms) 0 (row_fine_lem Centres n r h).size)

  pub pair_back : (r : Row) (z : List ℤ) → row_ok Pairs n r ≡ true → marked_at 2 (row_cells Pairs r ++ z) ≡ r
  unfolding row_cells arity
  pair_back r z h = marked_cells 2 r z (size_of (length r.atoms) 1 (row_fine_lem Pairs n r h).size)

  -- a list's part of the table: as long as the list can be
  pub part_long : (s : Structure) (l : ListOf) → FineRows l n (rows_of l s) → length (rows_part s l) ≡ width l * most l
  unfolding rows_part
  part_long s l f =
      let q : length (flat (row_cells l) (rows_of l s)) ≡ width l * length (rows_of l s) = flat_length (width l) (row_cells l) (row_ok l n) (row_wide l) (rows_of l s) f.fine in
      filled_length (pos 0) (width l * most l) (flat (row_cells l) (rows_of l s)) (omega (arith, q, mul-le-mul_left (width l) f.few))

  -- what a row of charges or radicals keeps
  pub spread_fine : (l : ListOf) → ((g : ℕ) → group_ok l g ≡ true → g ≡ 0) → (rs : List Row) → all (row_ok l n) rs ≡ true → SpreadRows n rs
  spread_fine l bare [] h = tt
  spread_fine l bare (r ∷ rs) h =
      let p : (row_ok l n r ≡ true) × (all (row_ok l n) rs ≡ true) = all_parts (row_ok l n) r rs h in
      let F : FineRow l n r = row_fine_lem l n r p.0 in
      (record { ascending = F.ascending; listed = F.listed; bare = bare r.group F.group }, spread_fine l bare rs p.1)

-- THE ATOMS' RECORDS
abbrev pub record_of : (n : ℕ) → (cs rs : List Row) → Atom → List ℤ
record_of n cs rs a = pos a.kind.element ∷ pos a.kind.mass ∷ pos a.hydrogens ∷ pos (row_with 1 n cs) ∷ pos (row_with 1 n rs) ∷ []

abbrev pub records_of : (n : ℕ) → (cs rs : List Row) → List Atom → List (List ℤ)
records_of n cs rs [] = []
records_of n cs rs (a ∷ rest) = record_of n cs rs a ∷ records_of (suc n) cs rs rest

module _ (cs rs : List Row) where
  pub records_taken : (n : ℕ) (atoms : List Atom) (z : List ℤ) → rows_from 5 (take 5) (length atoms) (atom_cells n cs rs atoms ++ z) ≡ records_of n cs rs atoms
  unfolding rows_from atom_cells
  records_taken n [] z = refl
  records_taken n (a ∷ rest) z = ap (λ (l : List (List ℤ)). record_of n cs rs a ∷ l) (records_taken (suc n) rest z)

  pub records_atoms : (n : ℕ) (atoms : List Atom) → map atom_at (records_of n cs rs atoms) ≡ atoms
  records_atoms n [] = refl
  records_atoms n (a ∷ rest) = ap (λ (l : List Atom). a ∷ l) (records_atoms (suc n) rest)

  pub records_long : (n : ℕ) (atoms : List Atom) → length (records_of n cs rs atoms) ≡ length atoms
  records_long n [] = refl
  records_long n (a ∷ rest) = ap suc (records_long (suc n) rest)

  pub charge_marks : (n : ℕ) (atoms : List Atom) → Marks 3 (λ m. row_with 1 m cs) n (records_of n cs rs atoms)
  charge_marks n [] = tt
  charge_marks n (a ∷ rest) = (refl, charge_marks (suc n) rest)

  pub radical_marks : (n : ℕ) (atoms : List Atom) → Marks 4 (λ m. row_with 1 m rs) n (records_of n cs rs atoms)
  radical_marks n [] = tt
  radical_marks n (a ∷ rest) = (refl, radical_marks (suc n) rest)

  pub cells_long : (n : ℕ) (atoms : List Atom) → length (atom_cells n cs rs atoms) ≡ 5 * length atoms
  unfolding atom_cells
  cells_long n [] = refl
  cells_long n (a ∷ rest) = omega (arith, cells_long (suc n) rest)

-- the values of a list without places for its atoms
pub values_charges : (rs : List Row) → flat (row_cells Charges) rs ≡ map (λ (r : Row). r.value) rs
unfolding flat row_cells
values_charges [] = refl
values_charges (r ∷ rs) = ap (λ (l : List ℤ). r.value ∷ l) (values_charges rs)

pub values_radicals : (rs : List Row) → flat (row_cells Radicals) rs ≡ map (λ (r : Row). r.value) rs
unfolding flat row_cells
values_radicals [] = refl
values_radicals (r ∷ rs) = ap (λ (l : List ℤ). r.value ∷ l) (values_radicals rs)

pub values_taken : (vs : List ℤ) (rs : List Row) (n : ℕ) (z : List ℤ) → vs ≡ map (λ (r : Row). r.value) rs → take (length rs) (filled (pos 0) n vs ++ z) ≡ map (λ (r : Row). r.value) rs
values_taken vs rs n z e =
    let k : length rs ≡ length vs = sym (ap length e ∙ length-map rs (λ (r : Row). r.value)) in
    let y : List ℤ = replicate (n - length vs) (pos 0) ++ z in
    ap (λ (l : List ℤ). take (length rs) (l ++ z)) (filled_is (pos 0) n vs) ∙ ap (take (length rs)) (append_assoc vs (replicate (n - length vs) (pos 0)) z)
    ∙ ap (λ (i : ℕ). take i (vs ++ y)) k ∙ take-append_seam vs y ∙ e
