-- The atoms' region and the two regions of values, filled from the scratch, are the structure's own: document 01, "The structure table" ("256 atoms: element, mass
-- (0 none), implied hydrogens, charge row, radical row (from 1; 0 none)", "64 charge values, 64 radical values"). Assumes nothing.
use Prim.Native.Nat.{ℕ, zero, suc, ◌+◌, ◌-◌, ◌*◌, ◌≤◌, ◌<◌}
use mathlib.Core.Path.{◌≡◌, refl, sym, ap, ◌∙◌}
use mathlib.Core.Bool.{Bool, true, false}
use mathlib.Core.List.{List, [], ◌∷◌, ◌++◌, append_assoc, append-nil}
use native.Mathlib.Nat.{add-zero}
use native.Mathlib.Omega.{arith}
use lib.ListN.{length, get_or, drop, replicate, get_or-append}
use lib.IntN.{ℤ, pos, negsuc, neg_ℤ, nat_abs}
use Rattle.lists.specs.Lists.{all, concat, flat, filled, rows_from}
use Rattle.lists.specs.Order.{sort}
use Rattle.lists.proofs.ListLaws.{all_at}
use Rattle.lists.proofs.PartLaws.{concat_nil, concat_cons, flat_nil, flat_cons, filled_is}
use Rattle.lists.proofs.RegionLaws.{rows_zero, rows_suc, flat_cell}
use Rattle.lists.proofs.SortLaws.{sort_length, sort_all}
use Rattle.format.specs.Bytes.{is_in}
use Rattle.format.specs.Labels.{Charges, Radicals}
use Rattle.format.specs.Rows.{Row, row}
use Rattle.format.specs.Structure.{Atom, isotope_of, Structure, rows_of, most, ranged, atom_ok, row_before, row_ok}
use Rattle.format.specs.Reading.{finished}
use Rattle.format.specs.Table.{row_with, atom_cells, row_cells, rows_part, width}
use Rattle.format.proofs.ByteLaws.{within_true}
use Rattle.format.proofs.RowLaws.{atom_fine_lem}
use Rattle.sorted.specs.Regions.{kind_cells, kinds_region, member_of, members_from, arrived, void_of, coded, spread_region, Fits}
use Rattle.lists.proofs.IndexLaws.{all_every}
use Rattle.sorted.proofs.FitLaws.{row_fits_lem}
use Rattle.spread.proofs.SpreadLaws.{members_at_lem, members_length, region_is}
use Rattle.numbering.specs.Renumbers.{Renumbers}
use Rattle.filling.specs.Filled.{signed_of, copied, value_of, value_out, number_in, atom_out, gathered, atoms_out}
use Rattle.filling.proofs.FillLaws.{signed_small, cell_drop}
use Rattle.filling.proofs.AtomLaws.{value_low, value_high, gathered_nil, gathered_suc}
use Rattle.filling.proofs.RecordLaws.{natural_of}

-- GATHERED FROM THE FRONT
pub gathered_front : (out : ℕ → List ℤ) (n : ℕ) → gathered out (suc n) ≡ out 0 ++ gathered (λ i. out (suc i)) n
gathered_front out zero = gathered_suc out 0 ∙ ap (λ l. l ++ out 0) (gathered_nil out) ∙ sym (append-nil (out 0)) ∙ ap (λ l. out 0 ++ l) (sym (gathered_nil (λ i. out (suc i))))
gathered_front out (suc n) =
    gathered_suc out (suc n) ∙ ap (λ l. l ++ out (suc n)) (gathered_front out n) ∙ append_assoc (out 0) (gathered (λ i. out (suc i)) n) (out (suc n))
    ∙ ap (λ l. out 0 ++ l) (sym (gathered_suc (λ i. out (suc i)) n))

abbrev no_atom : Atom
no_atom = record { kind = isotope_of 0 0; hydrogens = 0 }

-- an atom's record by its number and its rows' numbers
abbrev cells_of : Atom → (charge radical : ℕ) → List ℤ
cells_of a c r = pos a.kind.element ∷ pos a.kind.mass ∷ pos a.hydrogens ∷ pos c ∷ pos r ∷ []

module _ (cs rs : List Row) where
  cells_nil : (k : ℕ) → atom_cells k cs rs [] ≡ []
  unfolding atom_cells
  cells_nil k = refl

  cells_cons : (k : ℕ) (a : Atom) (rest : List Atom) → atom_cells k cs rs (a ∷ rest) ≡ cells_of a (row_with 1 k cs) (row_with 1 k rs) ++ atom_cells (suc k) cs rs rest
  unfolding atom_cells
  cells_cons k a rest = refl

  cells_gathered : (listed : List Atom) (k : ℕ) (out : ℕ → List ℤ) → ((i : ℕ) → i < length listed → out i ≡ cells_of (get_or listed i no_atom) (row_with 1 (k + i) cs) (row_with 1 (k + i) rs))
      → gathered out (length listed) ≡ atom_cells k cs rs listed
  cells_gathered [] k out h = gathered_nil out ∙ sym (cells_nil k)
  cells_gathered (a ∷ rest) k out h =
      let first : out 0 ≡ cells_of a (row_with 1 k cs) (row_with 1 k rs) = h 0 (omega arith) ∙ ap (λ m. cells_of a (row_with 1 m cs) (row_with 1 m rs)) (add-zero k) in
      let later : gathered (λ i. out (suc i)) (length rest) ≡ atom_cells (suc k) cs rs rest =
      cells_gathered rest (suc k) (λ i. out (suc i)) (λ i l. h (suc i) (omega arith) ∙ shifted i) in
      gathered_front out (length rest) ∙ ap (λ l. l ++ gathered (λ i. out (suc i)) (length rest)) first ∙ ap (λ l. cells_of a (row_with 1 k cs) (row_with 1 k rs) ++ l) later
      ∙ sym (cells_cons k a rest)
    where
      shifted : (i : ℕ) → cells_of (get_or rest i no_atom) (row_with 1 (k + suc i) cs) (row_with 1 (k + suc i) rs) ≡ cells_of (get_or rest i no_atom) (row_with 1 (suc k + i) cs) (row_with 1 (suc k + i) rs)
      shifted i = let q : k + suc i ≡ suc k + i = omega arith in ap (λ m. cells_of (get_or rest i no_atom) (row_with 1 m cs) (row_with 1 m rs)) q

-- NUMBERS OF ROWS are small
with_in : (from n : ℕ) (r : Row) (rs : List Row) → is_in n r.atoms ≡ true → row_with from n (r ∷ rs) ≡ from
unfolding row_with
with_in from n r rs e = rw (e, row_with)

with_out : (from n : ℕ) (r : Row) (rs : List Row) → is_in n r.atoms ≡ false → row_with from n (r ∷ rs) ≡ row_with (suc from) n rs
unfolding row_with
with_out from n r rs e = rw (e, row_with)

with_small : (from n : ℕ) (rs : List Row) → row_with from n rs ≤ from + length rs
unfolding row_with
with_small from n [] = omega arith
with_small from n (r ∷ rs) = go (is_in n r.atoms) refl (with_small (suc from) n rs)
  where
    go : (t : Bool) → is_in n r.atoms ≡ t → row_with (suc from) n rs ≤ suc from + length rs → row_with from n (r ∷ rs) ≤ from + length (r ∷ rs)
    go true e h = omega (arith, with_in from n r rs e)
    go false e h = omega (arith, with_out from n r rs e)

-- AN ATOM'S NUMBERS in the scratch
kind_cell : (listed : List Atom) (i j : ℕ) → i < length listed → j < 3 → get_or (kinds_region listed) (3 * i + j) 0 ≡ get_or (kind_cells (get_or listed i no_atom)) j 0
unfolding kinds_region
kind_cell listed i j h k =
    ap (λ t. get_or t (3 * i + j) 0) (filled_is 0 768 (flat kind_cells listed))
    ∙ flat_cell 3 kind_cells (λ x. true) (λ x e. refl) 0 no_atom listed (replicate (768 - length (flat kind_cells listed)) 0) i j h k (all_every listed)

member_cell : (rs : List Row) (i : ℕ) → i < 256 → get_or (spread_region rs) i 0 ≡ member_of (1 + i) rs
member_cell rs i h =
    ap (λ t. get_or t i 0) (region_is rs) ∙ get_or-append (members_from 256 1 rs) (filled 0 64 (arrived rs) ++ (void_of rs ∷ [])) 0 i (omega (arith, members_length 256 1 rs))
    ∙ members_at_lem 256 1 rs i h

row_number : (rs : List Row) (order values : List ℕ) (i : ℕ) → Renumbers rs order values → length rs ≤ 64 → i < 256
    → signed_of (number_in (spread_region rs) order i) ≡ pos (row_with 1 (1 + i) (sort row_before rs))
row_number rs order values i f h l =
    let e : number_in (spread_region rs) order i ≡ row_with 1 (1 + i) (sort row_before rs) = ap (λ m. get_or order m 0) (member_cell rs i l) ∙ f.number (1 + i) (omega arith) (omega arith) in
    ap signed_of e ∙ signed_small (row_with 1 (1 + i) (sort row_before rs)) (omega (arith, with_small 1 (1 + i) (sort row_before rs), sort_length row_before rs))

module _ (k : ℕ) (b : k ≤ 103) (s : Structure) (co cv ro rv : List ℕ) (f : Renumbers s.charges co cv) (g : Renumbers s.radicals ro rv) (n : length s.atoms ≤ 256) (l : length s.charges ≤ 64)
    (m : length s.radicals ≤ 64) (fine : all (atom_ok k) s.atoms ≡ true)
  where
    atom_record : (i : ℕ) → i < length s.atoms
        → atom_out (kinds_region s.atoms) (spread_region s.charges) co (spread_region s.radicals) ro i
        ≡ cells_of (get_or s.atoms i no_atom) (row_with 1 (1 + i) (sort row_before s.charges)) (row_with 1 (1 + i) (sort row_before s.radicals))
    atom_record i h =
        let a : Atom = get_or s.atoms i no_atom in
        let x = atom_fine_lem k a (all_at (atom_ok k) no_atom s.atoms i fine h) in
        let z : 3 * i ≡ 3 * i + 0 = omega arith in
        let p : signed_of (get_or (kinds_region s.atoms) (3 * i) 0) ≡ pos a.kind.element =
        ap (λ j. signed_of (get_or (kinds_region s.atoms) j 0)) z ∙ ap signed_of (kind_cell s.atoms i 0 h (omega arith)) ∙ signed_small a.kind.element (omega (arith, x.high)) in
        let q : signed_of (get_or (kinds_region s.atoms) (3 * i + 1) 0) ≡ pos a.kind.mass = ap signed_of (kind_cell s.atoms i 1 h (omega arith)) ∙ signed_small a.kind.mass (omega (arith, x.mass)) in
        let r : signed_of (get_or (kinds_region s.atoms) (3 * i + 2) 0) ≡ pos a.hydrogens = ap signed_of (kind_cell s.atoms i 2 h (omega arith)) ∙ signed_small a.hydrogens (omega (arith, x.hydrogens)) in
        rw (p, q, r, row_number s.charges co cv i f l (omega arith), row_number s.radicals ro rv i g m (omega arith))

    pub atoms_part_lem : atoms_out (kinds_region s.atoms) (spread_region s.charges) co (spread_region s.radicals) ro (length s.atoms)
        ≡ filled (pos 0) 1280 (atom_cells 1 (finished s).charges (finished s).radicals (finished s).atoms)
    unfolding atoms_out finished
    atoms_part_lem =
        ap (filled (pos 0) 1280)
        (cells_gathered (sort row_before s.charges) (sort row_before s.radicals) s.atoms 1 (atom_out (kinds_region s.atoms) (spread_region s.charges) co (spread_region s.radicals) ro) atom_record)

-- VALUES
pub value_back : (v : ℤ) → nat_abs v ≤ 99 → value_of (coded v) ≡ v
value_back (pos n) h = let e : 100 + n - 100 ≡ n = omega arith in value_high (100 + n) (omega arith) ∙ ap signed_of e ∙ signed_small n (omega arith)
value_back (negsuc n) h = let e : 100 - (99 - n) ≡ suc n = omega arith in value_low (99 - n) (omega arith) ∙ ap (λ m. neg_ℤ (pos m)) e

values_as : (cells : Row → List ℤ) → ((r : Row) → cells r ≡ r.value ∷ []) → (d : Row) (ss : List Row) (vs : List ℕ) → ((i : ℕ) → i < length ss → value_of (get_or vs i 0) ≡ (get_or ss i d).value)
    → concat (rows_from 1 value_out (length ss) vs) ≡ flat cells ss
values_as cells c d [] vs h = ap concat (rows_zero 1 value_out vs) ∙ concat_nil ∙ sym (flat_nil cells)
values_as cells c d (s ∷ ss) vs h =
    ap concat (rows_suc 1 value_out (length ss) vs) ∙ concat_cons (value_out vs) (rows_from 1 value_out (length ss) (drop 1 vs))
    ∙ ap (λ l. l ++ concat (rows_from 1 value_out (length ss) (drop 1 vs))) (ap (λ v. v ∷ []) (h 0 (omega arith)) ∙ sym (c s))
    ∙ ap (λ l. cells s ++ l) (values_as cells c d ss (drop 1 vs) (λ i l. ap value_of (cell_drop 0 1 i vs ∙ moved i) ∙ h (suc i) (omega arith))) ∙ sym (flat_cons cells s ss)
  where
    moved : (i : ℕ) → get_or vs (1 + i) 0 ≡ get_or vs (suc i) 0
    moved i = let q : 1 + i ≡ suc i = omega arith in ap (λ j. get_or vs j 0) q

module _ (n : ℕ) (fine : Row → Bool) (small : (r : Row) → fine r ≡ true → nat_abs r.value ≤ 99) (cells : Row → List ℤ) (c : (r : Row) → cells r ≡ r.value ∷ []) where
  values_part : (rs : List Row) (order values : List ℕ) → Renumbers rs order values → all fine rs ≡ true → copied 1 value_out 64 (length rs) values ≡ filled (pos 0) 64 (flat cells (sort row_before rs))
  unfolding copied
  values_part rs order values f h =
      let ss : List Row = sort row_before rs in
      let d : Row = row [] (pos 0) 0 in
      ap (λ m. filled (pos 0) 64 (concat (rows_from 1 value_out m values))) (sym (sort_length row_before rs))
      ∙ ap (filled (pos 0) 64) (values_as cells c d ss values (λ i l. ap value_of (f.value i (omega (arith, sort_length row_before rs))) ∙ value_back (get_or ss i d).value (small (get_or ss i d) (all_at fine d ss i (sort_all row_before fine rs ∙ h) l))))

module _ (n : ℕ) (s : Structure) (order values : List ℕ) where
  charge_small : (r : Row) → row_ok Charges n r ≡ true → nat_abs r.value ≤ 99
  unfolding ranged
  charge_small r e = (within_true 1 99 (nat_abs r.value) (row_fits_lem Charges n r e).range).1

  radical_small : (r : Row) → row_ok Radicals n r ≡ true → nat_abs r.value ≤ 99
  unfolding ranged
  radical_small r e = let v = natural_of 1 15 r.value (row_fits_lem Radicals n r e).range in omega (arith, v.small)

  pub charges_part : Renumbers s.charges order values → Fits Charges n s.charges → copied 1 value_out 64 (length s.charges) values ≡ rows_part (finished s) Charges
  unfolding rows_part rows_of finished width most row_cells
  charges_part f h = values_part n (row_ok Charges n) charge_small (row_cells Charges) (λ r. refl) s.charges order values f h.each

  pub radicals_part : Renumbers s.radicals order values → Fits Radicals n s.radicals → copied 1 value_out 64 (length s.radicals) values ≡ rows_part (finished s) Radicals
  unfolding rows_part rows_of finished width most row_cells
  radicals_part f h = values_part n (row_ok Radicals n) radical_small (row_cells Radicals) (λ r. refl) s.radicals order values f h.each
