-- A row's two numbers of the scratch are its record of the table, and the region of a list, copied row by row, is the list's part of the table. Document 01, "The
-- structure table": bonds, centres and pairs. Assumes nothing.
use Prim.Native.Nat.{ℕ, suc, ◌+◌, ◌-◌, ◌*◌, ◌/◌, ◌%◌, ◌≤◌, ◌<◌}
use mathlib.Core.Path.{◌≡◌, refl, sym, ap, ◌∙◌}
use mathlib.Core.Bool.{Bool, true, false, ◌||◌}
use mathlib.Core.List.{List, [], ◌∷◌, ◌++◌, map}
use native.Mathlib.Omega.{arith}
use lib.ListN.{length, get_or, drop, replicate}
use lib.IntN.{ℤ, pos, negsuc, nat_abs}
use lib.Dec.{eqb}
use borrow.Author.Tests.{eqb-true}
use Rattle.lists.specs.Lists.{all, concat, flat, filled, rows_from}
use Rattle.lists.specs.Order.{sort}
use Rattle.lists.proofs.Bools.{torn}
use Rattle.lists.proofs.ListLaws.{all_parts, all_at}
use Rattle.lists.proofs.PartLaws.{concat_nil, concat_cons, flat_nil, flat_cons, flat_behind, filled_is}
use Rattle.lists.proofs.RegionLaws.{rows_zero, rows_suc}
use Rattle.lists.proofs.SortLaws.{sort_length, sort_all}
use Rattle.format.specs.Bytes.{within}
use Rattle.format.specs.Labels.{ListOf, Bonds, Charges, Radicals, Centres, Pairs}
use Rattle.format.specs.Rows.{Row, upper, lower}
use Rattle.format.specs.Structure.{arity, most, ranging, ranged, group_ok, row_before, row_ok, Structure, rows_of}
use Rattle.format.specs.Reading.{finished}
use Rattle.format.specs.Table.{width, row_cells, rows_part}
use Rattle.format.proofs.ByteLaws.{within_true}
use Rattle.sorted.specs.Regions.{keyed_cells, keyed_region, Fits}
use Rattle.sorted.proofs.FitLaws.{row_fits_lem}
use Rattle.filling.specs.Filled.{signed_of, bond_out, centre_out, pair_out, copied}
use Rattle.filling.proofs.FillLaws.{signed_small}

-- NUMBERS OF TWO DIGITS taken apart
module _ (a b : ℕ) (p : a < 1024) where
  pub key_high : b < 1024 → signed_of ((1024 * a + b) / 1024) ≡ pos a
  key_high q = let e : (1024 * a + b) / 1024 ≡ a = omega arith in ap signed_of e ∙ signed_small a (omega arith)

  pub key_low : b < 1024 → signed_of ((1024 * a + b) % 1024) ≡ pos b
  key_low q = let e : (1024 * a + b) % 1024 ≡ b = omega arith in ap signed_of e ∙ signed_small b (omega arith)

  pub payload_high : b < 256 → signed_of ((256 * a + b) / 256) ≡ pos a
  payload_high q = let e : (256 * a + b) / 256 ≡ a = omega arith in ap signed_of e ∙ signed_small a (omega arith)

  pub payload_low : b < 256 → signed_of ((256 * a + b) % 256) ≡ pos b
  payload_low q = let e : (256 * a + b) % 256 ≡ b = omega arith in ap signed_of e ∙ signed_small b (omega arith)

-- WHAT A ROW OF A LIST KEEPS, as numbers
pub one_atom : (ns : List ℕ) → length ns ≡ 1 → ns ≡ get_or ns 0 0 ∷ []
one_atom [] h = absurd (omega arith)
one_atom (a ∷ []) h = refl
one_atom (a ∷ b ∷ ns) h = absurd (omega arith)

pub two_atoms : (ns : List ℕ) → length ns ≡ 2 → ns ≡ get_or ns 0 0 ∷ get_or ns 1 0 ∷ []
two_atoms [] h = absurd (omega arith)
two_atoms (a ∷ []) h = absurd (omega arith)
two_atoms (a ∷ b ∷ []) h = refl
two_atoms (a ∷ b ∷ c ∷ ns) h = absurd (omega arith)

pub atom_small : (n : ℕ) (ns : List ℕ) (i : ℕ) → n ≤ 256 → all (within 1 n) ns ≡ true → i < length ns → get_or ns i 0 < 1024
atom_small n ns i h e k = let q : get_or ns i 0 ≤ n = (within_true 1 n (get_or ns i 0) (all_at (within 1 n) 0 ns i e k)).1 in omega arith

-- a natural value within its range
pub record Natural (high : ℕ) (v : ℤ) : Type 0 where
  pub is : v ≡ pos (nat_abs v)
  pub small : nat_abs v ≤ high

pub natural_of : (low high : ℕ) (v : ℤ) → ranging low high v ≡ true → Natural high v
unfolding ranging
natural_of low high (pos n) e = record { is = refl; small = (within_true low high n e).1 }
natural_of low high (negsuc n) e = torn false e refl

pub group_small : (l : ListOf) (g : ℕ) → group_ok l g ≡ true → g < 256
unfolding group_ok
group_small l g e = go (eqb g 0) refl
  where
    letter : (t : Bool) → upper g ≡ t → (t || lower g) ≡ true → g < 256
    letter true p q = let k : g ≤ 90 = (within_true 65 90 g p).1 in omega arith
    letter false p q = let k : g ≤ 122 = (within_true 97 122 g q).1 in omega arith

    other : (m : ListOf) → elim m [ Bonds ↦ false | Charges ↦ false | Radicals ↦ false | Centres ↦ upper g || lower g | Pairs ↦ upper g || lower g ] ≡ true → g < 256
    other Bonds q = torn false q refl
    other Charges q = torn false q refl
    other Radicals q = torn false q refl
    other Centres q = letter (upper g) refl q
    other Pairs q = letter (upper g) refl q

    go : (t : Bool) → eqb g 0 ≡ t → g < 256
    go true p = let k : g ≡ 0 = eqb-true g 0 p in omega arith
    go false p = other l (sym (ap (λ t. t || elim l [ Bonds ↦ false | Charges ↦ false | Radicals ↦ false | Centres ↦ upper g || lower g | Pairs ↦ upper g || lower g ]) p) ∙ e)

-- RECORDS
module _ (n : ℕ) (h : n ≤ 256) (r : Row) (z : List ℕ) where
  pub bond_record : row_ok Bonds n r ≡ true → bond_out (keyed_cells r ++ z) ≡ row_cells Bonds r
  unfolding row_cells ranged arity
  bond_record o =
      let f = row_fits_lem Bonds n r o in
      let m : length r.atoms ≡ 2 = eqb-true (length r.atoms) 2 f.many in
      let v : Natural 5 r.value = natural_of 1 5 r.value f.range in
      let a : get_or r.atoms 0 0 < 1024 = atom_small n r.atoms 0 h f.listed (omega arith) in
      let b : get_or r.atoms 1 0 < 1024 = atom_small n r.atoms 1 h f.listed (omega arith) in
      rw (
        key_high (get_or r.atoms 0 0) (get_or r.atoms 1 0) a b,
        key_low (get_or r.atoms 0 0) (get_or r.atoms 1 0) a b,
        payload_high (nat_abs r.value) r.group (omega (arith, v.small)) (group_small Bonds r.group f.grouping),
      )
      (ap (λ x. pos (get_or r.atoms 0 0) ∷ pos (get_or r.atoms 1 0) ∷ x ∷ []) (sym v.is) ∙ sym (ap (λ ns. map pos ns ++ (r.value ∷ [])) (two_atoms r.atoms m)))

  pub centre_record : row_ok Centres n r ≡ true → centre_out (keyed_cells r ++ z) ≡ row_cells Centres r
  unfolding row_cells ranged arity
  centre_record o =
      let f = row_fits_lem Centres n r o in
      let m : length r.atoms ≡ 1 = eqb-true (length r.atoms) 1 f.many in
      let v : Natural 2 r.value = natural_of 1 2 r.value f.range in
      let a : get_or r.atoms 0 0 < 1024 = atom_small n r.atoms 0 h f.listed (omega arith) in
      let b : get_or r.atoms 1 0 < 1024 = let q : get_or r.atoms 1 0 ≡ 0 = ap (λ ns. get_or ns 1 0) (one_atom r.atoms m) in omega arith in
      let g : r.group < 256 = group_small Centres r.group f.grouping in
      rw (
        key_high (get_or r.atoms 0 0) (get_or r.atoms 1 0) a b,
        payload_high (nat_abs r.value) r.group (omega (arith, v.small)) g,
        payload_low (nat_abs r.value) r.group (omega (arith, v.small)) g,
      )
      (ap (λ x. pos (get_or r.atoms 0 0) ∷ x ∷ pos r.group ∷ []) (sym v.is) ∙ sym (ap (λ ns. map pos ns ++ (r.value ∷ pos r.group ∷ [])) (one_atom r.atoms m)))

  pub pair_record : row_ok Pairs n r ≡ true → pair_out (keyed_cells r ++ z) ≡ row_cells Pairs r
  unfolding row_cells ranged arity
  pair_record o =
      let f = row_fits_lem Pairs n r o in
      let m : length r.atoms ≡ 2 = eqb-true (length r.atoms) 2 f.many in
      let v : Natural 2 r.value = natural_of 0 2 r.value f.range in
      let a : get_or r.atoms 0 0 < 1024 = atom_small n r.atoms 0 h f.listed (omega arith) in
      let b : get_or r.atoms 1 0 < 1024 = atom_small n r.atoms 1 h f.listed (omega arith) in
      let g : r.group < 256 = group_small Pairs r.group f.grouping in
      rw (
        key_high (get_or r.atoms 0 0) (get_or r.atoms 1 0) a b,
        key_low (get_or r.atoms 0 0) (get_or r.atoms 1 0) a b,
        payload_high (nat_abs r.value) r.group (omega (arith, v.small)) g,
        payload_low (nat_abs r.value) r.group (omega (arith, v.small)) g,
      )
      (ap (λ x. pos (get_or r.atoms 0 0) ∷ pos (get_or r.atoms 1 0) ∷ x ∷ pos r.group ∷ []) (sym v.is)
      ∙ sym (ap (λ ns. map pos ns ++ (r.value ∷ pos r.group ∷ [])) (two_atoms r.atoms m)))

-- A REGION, row by row
module _ (out : List ℕ → List ℤ) (cells : Row → List ℤ) (fine : Row → Bool) (same : (r : Row) (z : List ℕ) → fine r ≡ true → out (keyed_cells r ++ z) ≡ cells r) where
  rows_as : (ss : List Row) (z : List ℕ) → all fine ss ≡ true → concat (rows_from 2 out (length ss) (flat keyed_cells ss ++ z)) ≡ flat cells ss
  rows_as [] z h = ap concat (rows_zero 2 out (flat keyed_cells [] ++ z)) ∙ concat_nil ∙ sym (flat_nil cells)
  rows_as (s ∷ ss) z h =
      let p : (fine s ≡ true) × (all fine ss ≡ true) = all_parts fine s ss h in
      let rest : List ℕ = flat keyed_cells ss ++ z in
      ap (λ t. concat (rows_from 2 out (suc (length ss)) t)) (flat_behind keyed_cells s ss z)
      ∙ ap concat (rows_suc 2 out (length ss) (keyed_cells s ++ rest))
      ∙ concat_cons (out (keyed_cells s ++ rest)) (rows_from 2 out (length ss) (drop 2 (keyed_cells s ++ rest)))
      ∙ ap (λ l. l ++ concat (rows_from 2 out (length ss) rest)) (same s rest p.0) ∙ ap (λ l. cells s ++ l) (rows_as ss z p.1) ∙ sym (flat_cons cells s ss)

  pub region_as : (size m : ℕ) (rs : List Row) → all fine rs ≡ true
      → copied 2 out size (length rs) (filled 0 m (flat keyed_cells (sort row_before rs))) ≡ filled (pos 0) size (flat cells (sort row_before rs))
  unfolding copied
  region_as size m rs h =
      let ss : List Row = sort row_before rs in
      ap (λ n. filled (pos 0) size (concat (rows_from 2 out n (filled 0 m (flat keyed_cells ss))))) (sym (sort_length row_before rs))
      ∙ ap (λ t. filled (pos 0) size (concat (rows_from 2 out (length ss) t))) (filled_is 0 m (flat keyed_cells ss))
      ∙ ap (filled (pos 0) size) (rows_as ss (replicate (m - length (flat keyed_cells ss)) 0) (sort_all row_before fine rs ∙ h))

-- THE LISTS' PARTS of the table
module _ (n : ℕ) (h : n ≤ 256) (s : Structure) where
  pub bonds_part : Fits Bonds n s.bonds → copied 2 bond_out 1536 (length s.bonds) (keyed_region Bonds s.bonds) ≡ rows_part (finished s) Bonds
  unfolding keyed_region rows_part rows_of finished width most
  bonds_part f = region_as bond_out (row_cells Bonds) (row_ok Bonds n) (bond_record n h) 1536 1024 s.bonds f.each

  pub centres_part : Fits Centres n s.centres → copied 2 centre_out 384 (length s.centres) (keyed_region Centres s.centres) ≡ rows_part (finished s) Centres
  unfolding keyed_region rows_part rows_of finished width most
  centres_part f = region_as centre_out (row_cells Centres) (row_ok Centres n) (centre_record n h) 384 256 s.centres f.each

  pub pairs_part : Fits Pairs n s.pairs → copied 2 pair_out 512 (length s.pairs) (keyed_region Pairs s.pairs) ≡ rows_part (finished s) Pairs
  unfolding keyed_region rows_part rows_of finished width most
  pairs_part f = region_as pair_out (row_cells Pairs) (row_ok Pairs n) (pair_record n h) 512 256 s.pairs f.each
