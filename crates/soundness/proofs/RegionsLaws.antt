-- All regions of a table are fine if and only if the table's numbers are sound: its structure is well-formed, and the table is that structure's. Serves document 01,
-- "Refusal numbers" ("21, the table isn't sound (no atom, or a count, range, order, clash or zero rule broken"). Assumes nothing.
use Prim.Native.Nat.{ℕ, suc, ◌+◌, ◌*◌, ◌≤◌, ◌<◌}
use mathlib.Core.Path.{◌≡◌, refl, sym, ap, ◌∙◌}
use mathlib.Core.Bool.{Bool, true, false}
use mathlib.Core.List.{List, [], ◌∷◌}
use native.Mathlib.Nat.{mul-suc}
use native.Mathlib.Omega.{arith}
use lib.ListN.{length, get_or, take, drop, length-drop}
use lib.Seq.{length-take-le}
use lib.IntN.{ℤ, pos}
use lib.Dec.{leb}
use borrow.Author.Tests.{leb-true}
use Rattle.lists.specs.Lists.{all, same_by, flat, filled, rows_from}
use Rattle.lists.proofs.Bools.{both_ways, and_parts, and_both}
use Rattle.lists.proofs.ListLaws.{all_at}
use Rattle.lists.proofs.PartLaws.{filled_length}
use Rattle.lists.proofs.PairLaws.{same_by_eq, same_by_refl}
use Rattle.lists.proofs.RegionLaws.{rows_length}
use Rattle.format.specs.Labels.{ListOf, Bonds, Charges, Radicals, Centres, Pairs}
use Rattle.format.specs.Rows.{Row}
use Rattle.format.specs.Structure.{Atom, Structure, rows_of, most, atom_ok, well_formed}
use Rattle.format.specs.Table.{cell, base, width, row_with, atom_cells, row_cells, rows_part, span_cells, encode, marked_at, bond_at, spread_at, decode, spans_of, same_number, sound_numbers}
use Rattle.format.proofs.TableLaws.{number_equal, number_self}
use Rattle.soundness.specs.Numbered.{column, column_of, up_to}
use Rattle.soundness.specs.Sounding.{unused, header_fine, counts_fine, places_fine, handed_fine, atom_fine, atoms_fine, record_key, records_fine, keyed_fine, bonds_fine, centres_fine, pairs_fine, values_fine, charges_fine, radicals_fine, lists_fine, regions_fine}
use Rattle.soundness.proofs.NumberedLaws.{column_at, column_length, row_back}
use Rattle.soundness.proofs.SplitLaws.{region_split, region_joined}
use Rattle.soundness.proofs.KeyLaws.{bonds_keyed, centres_keyed, pairs_keyed}
use Rattle.soundness.proofs.KeyedLaws.{cells_long}
use Rattle.soundness.proofs.RecordLaws.{bonds_say, centres_say, pairs_say}
use Rattle.soundness.proofs.AtomLaws.{records, atoms_there, atoms_back, columns_fine}
use Rattle.soundness.proofs.ListLaws.{FineList, list_parts, list_test_lem, keyed_region_lem, region_keyed, charges_spread, radicals_spread, spread_many, spread_region_lem, region_spread}
use Rattle.soundness.proofs.HeaderLaws.{shown, decode_shown, atoms_many, Header, counts_parts, counts_both, header_counted, counts_there, counts_back, places_there, places_back}
use Rattle.soundness.proofs.HandedLaws.{handed_there, derived_there, derived_back}
use Rattle.soundness.proofs.LaidLaws.{WellMade, made_of, made_back, Laid, first_part, laid_of, laid_back}

-- FIVE NUMBERS AN ATOM
atom_cells_lem : (i : ℕ) (cs rs : List Row) (xs : List Atom) → length (atom_cells i cs rs xs) ≡ 5 * length xs
unfolding atom_cells
atom_cells_lem i cs rs [] = refl
atom_cells_lem i cs rs (x ∷ xs) = omega (arith, atom_cells_lem (suc i) cs rs xs, mul-suc 5 (length xs))

six_long : (t : List ℤ) → length (flat span_cells (spans_of t)) ≡ 6
unfolding flat spans_of rows_from
six_long t = refl

id_is : (t : List ℤ) → (decode t).id ≡ cell t 6
unfolding decode
id_is t = refl

module _ (k : ℕ) (t : List ℤ) (long : 3856 ≤ length t) (H : Header t long) where
  abbrev n : ℕ
  n = cell t 0

  abbrev s : Structure
  s = shown t

  abbrev atom_rows : List (List ℤ)
  atom_rows = records n (drop 16 t)

  abbrev each_atom : Bool
  each_atom = all (λ b. b) (rows_from 5 (atom_fine k (cell t 2) (cell t 3)) n (drop 16 t))

  small : n < 1024
  small = omega (arith, H.atoms.high_is)

  listed : length s.atoms ≡ n
  listed = atoms_many t long n

  recorded : length atom_rows ≡ n
  recorded = rows_length 5 (take 5) n (drop 16 t)

  cells_of : length (atom_cells 1 s.charges s.radicals s.atoms) ≡ 5 * n
  cells_of = atom_cells_lem 1 s.charges s.radicals s.atoms ∙ ap (λ (i : ℕ). 5 * i) listed

  within_atoms : 5 * n ≤ 1280
  within_atoms = omega (arith, H.atoms.high_is)

  room_atoms : 16 + 1280 ≤ length t
  room_atoms = omega arith

  -- what a list keeps, of so many atoms
  other_count : (l : ListOf) (m i j : ℕ) (rs : List Row) → i ≡ j → FineList l i m rs → FineList l j m rs
  other_count l m i j rs e f = rw e at f

  -- THE KEYED LISTS
  bonds_there : bonds_fine t ≡ true → FineList Bonds n 512 s.bonds × (filled (pos 0) 1536 (flat (row_cells Bonds) s.bonds) ≡ take 1536 (drop 1296 t))
  unfolding bonds_fine keyed_fine records_fine
  bonds_there h = keyed_region_lem Bonds n 3 bond_at (record_key 2 1 5 false n) (bonds_say n) bonds_keyed small t 1296 512 (cell t 1) H.bonds.high_is (omega arith) h

  bonds_back : FineList Bonds n 512 s.bonds → filled (pos 0) 1536 (flat (row_cells Bonds) s.bonds) ≡ take 1536 (drop 1296 t) → bonds_fine t ≡ true
  unfolding bonds_fine keyed_fine records_fine
  bonds_back f e = region_keyed Bonds n 3 bond_at (record_key 2 1 5 false n) (bonds_say n) bonds_keyed small t 1296 512 (cell t 1) H.bonds.high_is (omega arith) f e

  centres_there : centres_fine t ≡ true → FineList Centres n 128 s.centres × (filled (pos 0) 384 (flat (row_cells Centres) s.centres) ≡ take 384 (drop 2960 t))
  unfolding centres_fine keyed_fine records_fine
  centres_there h = keyed_region_lem Centres n 3 (marked_at 1) (record_key 1 1 2 true n) (centres_say n) centres_keyed small t 2960 128 (cell t 4) H.centres.high_is (omega arith) h

  centres_back : FineList Centres n 128 s.centres → filled (pos 0) 384 (flat (row_cells Centres) s.centres) ≡ take 384 (drop 2960 t) → centres_fine t ≡ true
  unfolding centres_fine keyed_fine records_fine
  centres_back f e = region_keyed Centres n 3 (marked_at 1) (record_key 1 1 2 true n) (centres_say n) centres_keyed small t 2960 128 (cell t 4) H.centres.high_is (omega arith) f e

  pairs_there : pairs_fine t ≡ true → FineList Pairs n 128 s.pairs × (filled (pos 0) 512 (flat (row_cells Pairs) s.pairs) ≡ take 512 (drop 3344 t))
  unfolding pairs_fine keyed_fine records_fine
  pairs_there h = keyed_region_lem Pairs n 4 (marked_at 2) (record_key 2 0 2 true n) (pairs_say n) pairs_keyed small t 3344 128 (cell t 5) H.pairs.high_is (omega arith) h

  pairs_back : FineList Pairs n 128 s.pairs → filled (pos 0) 512 (flat (row_cells Pairs) s.pairs) ≡ take 512 (drop 3344 t) → pairs_fine t ≡ true
  unfolding pairs_fine keyed_fine records_fine
  pairs_back f e = region_keyed Pairs n 4 (marked_at 2) (record_key 2 0 2 true n) (pairs_say n) pairs_keyed small t 3344 128 (cell t 5) H.pairs.high_is (omega arith) f e

  -- THE SPREAD LISTS, where the atoms' records are fine
  module _ (A : each_atom ≡ true) where
    columns : (up_to (cell t 2) (column 3 atom_rows) ≡ true) × (up_to (cell t 3) (column 4 atom_rows) ≡ true)
    columns = columns_fine k (cell t 2) (cell t 3) n (drop 16 t) A

    charges_there : charges_fine t ≡ true → FineList Charges n 64 s.charges × (filled (pos 0) 64 (flat (row_cells Charges) s.charges) ≡ take 64 (drop 2832 t))
    unfolding charges_fine values_fine column_of
    charges_there h = spread_region_lem Charges true charges_spread 3 n atom_rows recorded t 2832 (cell t 2) H.charges.high_is (omega arith) columns.0 h

    charges_back : FineList Charges n 64 s.charges → filled (pos 0) 64 (flat (row_cells Charges) s.charges) ≡ take 64 (drop 2832 t) → charges_fine t ≡ true
    unfolding charges_fine values_fine column_of
    charges_back f e = region_spread Charges true charges_spread 3 n atom_rows recorded t 2832 (cell t 2) H.charges.high_is (omega arith) columns.0 f e

    radicals_there : radicals_fine t ≡ true → FineList Radicals n 64 s.radicals × (filled (pos 0) 64 (flat (row_cells Radicals) s.radicals) ≡ take 64 (drop 2896 t))
    unfolding radicals_fine values_fine column_of
    radicals_there h = spread_region_lem Radicals false radicals_spread 4 n atom_rows recorded t 2896 (cell t 3) H.radicals.high_is (omega arith) columns.1 h

    radicals_back : FineList Radicals n 64 s.radicals → filled (pos 0) 64 (flat (row_cells Radicals) s.radicals) ≡ take 64 (drop 2896 t) → radicals_fine t ≡ true
    unfolding radicals_fine values_fine column_of
    radicals_back f e = region_spread Radicals false radicals_spread 4 n atom_rows recorded t 2896 (cell t 3) H.radicals.high_is (omega arith) columns.1 f e

    -- THE ATOMS
    row_is : (p c from : ℕ) → from ≤ 2896 → c ≤ 64 → up_to c (column p atom_rows) ≡ true → (i : ℕ) → i < n → row_with 1 (1 + i) (spread_at p 1 atom_rows (take c (drop from t))) ≡ cell (get_or atom_rows i []) p
    row_is p c from h few up i l =
        let vs : List ℤ = take c (drop from t) in
        let m : length vs ≡ c = length-take-le c (drop from t) (omega (arith, length-drop from t)) in
        let q : get_or (column p atom_rows) i 0 ≤ c = leb-true (get_or (column p atom_rows) i 0) c (all_at (λ (x : ℕ). leb x c) 0 (column p atom_rows) i up (omega (arith, column_length p atom_rows, recorded))) in
        row_back p atom_rows vs i (omega (arith, q, m, column_at p atom_rows i))

    atoms_fine_lem : (all (atom_ok k) s.atoms ≡ true) × (atom_cells 1 s.charges s.radicals s.atoms ≡ take (5 * n) (drop 16 t))
    atoms_fine_lem =
        atoms_back k (cell t 2) (cell t 3) s.charges s.radicals n (drop 16 t) 1 (omega (arith, within_atoms, length-drop 16 t)) A
        (row_is 3 (cell t 2) 2832 (omega arith) H.charges.high_is columns.0) (row_is 4 (cell t 3) 2896 (omega arith) H.radicals.high_is columns.1)

  -- THE REGIONS ARE FINE: the structure is well-formed, and the table is its own
  abbrev RegionOf : ListOf → Type 0
  RegionOf l = FineList l n (most l) (rows_of l s) × (rows_part s l ≡ take (width l * most l) (drop (base l) t))

  regions_there : places_fine t ≡ true → (handed_fine t ≡ true) × (unused (take 2 (drop 14 t)) ≡ true) → atoms_fine k t ≡ true → ((l : ListOf) → RegionOf l) → WellMade k s × Laid s (spans_of t) t
  unfolding atoms_fine
  regions_there places handed atoms f =
      let p = and_parts each_atom _ atoms in
      let a = atoms_fine_lem p.0 in (
        record {
          low = omega (arith, listed, H.atoms.low_is);
          high = omega (arith, listed, H.atoms.high_is);
          atoms = a.0;
          rows = λ l. list_test_lem l (length s.atoms) (most l) (rows_of l s) (other_count l (most l) n (length s.atoms) (rows_of l s) (sym listed) (f l).0);
          id = H.id.high_is;
          handed = (handed_there t handed.0).1;
        },
        record {
          counts_are = counts_there t long H;
          spans_are = places_there t long places;
          derived_are = derived_there t long handed.0 handed.1;
          atoms_are = region_joined t (atom_cells 1 s.charges s.radicals s.atoms) 16 1280 (5 * n) cells_of within_atoms room_atoms a.1 p.1;
          rows_are = λ l. (f l).1;
        },
      )

  lists_there : each_atom ≡ true → lists_fine t ≡ true → (l : ListOf) → RegionOf l
  unfolding lists_fine rows_part rows_of width most base
  lists_there A h =
      let b = and_parts (bonds_fine t) _ h in
      let c = and_parts (charges_fine t) _ b.1 in
      let r = and_parts (radicals_fine t) _ c.1 in
      let d = and_parts (centres_fine t) (pairs_fine t) r.1 in
      λ l. elim l as (λ l. RegionOf l) [ Bonds ↦ bonds_there b.0 | Charges ↦ charges_there A c.0 | Radicals ↦ radicals_there A r.0 | Centres ↦ centres_there d.0 | Pairs ↦ pairs_there d.1 ]

  -- THE OTHER WAY
  lists_back : each_atom ≡ true → ((l : ListOf) → RegionOf l) → lists_fine t ≡ true
  unfolding lists_fine rows_part rows_of width most base
  lists_back A f =
      rw (
        bonds_back (f Bonds).0 (f Bonds).1,
        charges_back A (f Charges).0 (f Charges).1,
        radicals_back A (f Radicals).0 (f Radicals).1,
        centres_back (f Centres).0 (f Centres).1,
      )
      (pairs_back (f Pairs).0 (f Pairs).1)

  values_many : (p c from : ℕ) → from ≤ 2896 → c ≤ 64 → length (spread_at p 1 atom_rows (take c (drop from t))) ≡ c
  values_many p c from h few = spread_many p atom_rows (take c (drop from t)) ∙ length-take-le c (drop from t) (omega (arith, length-drop from t))

  atoms_found : WellMade k s → Laid s (spans_of t) t → (each_atom ≡ true) × (atoms_fine k t ≡ true)
  unfolding atoms_fine
  atoms_found w f =
      let p = region_split t (atom_cells 1 s.charges s.radicals s.atoms) 16 1280 (5 * n) cells_of within_atoms room_atoms f.atoms_are in
      let a : all (λ b. b) (rows_from 5 (atom_fine k (length s.charges) (length s.radicals)) n (drop 16 t)) ≡ true =
      atoms_there k s.charges s.radicals n (drop 16 t) 1 (omega (arith, within_atoms, length-drop 16 t)) w.atoms p.0 in
      let A : each_atom ≡ true =
      ap (λ (i : ℕ). all (λ b. b) (rows_from 5 (atom_fine k i (cell t 3)) n (drop 16 t))) (sym (values_many 3 (cell t 2) 2832 (omega arith) H.charges.high_is))
      ∙ ap (λ (i : ℕ). all (λ b. b) (rows_from 5 (atom_fine k (length s.charges) i) n (drop 16 t))) (sym (values_many 4 (cell t 3) 2896 (omega arith) H.radicals.high_is)) ∙ a in
      (A, and_both each_atom _ A p.1)

  list_found : WellMade k s → Laid s (spans_of t) t → (l : ListOf) → RegionOf l
  list_found w f l = (other_count l (most l) (length s.atoms) n (rows_of l s) listed (list_parts l (length s.atoms) (most l) (rows_of l s) (w.rows l)), f.rows_are l)

  regions_back : WellMade k s → Laid s (spans_of t) t → (header_fine t ≡ true) × (atoms_fine k t ≡ true) × (lists_fine t ≡ true)
  unfolding header_fine
  regions_back w f =
      let a = atoms_found w f in (
        rw (counts_both t long H, places_back t long f.spans_are) (derived_back t long f.derived_are w.handed),
        a.1,
        lists_back a.0 (list_found w f),
      )

  -- how long each part of the encoding is
  part_long : (l : ListOf) → length (rows_part s l) ≡ width l * most l
  unfolding rows_part rows_of width most
  part_long Bonds =
      filled_length (pos 0) 1536 (flat (row_cells Bonds) s.bonds) (omega (arith, cells_long Bonds n 3 bond_at (record_key 2 1 5 false n) (bonds_say n) (cell t 1) (drop 1296 t) (omega (arith, H.bonds.high_is, length-drop 1296 t)), H.bonds.high_is))
  part_long Charges =
      filled_length (pos 0) 64 (flat (row_cells Charges) s.charges) (omega (arith, ap length (charges_spread.cells 3 1 atom_rows (take (cell t 2) (drop 2832 t))), length-take-le (cell t 2) (drop 2832 t) (omega (arith, H.charges.high_is, length-drop 2832 t)), H.charges.high_is))
  part_long Radicals =
      filled_length (pos 0) 64 (flat (row_cells Radicals) s.radicals) (omega (arith, ap length (radicals_spread.cells 4 1 atom_rows (take (cell t 3) (drop 2896 t))), length-take-le (cell t 3) (drop 2896 t) (omega (arith, H.radicals.high_is, length-drop 2896 t)), H.radicals.high_is))
  part_long Centres =
      filled_length (pos 0) 384 (flat (row_cells Centres) s.centres) (omega (arith, cells_long Centres n 3 (marked_at 1) (record_key 1 1 2 true n) (centres_say n) (cell t 4) (drop 2960 t) (omega (arith, H.centres.high_is, length-drop 2960 t)), H.centres.high_is))
  part_long Pairs =
      filled_length (pos 0) 512 (flat (row_cells Pairs) s.pairs) (omega (arith, cells_long Pairs n 4 (marked_at 2) (record_key 2 0 2 true n) (pairs_say n) (cell t 5) (drop 3344 t) (omega (arith, H.pairs.high_is, length-drop 3344 t)), H.pairs.high_is))

  atoms_long : length (filled (pos 0) 1280 (atom_cells 1 s.charges s.radicals s.atoms)) ≡ 1280
  atoms_long = filled_length (pos 0) 1280 (atom_cells 1 s.charges s.radicals s.atoms) (omega (arith, cells_of, within_atoms))

  shown_laid : encode s (spans_of t) ≡ take 3856 t → Laid s (spans_of t) t
  shown_laid e = laid_of s (spans_of t) t long (six_long t) atoms_long part_long e

-- THE TABLE'S NUMBERS
module _ (k : ℕ) (t : List ℤ) (long : 3856 ≤ length t) where
  fine_sound : regions_fine k t ≡ true → sound_numbers k t ≡ true
  unfolding regions_fine header_fine sound_numbers atoms_fine
  fine_sound h =
      let a = and_parts (header_fine t) _ h in
      let b = and_parts (atoms_fine k t) (lists_fine t) a.1 in
      let c = and_parts (counts_fine t) _ a.0 in
      let d = and_parts (places_fine t) _ c.1 in
      let g = and_parts (handed_fine t) (unused (take 2 (drop 14 t))) d.1 in
      let H : Header t long = counts_parts t long c.0 in
      let A = and_parts (each_atom k t long H) _ b.0 in
      let f = regions_there k t long H d.0 g b.0 (lists_there k t long H A.0 b.1) in
      let e : decode t ≡ shown t = decode_shown t (header_counted t long H) in
      and_both (well_formed k (decode t)) _ (ap (well_formed k) e ∙ made_back k (shown t) f.0)
      (ap (λ (x : Structure). same_by same_number (encode x (spans_of t)) (take 3856 t)) e ∙ ap (λ (x : List ℤ). same_by same_number x (take 3856 t)) (laid_back (shown t) (spans_of t) t f.1)
      ∙ same_by_refl same_number number_self (take 3856 t))

  sound_fine : sound_numbers k t ≡ true → regions_fine k t ≡ true
  unfolding regions_fine sound_numbers
  sound_fine h =
      let p = and_parts (well_formed k (decode t)) _ h in
      let q : encode (decode t) (spans_of t) ≡ take 3856 t = same_by_eq same_number number_equal (encode (decode t) (spans_of t)) (take 3856 t) p.1 in
      let w : WellMade k (decode t) = made_of k (decode t) p.0 in
      let H : Header t long = counts_back t long (first_part (decode t) (spans_of t) t long q).0 w.low (omega (arith, id_is t, w.id)) in
      let e : decode t ≡ shown t = decode_shown t (header_counted t long H) in
      let f = regions_back k t long H (made_of k (shown t) (ap (well_formed k) (sym e) ∙ p.0)) (shown_laid k t long H (ap (λ (x : Structure). encode x (spans_of t)) (sym e) ∙ q)) in
      rw (f.0, f.1) f.2

  -- the regions are fine if and only if the numbers are sound
  pub sound_regions : sound_numbers k t ≡ regions_fine k t
  sound_regions = both_ways (sound_numbers k t) (regions_fine k t) sound_fine fine_sound
