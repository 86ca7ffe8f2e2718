-- The table of a well-formed structure holds that structure, and with texts that are fine it is sound, so that it is written; and a form is written again from its
-- own reading, byte for byte. Serves document 01, demand 2. Assumes nothing.
use Prim.Native.Nat.{ℕ, ◌+◌, ◌*◌, ◌≤◌, min}
use mathlib.Core.Path.{◌≡◌, refl, sym, ap, ◌∙◌, subst}
use mathlib.Core.Bool.{Bool, true, false, ◌&&◌}
use mathlib.Core.List.{List, [], ◌∷◌, ◌++◌, map, append_assoc, append-nil}
use native.Mathlib.Omega.{arith}
use native.Mathlib.Nat.{min-eq_right}
use lib.ListN.{length, take, drop, length-append}
use lib.Seq.{take_at, drop_at, drop-drop}
use lib.IntN.{ℤ, pos, nat_abs}
use lib.Dec.{eqb}
use borrow.Author.Tests.{le-ltb}
use Rattle.lists.specs.Lists.{all, same_by, flat, filled, rows_from}
use Rattle.lists.proofs.Bools.{and_both}
use Rattle.lists.proofs.PartLaws.{filled_is, filled_length}
use Rattle.lists.proofs.PairLaws.{same_by_refl}
use Rattle.lists.proofs.RegionLaws.{filled_back}
use Rattle.format.specs.Bytes.{Bytes}
use Rattle.format.specs.Labels.{ListOf, Bonds, Charges, Radicals, Centres, Pairs}
use Rattle.format.specs.Structure.{Structure, rows_of, lists, most, meets, group_ok, row_ok, well_formed}
use Rattle.format.specs.Reading.{Span}
use Rattle.format.specs.Table.{Lent, short, width, atom_cells, row_cells, rows_part, counts, derived, encode, cell, count_at, atom_at, marked_at, bond_at, spread_at, atom_records, decode, spans_of, same_number, sound_numbers, text_fine, text_at, text_ok, sound, read_into, flag}
use Rattle.format.specs.Writing.{canonical, form_of, write_result}
use Rattle.demands.specs.WayBack.{ReadBack, WrittenAgain}
use Rattle.demands.proofs.WayBackLists.{lists_flat}
use Rattle.demands.proofs.WayBack.{Fine, fine_structure, way_back}
use Rattle.demands.proofs.WayBackMembers.{spread_rows_lem}
use Rattle.demands.proofs.WayBackDecoded.{row_wide, bond_back, centre_back, pair_back, part_long, spread_fine, records_of, records_taken, records_atoms, records_long, charge_marks, radical_marks, cells_long, values_charges, values_radicals, values_taken, no_group}
use Rattle.format.proofs.RefusedLaws.{long_read}
use Rattle.format.proofs.TableLaws.{number_self}

-- a structure from its eight parts
decoded_by : (t : List ℤ) (s : Structure) → map atom_at (atom_records t) ≡ s.atoms → rows_from 3 bond_at (count_at t 1 512) (drop 1296 t) ≡ s.bonds →
    spread_at 3 1 (atom_records t) (take (count_at t 2 64) (drop 2832 t)) ≡ s.charges → spread_at 4 1 (atom_records t) (take (count_at t 3 64) (drop 2896 t)) ≡ s.radicals →
    rows_from 3 (marked_at 1) (count_at t 4 128) (drop 2960 t) ≡ s.centres → rows_from 4 (marked_at 2) (count_at t 5 128) (drop 3344 t) ≡ s.pairs → cell t 6 ≡ s.id → eqb (cell t 13) 1 ≡ s.handed → decode t ≡ s
unfolding decode
decoded_by t s a b c d e f g h = rw (a, b, c, d, e, f, g, h) refl

count_is : (t : List ℤ) (p m n : ℕ) → cell t p ≡ n → n ≤ m → count_at t p m ≡ n
unfolding count_at
count_is t p m n e h = ap (min m) e ∙ min-eq_right h

peel : (t a b : List ℤ) (from size to : ℕ) → drop from t ≡ a ++ b → length a ≡ size → from + size ≡ to → drop to t ≡ b
peel t a b from size to e l n = ap (λ (i : ℕ). drop i t) (sym n) ∙ sym (drop-drop size from t) ∙ ap (drop size) e ∙ drop_at a b size l

module _ (k : ℕ) (s : Structure) (ok : Fine k s) (a b c : Span) (beyond : List ℤ) where
  abbrev pub numbers : List ℤ
  numbers = encode s (a ∷ b ∷ c ∷ [])

  abbrev pub table : List ℤ
  table = numbers ++ beyond

  abbrev pub atoms_part : List ℤ
  atoms_part = filled (pos 0) 1280 (atom_cells 1 s.charges s.radicals s.atoms)

  abbrev pub part_of : ListOf → List ℤ
  part_of l = rows_part s l

  atoms_long : length atoms_part ≡ 1280
  atoms_long = filled_length (pos 0) 1280 (atom_cells 1 s.charges s.radicals s.atoms) (omega (arith, cells_long s.charges s.radicals 1 s.atoms, ok.high))

  long : (l : ListOf) → length (part_of l) ≡ width l * most l
  long l = part_long (length s.atoms) s l (ok.rows l)

  -- the parts behind the first sixteen numbers
  pub from_atoms : drop 16 table ≡ atoms_part ++ (flat part_of lists ++ beyond)
  unfolding encode counts derived flat
  from_atoms = append_assoc atoms_part (flat part_of lists) beyond

  pub from_bonds : drop 1296 table ≡ part_of Bonds ++ (part_of Charges ++ (part_of Radicals ++ (part_of Centres ++ (part_of Pairs ++ beyond))))
  from_bonds = peel table atoms_part (flat part_of lists ++ beyond) 16 1280 1296 from_atoms atoms_long refl ∙ lists_flat part_of beyond

  pub from_charges : drop 2832 table ≡ part_of Charges ++ (part_of Radicals ++ (part_of Centres ++ (part_of Pairs ++ beyond)))
  unfolding width most
  from_charges = peel table (part_of Bonds) _ 1296 1536 2832 from_bonds (long Bonds) refl

  pub from_radicals : drop 2896 table ≡ part_of Radicals ++ (part_of Centres ++ (part_of Pairs ++ beyond))
  unfolding width most
  from_radicals = peel table (part_of Charges) _ 2832 64 2896 from_charges (long Charges) refl

  pub from_centres : drop 2960 table ≡ part_of Centres ++ (part_of Pairs ++ beyond)
  unfolding width most
  from_centres = peel table (part_of Radicals) _ 2896 64 2960 from_radicals (long Radicals) refl

  pub from_pairs : drop 3344 table ≡ part_of Pairs ++ beyond
  unfolding width most
  from_pairs = peel table (part_of Centres) _ 2960 384 3344 from_centres (long Centres) refl

  -- the counts, each within its list
  counts_are : (cell table 0 ≡ length s.atoms) × (cell table 1 ≡ length s.bonds) × (cell table 2 ≡ length s.charges) × (cell table 3 ≡ length s.radicals) × (cell table 4 ≡ length s.centres) × (cell table 5 ≡ length s.pairs) × (cell table 6 ≡ s.id)
  unfolding encode counts
  counts_are = (refl, refl, refl, refl, refl, refl, refl)

  few : (l : ListOf) → length (rows_of l s) ≤ most l
  few l = (ok.rows l).few

  records_are : atom_records table ≡ records_of 1 s.charges s.radicals s.atoms
  unfolding atom_records
  records_are =
      let cells : List ℤ = atom_cells 1 s.charges s.radicals s.atoms in
      let z : List ℤ = flat part_of lists ++ beyond in
      ap (λ (n : ℕ). rows_from 5 (take 5) n (drop 16 table)) (count_is table 0 256 (length s.atoms) counts_are.0 ok.high)
      ∙ ap (rows_from 5 (take 5) (length s.atoms)) (from_atoms ∙ ap (λ (l : List ℤ). l ++ z) (filled_is (pos 0) 1280 cells) ∙ append_assoc cells _ z)
      ∙ records_taken s.charges s.radicals 1 s.atoms _

  atoms_back : map atom_at (atom_records table) ≡ s.atoms
  atoms_back = ap (map atom_at) records_are ∙ records_atoms s.charges s.radicals 1 s.atoms

  bonds_back : rows_from 3 bond_at (count_at table 1 512) (drop 1296 table) ≡ s.bonds
  unfolding rows_part rows_of width most
  bonds_back =
      ap (λ (n : ℕ). rows_from 3 bond_at n (drop 1296 table)) (count_is table 1 512 (length s.bonds) counts_are.1 (few Bonds)) ∙ ap (rows_from 3 bond_at (length s.bonds)) from_bonds
      ∙ filled_back 3 (row_cells Bonds) (row_ok Bonds (length s.atoms)) (row_wide (length s.atoms) Bonds) bond_at (bond_back (length s.atoms)) (pos 0) 1536 s.bonds _ (ok.rows Bonds).fine

  centres_back : rows_from 3 (marked_at 1) (count_at table 4 128) (drop 2960 table) ≡ s.centres
  unfolding rows_part rows_of width most
  centres_back =
      ap (λ (n : ℕ). rows_from 3 (marked_at 1) n (drop 2960 table)) (count_is table 4 128 (length s.centres) counts_are.4 (few Centres)) ∙ ap (rows_from 3 (marked_at 1) (length s.centres)) from_centres
      ∙ filled_back 3 (row_cells Centres) (row_ok Centres (length s.atoms)) (row_wide (length s.atoms) Centres) (marked_at 1) (centre_back (length s.atoms)) (pos 0) 384 s.centres _ (ok.rows Centres).fine

  pairs_back : rows_from 4 (marked_at 2) (count_at table 5 128) (drop 3344 table) ≡ s.pairs
  unfolding rows_part rows_of width most
  pairs_back =
      ap (λ (n : ℕ). rows_from 4 (marked_at 2) n (drop 3344 table)) (count_is table 5 128 (length s.pairs) counts_are.5 (few Pairs)) ∙ ap (rows_from 4 (marked_at 2) (length s.pairs)) from_pairs
      ∙ filled_back 4 (row_cells Pairs) (row_ok Pairs (length s.atoms)) (row_wide (length s.atoms) Pairs) (marked_at 2) (pair_back (length s.atoms)) (pos 0) 512 s.pairs _ (ok.rows Pairs).fine

  abbrev records : List (List ℤ)
  records = records_of 1 s.charges s.radicals s.atoms

  as_many : length s.atoms ≡ length records
  as_many = sym (records_long s.charges s.radicals 1 s.atoms)

  charges_back : spread_at 3 1 (atom_records table) (take (count_at table 2 64) (drop 2832 table)) ≡ s.charges
  unfolding rows_part rows_of width most meets group_ok
  charges_back =
      ap (λ (r : List (List ℤ)). spread_at 3 1 r (take (count_at table 2 64) (drop 2832 table))) records_are
      ∙ ap (λ (n : ℕ). spread_at 3 1 records (take n (drop 2832 table))) (count_is table 2 64 (length s.charges) counts_are.2 (few Charges))
      ∙ ap (λ (l : List ℤ). spread_at 3 1 records (take (length s.charges) l)) from_charges
      ∙ ap (spread_at 3 1 records) (values_taken (flat (row_cells Charges) s.charges) s.charges 64 _ (values_charges s.charges))
      ∙ spread_rows_lem 3 records [] s.charges (charge_marks s.charges s.radicals 1 s.atoms) (ok.rows Charges).apart
      (spread_fine (length records) Charges no_group s.charges (rw as_many at (ok.rows Charges).fine))

  radicals_back : spread_at 4 1 (atom_records table) (take (count_at table 3 64) (drop 2896 table)) ≡ s.radicals
  unfolding rows_part rows_of width most meets group_ok
  radicals_back =
      ap (λ (r : List (List ℤ)). spread_at 4 1 r (take (count_at table 3 64) (drop 2896 table))) records_are
      ∙ ap (λ (n : ℕ). spread_at 4 1 records (take n (drop 2896 table))) (count_is table 3 64 (length s.radicals) counts_are.3 (few Radicals))
      ∙ ap (λ (l : List ℤ). spread_at 4 1 records (take (length s.radicals) l)) from_radicals
      ∙ ap (spread_at 4 1 records) (values_taken (flat (row_cells Radicals) s.radicals) s.radicals 64 _ (values_radicals s.radicals))
      ∙ spread_rows_lem 4 records [] s.radicals (radical_marks s.charges s.radicals 1 s.atoms) (ok.rows Radicals).apart
      (spread_fine (length records) Radicals no_group s.radicals (rw as_many at (ok.rows Radicals).fine))

  flag_back : (y : Bool) → eqb (nat_abs (flag y)) 1 ≡ y
  flag_back true = refl
  flag_back false = refl

  handed_back : eqb (cell table 13) 1 ≡ s.handed
  unfolding encode counts derived flat
  handed_back = flag_back s.handed

  -- THE STRUCTURE BACK
  pub decode_back : decode table ≡ s
  decode_back = decoded_by table s atoms_back bonds_back charges_back radicals_back centres_back pairs_back counts_are.6 handed_back

  pub spans_back : spans_of table ≡ a ∷ b ∷ c ∷ []
  unfolding spans_of rows_from encode counts flat
  spans_back = refl

  numbers_long : length numbers ≡ 3856
  unfolding encode counts derived flat width most
  numbers_long =
      let F : List ℤ = flat part_of lists in
      let x : List ℤ = part_of Centres ++ (part_of Pairs ++ []) in
      let q : length F ≡ length (part_of Bonds ++ (part_of Charges ++ (part_of Radicals ++ x))) = ap length (sym (append-nil F) ∙ lists_flat part_of []) in
      omega (
        arith,
        length-append atoms_part F,
        atoms_long,
        q,
        length-append (part_of Bonds) (part_of Charges ++ (part_of Radicals ++ x)),
        length-append (part_of Charges) (part_of Radicals ++ x),
        length-append (part_of Radicals) x,
        length-append (part_of Centres) (part_of Pairs ++ []),
        ap length (append-nil (part_of Pairs)),
        long Bonds,
        long Charges,
        long Radicals,
        long Centres,
        long Pairs,
      )

  -- SOUND, with the bytes that its texts stand in
  pub encoded_sound : well_formed k s ≡ true → (block : Bytes) → all (text_ok block) (a ∷ b ∷ c ∷ []) ≡ true → sound k table block ≡ true
  unfolding sound sound_numbers
  encoded_sound fine block texts =
      and_both (well_formed k (decode table) && same_by same_number (encode (decode table) (spans_of table)) (take 3856 table)) (all (text_ok block) (spans_of table))
      (and_both (well_formed k (decode table)) _ (ap (well_formed k) decode_back ∙ fine)
      (ap (λ (x : Structure). same_by same_number (encode x (spans_of table)) (take 3856 table)) decode_back ∙ ap (λ (l : List Span). same_by same_number (encode s l) (take 3856 table)) spans_back
      ∙ ap (same_by same_number numbers) (take_at numbers beyond 3856 numbers_long) ∙ same_by_refl same_number number_self numbers))
      (ap (all (text_ok block)) spans_back ∙ texts)

  pub table_long : 3856 ≤ length table
  table_long = omega (arith, numbers_long, length-append numbers beyond)

  -- its form is that of the structure and of the texts that stand there
  pub form_of_lem : (block : Bytes) → form_of table block ≡ canonical s (map (text_at block) (a ∷ b ∷ c ∷ []))
  unfolding form_of
  form_of_lem block = ap (λ (x : Structure). canonical x (map (text_at block) (spans_of table))) decode_back ∙ ap (λ (l : List Span). canonical s (map (text_at block) l)) spans_back

-- WRITTEN: a sound table whose form fits into the limit and into the buffer
pub form_written : (k : ℕ) (t : List ℤ) (b buffer : Bytes) → 3856 ≤ length t → sound k t b ≡ true → length (form_of t b) ≤ 32768 → length (form_of t b) ≤ length buffer →
    write_result k t b buffer ≡ record { number = 0; count = length (form_of t b); buffer = form_of t b ++ drop (length (form_of t b)) buffer }
unfolding write_result
form_written k t b buffer long ok fits room =
    rw (le-ltb (length t) 3856 long, ok, le-ltb 32768 (length (form_of t b)) fits, le-ltb (length buffer) (length (form_of t b)) room, write_result) refl

-- A FORM WRITTEN AGAIN FROM ITS OWN READING: it is accepted, the table that it is read into is sound, and that table's form is the form again
pub written_again : (k : ℕ) (s : Structure) (t0 t1 t2 : Bytes) → k ≤ 103 → well_formed k s ≡ true → all text_fine (t0 ∷ t1 ∷ t2 ∷ []) ≡ true →
    length (canonical s (t0 ∷ t1 ∷ t2 ∷ [])) ≤ 32768 → (into : Lent) → short into ≡ false → WrittenAgain k (canonical s (t0 ∷ t1 ∷ t2 ∷ [])) into
written_again k s t0 t1 t2 most-is ok fine fits into wide =
    let form : Bytes = canonical s (t0 ∷ t1 ∷ t2 ∷ []) in
    let R : ReadBack k s (t0 ∷ t1 ∷ t2 ∷ []) = way_back k s t0 t1 t2 most-is ok fine fits in
    let F : Fine k s = fine_structure k s ok in
    let z : List ℤ = drop 3856 into.table in
    let t : List ℤ = encode s (R.title ∷ R.origin ∷ R.owner ∷ []) ++ z in
    let sound_is : sound k t form ≡ true = encoded_sound k s F R.title R.origin R.owner z ok form R.sound_texts in
    let same : form_of t form ≡ form = form_of_lem k s F R.title R.origin R.owner z form ∙ ap (canonical s) R.same_texts in
    record {
      table = t;
      reads = long_read k form into wide ∙ ap (read_into into) R.reads;
      sound_again = sound_is;
      same_form = same;
      writes = λ buffer room.
          subst (λ (f : Bytes). write_result k t form buffer ≡ record { number = 0; count = length f; buffer = f ++ drop (length f) buffer }) same
          (form_written k t form buffer (table_long k s F R.title R.origin R.owner z) sound_is (omega (arith, ap length same)) (omega (arith, ap length same)));
    }
