-- Rows: the words that a row of a list, or an atom, is printed with have that row's shape, and are words. What the five lists share (atoms and a letter, a value
-- and atoms) is proved once. Serves document 01, "The one written form", read by "Rows". Assumes nothing.
use Prim.Native.Nat.{ℕ, zero, suc, ◌≤◌, ◌<◌}
use mathlib.Core.Path.{◌≡◌, refl, sym, ap, ◌∙◌}
use mathlib.Core.Bool.{Bool, true, false, ◌||◌}
use Rattle.std.specs.declared.option.Option.{Option}
use Rattle.std.specs.declared.option.Option.TheVariants.{Some}
use mathlib.Core.List.{List, [], ◌∷◌, ◌++◌, map}
use Prim.Native.String.{String}
use native.Mathlib.Omega.{arith}
use lib.ListN.{length, get_or, drop, length-append}
use lib.IntN.{ℤ, pos, negsuc, nat_abs}
use lib.Dec.{eqb, ltb, leb}
use borrow.Author.Tests.{eqb-true, ne_eqb, leb-true, ltb-true}
use Rattle.lists.specs.Lists.{all, same_by}
use Rattle.lists.specs.Order.{ascends}
use Rattle.lists.proofs.Bools.{torn, and_parts, or_other}
use Rattle.lists.proofs.ListLaws.{all_at, all_nil, all_both, all_parts}
use Rattle.format.specs.Bytes.{Bytes, bytes, within}
use Rattle.format.specs.Labels.{ListOf, Bonds, Charges, Radicals, Centres, Pairs}
use Rattle.format.specs.Rows.{upper, lower, number, natural, signed, field, optional, nothing_more, group, place_in, first_numbers, atom_shape, Row, row, marked, spread, row_shape}
use Rattle.format.specs.Structure.{Atom, arity, ranging, ranged, atom_ok, group_ok, row_ok}
use Rattle.format.specs.Writing.{digits, spelt, line, unless_zero, atom_words, signed_of, letter_of, row_words}
use Rattle.format.proofs.ByteLaws.{within_true, upper_bounds, lower_bounds}
use Rattle.format.proofs.FieldLaws.{printed, Words, words_append}
use Rattle.format.proofs.NumberLaws.{small, number_back, natural_back, signed_back, signed_printed, numbers_back, numbers_words, printed_number, digits_printed, within_small}
use Rattle.format.proofs.RowLines.{RowLine, row_line_lem}
use Rattle.format.proofs.SymbolLaws.{Printable, symbol_back, symbol_printed, symbol_some, spelt_printable, upper_printed, lower_printed}

-- WHAT A FINE ROW SAYS
pub record FineRow (l : ListOf) (n : ℕ) (r : Row) : Type 0 where
  pub value : ranged l r.value ≡ true
  pub group : group_ok l r.group ≡ true
  pub size : (eqb (arity l) 0 || eqb (length r.atoms) (arity l)) ≡ true
  pub listed : all (within 1 n) r.atoms ≡ true
  pub ascending : ascends ltb r.atoms ≡ true

pub row_fine_lem : (l : ListOf) (n : ℕ) (r : Row) → row_ok l n r ≡ true → FineRow l n r
unfolding row_ok
row_fine_lem l n r h =
    let p = and_parts (ranged l r.value) _ h in
    let q = and_parts (group_ok l r.group) _ p.1 in
    let s = and_parts (eqb (arity l) 0 || eqb (length r.atoms) (arity l)) _ q.1 in
    let t = and_parts (all (within 1 n) r.atoms) (ascends ltb r.atoms) s.1 in
    record { value = p.0; group = q.0; size = s.0; listed = t.0; ascending = t.1 }

pub fine_row : (l : ListOf) (n : ℕ) (r : Row) → FineRow l n r → row_ok l n r ≡ true
unfolding row_ok
fine_row l n r f = rw (f.value, f.group, f.size, f.listed) f.ascending

-- ATOMS, A LETTER, WHAT MAY FOLLOW
pub first_back : (ns : List ℕ) (ws : List Bytes) → all small ns ≡ true → first_numbers (length ns) (map digits ns ++ ws) ≡ Some ns
unfolding first_numbers
first_back [] ws h = refl
first_back (n ∷ ns) ws h =
    let p : (small n ≡ true) × (all small ns ≡ true) = all_parts small n ns h in
    rw (number_back n (ltb-true n 1000000 p.0), first_back ns ws p.1)

field_behind : (ns : List ℕ) (w : Bytes) (ws : List Bytes) → field (length ns) (map digits ns ++ (w ∷ ws)) ≡ w
field_behind [] w ws = refl
field_behind (n ∷ ns) w ws = field_behind ns w ws

drop_behind : (ns : List ℕ) (w : Bytes) (ws : List Bytes) → drop (suc (length ns)) (map digits ns ++ (w ∷ ws)) ≡ ws
drop_behind [] w ws = refl
drop_behind (n ∷ ns) w ws = drop_behind ns w ws

pub marked_back : (from : ℕ) (letters : String) (last : Bytes → Option ℕ) (ns : List ℕ) (w : Bytes) (ws : List Bytes) (v g : ℕ) →
    all small ns ≡ true → place_in from w (bytes letters) ≡ Some v → optional last ws ≡ Some g → marked (length ns) from letters last (map digits ns ++ (w ∷ ws)) ≡ Some (row ns (pos v) g)
unfolding marked
marked_back from letters last ns w ws v g h e f = rw (first_back ns (w ∷ ws) h, field_behind ns w ws, e, drop_behind ns w ws, f)

-- A VALUE AND ATOMS
pub spread_back : (value : Bytes → Option ℤ) (w : Bytes) (ns : List ℕ) (v : ℤ) → all small ns ≡ true → value w ≡ Some v → spread value (w ∷ map digits ns) ≡ Some (row ns v 0)
unfolding spread
spread_back value w ns v h e = rw (e, numbers_back ns h)

-- LETTERS of a value in its range
bond_letter : (n : ℕ) → within 1 5 n ≡ true → place_in 1 (letter_of "-SDTQA" (pos n)) (bytes "SDTQA") ≡ Some n
unfolding place_in bytes same_by
bond_letter zero h = absurd (omega (arith, (within_true 1 5 0 h).0))
bond_letter (suc zero) h = refl
bond_letter (suc (suc zero)) h = refl
bond_letter (suc (suc (suc zero))) h = refl
bond_letter (suc (suc (suc (suc zero)))) h = refl
bond_letter (suc (suc (suc (suc (suc zero))))) h = refl
bond_letter (suc (suc (suc (suc (suc (suc n)))))) h = absurd (omega (arith, (within_true 1 5 (suc (suc (suc (suc (suc (suc n)))))) h).1))

centre_letter : (n : ℕ) → within 1 2 n ≡ true → place_in 1 (letter_of "0PM" (pos n)) (bytes "PM") ≡ Some n
unfolding place_in bytes same_by
centre_letter zero h = absurd (omega (arith, (within_true 1 2 0 h).0))
centre_letter (suc zero) h = refl
centre_letter (suc (suc zero)) h = refl
centre_letter (suc (suc (suc n))) h = absurd (omega (arith, (within_true 1 2 (suc (suc (suc n))) h).1))

pair_letter : (n : ℕ) → within 0 2 n ≡ true → place_in 0 (letter_of "0PM" (pos n)) (bytes "0PM") ≡ Some n
unfolding place_in bytes same_by
pair_letter zero h = refl
pair_letter (suc zero) h = refl
pair_letter (suc (suc zero)) h = refl
pair_letter (suc (suc (suc n))) h = absurd (omega (arith, (within_true 0 2 (suc (suc (suc n))) h).1))

-- a value of 0 or more, in its range
pub ranging_pos : (lowest highest : ℕ) (v : ℤ) → ranging lowest highest v ≡ true → (v ≡ pos (nat_abs v)) × (within lowest highest (nat_abs v) ≡ true)
unfolding ranging
ranging_pos lowest highest (pos n) h = (refl, h)
ranging_pos lowest highest (negsuc n) h = torn false h refl

-- the group: left out where it is 0
pub group_back : (g : ℕ) → (eqb g 0 || (upper g || lower g)) ≡ true → optional group (unless_zero g (g ∷ [])) ≡ Some g
unfolding group
group_back zero h = refl
group_back (suc g) h =
    let l : (upper (suc g) || lower (suc g)) ≡ true = or_other (eqb (suc g) 0) _ h (ne_eqb (suc g) 0 (λ q. omega arith)) in
    rw (no_zero l, l, group)
  where
    no_zero : (upper (suc g) || lower (suc g)) ≡ true → eqb (suc g) 48 ≡ false
    no_zero l = ne_eqb (suc g) 48 (λ q. letter (upper (suc g)) refl q l)
      where
        letter : (t : Bool) → upper (suc g) ≡ t → suc g ≡ 48 → (upper (suc g) || lower (suc g)) ≡ true → ⊥
        letter true e q l = omega (arith, (upper_bounds (suc g) e).0)
        letter false e q l = omega (arith, (lower_bounds (suc g) (or_other (upper (suc g)) (lower (suc g)) l e)).0)

-- THE SHAPE of each list's words. Its number of atoms:
size_is : (n k : ℕ) → (eqb (suc k) 0 || eqb n (suc k)) ≡ true → n ≡ suc k
size_is n k h = eqb-true n (suc k) (or_other (eqb (suc k) 0) (eqb n (suc k)) h (ne_eqb (suc k) 0 (λ q. omega arith)))

-- a row whose value is the number that was read
same_row : (ns : List ℕ) (v : ℤ) (g h : ℕ) → v ≡ pos (nat_abs v) → g ≡ h → ◌≡◌ {A = Option Row} (Some (row ns (pos (nat_abs v)) g)) (Some (row ns v h))
same_row ns v g h e f = ap (λ (u : ℤ). Some (row ns u g)) (sym e) ∙ ap (λ (k : ℕ). Some (row ns v k)) f

group_zero : (g : ℕ) → (eqb g 0 || false) ≡ true → g ≡ 0
group_zero g h = go (eqb g 0) refl h
  where
    go : (t : Bool) → eqb g 0 ≡ t → (t || false) ≡ true → g ≡ 0
    go true e h = eqb-true g 0 e
    go false e h = torn false h refl

module _ (n : ℕ) (b : n < 1000000) (r : Row) where
  fine_small : (l : ListOf) → FineRow l n r → all small r.atoms ≡ true
  fine_small l f = within_small n r.atoms b f.listed

  bonds_back : FineRow Bonds n r → row_shape Bonds (row_words Bonds r) ≡ Some r
  unfolding row_shape row_words ranged arity group_ok
  bonds_back f =
      let p : (r.value ≡ pos (nat_abs r.value)) × (within 1 5 (nat_abs r.value) ≡ true) = ranging_pos 1 5 r.value f.value in
      let w : Bytes = letter_of "-SDTQA" r.value in
      ap (λ (k : ℕ). marked k 1 "SDTQA" nothing_more (map digits r.atoms ++ (w ∷ []))) (sym (size_is (length r.atoms) 1 f.size))
      ∙ marked_back 1 "SDTQA" nothing_more r.atoms w [] (nat_abs r.value) 0 (fine_small Bonds f) (bond_letter (nat_abs r.value) p.1) refl
      ∙ same_row r.atoms r.value 0 r.group p.0 (sym (group_zero r.group f.group))

  centres_back : FineRow Centres n r → row_shape Centres (row_words Centres r) ≡ Some r
  unfolding row_shape row_words ranged arity group_ok
  centres_back f =
      let p : (r.value ≡ pos (nat_abs r.value)) × (within 1 2 (nat_abs r.value) ≡ true) = ranging_pos 1 2 r.value f.value in
      let w : Bytes = letter_of "0PM" r.value in
      let ws : List Bytes = unless_zero r.group (r.group ∷ []) in
      ap (λ (k : ℕ). marked k 1 "PM" group (map digits r.atoms ++ (w ∷ ws))) (sym (size_is (length r.atoms) 0 f.size))
      ∙ marked_back 1 "PM" group r.atoms w ws (nat_abs r.value) r.group (fine_small Centres f) (centre_letter (nat_abs r.value) p.1) (group_back r.group f.group)
      ∙ same_row r.atoms r.value r.group r.group p.0 refl

  pairs_back : FineRow Pairs n r → row_shape Pairs (row_words Pairs r) ≡ Some r
  unfolding row_shape row_words ranged arity group_ok
  pairs_back f =
      let p : (r.value ≡ pos (nat_abs r.value)) × (within 0 2 (nat_abs r.value) ≡ true) = ranging_pos 0 2 r.value f.value in
      let w : Bytes = letter_of "0PM" r.value in
      let ws : List Bytes = unless_zero r.group (r.group ∷ []) in
      ap (λ (k : ℕ). marked k 0 "0PM" group (map digits r.atoms ++ (w ∷ ws))) (sym (size_is (length r.atoms) 1 f.size))
      ∙ marked_back 0 "0PM" group r.atoms w ws (nat_abs r.value) r.group (fine_small Pairs f) (pair_letter (nat_abs r.value) p.1) (group_back r.group f.group)
      ∙ same_row r.atoms r.value r.group r.group p.0 refl

  charges_back : FineRow Charges n r → row_shape Charges (row_words Charges r) ≡ Some r
  unfolding row_shape row_words ranged group_ok
  charges_back f =
      let k : nat_abs r.value < 1000000 = omega (arith, (within_true 1 99 (nat_abs r.value) f.value).1) in
      spread_back signed (signed_of r.value) r.atoms r.value (fine_small Charges f) (signed_back r.value k)
      ∙ ap (λ (g : ℕ). Some (row r.atoms r.value g)) (sym (group_zero r.group f.group))

  radicals_back : FineRow Radicals n r → row_shape Radicals (row_words Radicals r) ≡ Some r
  unfolding row_shape row_words ranged group_ok
  radicals_back f =
      let p : (r.value ≡ pos (nat_abs r.value)) × (within 1 15 (nat_abs r.value) ≡ true) = ranging_pos 1 15 r.value f.value in
      let k : nat_abs r.value < 1000000 = omega (arith, (within_true 1 15 (nat_abs r.value) p.1).1) in
      spread_back natural (digits (nat_abs r.value)) r.atoms (pos (nat_abs r.value)) (fine_small Radicals f) (natural_back (nat_abs r.value) k)
      ∙ same_row r.atoms r.value 0 r.group p.0 (sym (group_zero r.group f.group))

  shape_of : (l : ListOf) → FineRow l n r → row_shape l (row_words l r) ≡ Some r
  shape_of Bonds f = bonds_back f
  shape_of Charges f = charges_back f
  shape_of Radicals f = radicals_back f
  shape_of Centres f = centres_back f
  shape_of Pairs f = pairs_back f

  pub shape_back : (l : ListOf) → row_ok l n r ≡ true → row_shape l (row_words l r) ≡ Some r
  shape_back l h = shape_of l (row_fine_lem l n r h)

-- THE WORDS: not empty, of printed bytes
letter_words : (s : String) (v : ℤ) → all printed (bytes s) ≡ true → nat_abs v < length (bytes s) → all printed (letter_of s v) ≡ true
letter_words s v h k = all_both printed (get_or (bytes s) (nat_abs v) 0) [] (all_at printed 0 (bytes s) (nat_abs v) h k) (all_nil printed)

bond_letters : all printed (bytes "-SDTQA") ≡ true
unfolding bytes all within
bond_letters = refl

bond_count : length (bytes "-SDTQA") ≡ 6
unfolding bytes
bond_count = refl

stereo_letters : all printed (bytes "0PM") ≡ true
unfolding bytes all within
stereo_letters = refl

stereo_count : length (bytes "0PM") ≡ 3
unfolding bytes
stereo_count = refl

group_words : (g : ℕ) → (eqb g 0 || (upper g || lower g)) ≡ true → Words (unless_zero g (g ∷ []))
group_words zero h = tt
group_words (suc g) h =
    let l : (upper (suc g) || lower (suc g)) ≡ true = or_other (eqb (suc g) 0) _ h (ne_eqb (suc g) 0 (λ q. omega arith)) in
    (omega arith, all_both printed (suc g) [] (go (upper (suc g)) refl l) (all_nil printed), tt)
  where
    go : (t : Bool) → upper (suc g) ≡ t → (upper (suc g) || lower (suc g)) ≡ true → printed (suc g) ≡ true
    go true e l = upper_printed (suc g) e
    go false e l = lower_printed (suc g) (or_other (upper (suc g)) (lower (suc g)) l e)

module _ (n : ℕ) (r : Row) where
  mark_words_lem : (w : Bytes) (ws : List Bytes) → 0 < length w → all printed w ≡ true → Words ws → Words (map digits r.atoms ++ (w ∷ ws))
  mark_words_lem w ws k h t = words_append (map digits r.atoms) (w ∷ ws) (numbers_words r.atoms) (k, h, t)

  words_of : (l : ListOf) → FineRow l n r → Words (row_words l r)
  unfolding row_words ranged group_ok
  words_of Bonds f =
      let p : (r.value ≡ pos (nat_abs r.value)) × (within 1 5 (nat_abs r.value) ≡ true) = ranging_pos 1 5 r.value f.value in
      mark_words_lem (letter_of "-SDTQA" r.value) [] (omega arith) (letter_words "-SDTQA" r.value bond_letters (omega (arith, bond_count, (within_true 1 5 (nat_abs r.value) p.1).1))) tt
  words_of Charges f = ((signed_printed r.value).0, (signed_printed r.value).1, numbers_words r.atoms)
  words_of Radicals f = ((printed_number (nat_abs r.value)).some, digits_printed (nat_abs r.value), numbers_words r.atoms)
  words_of Centres f =
      let p : (r.value ≡ pos (nat_abs r.value)) × (within 1 2 (nat_abs r.value) ≡ true) = ranging_pos 1 2 r.value f.value in
      mark_words_lem (letter_of "0PM" r.value) _ (omega arith) (letter_words "0PM" r.value stereo_letters (omega (arith, stereo_count, (within_true 1 2 (nat_abs r.value) p.1).1))) (group_words r.group f.group)
  words_of Pairs f =
      let p : (r.value ≡ pos (nat_abs r.value)) × (within 0 2 (nat_abs r.value) ≡ true) = ranging_pos 0 2 r.value f.value in
      mark_words_lem (letter_of "0PM" r.value) _ (omega arith) (letter_words "0PM" r.value stereo_letters (omega (arith, stereo_count, (within_true 0 2 (nat_abs r.value) p.1).1))) (group_words r.group f.group)

  pub row_words_lem : (l : ListOf) → row_ok l n r ≡ true → Words (row_words l r)
  row_words_lem l h = words_of l (row_fine_lem l n r h)

  -- a row is never a blank line
  pub row_some : (l : ListOf) → 0 < length (row_words l r)
  unfolding row_words
  row_some Bonds = omega (arith, length-append (map digits r.atoms) (letter_of "-SDTQA" r.value ∷ []))
  row_some Charges = omega arith
  row_some Radicals = omega arith
  row_some Centres = omega (arith, length-append (map digits r.atoms) (letter_of "0PM" r.value ∷ unless_zero r.group (r.group ∷ [])))
  row_some Pairs = omega (arith, length-append (map digits r.atoms) (letter_of "0PM" r.value ∷ unless_zero r.group (r.group ∷ [])))

  pub printed_row : (l : ListOf) → row_ok l n r ≡ true → RowLine (row_words l r) (line (row_words l r))
  printed_row l h = row_line_lem (row_words l r) (row_words_lem l h)

-- ATOMS
pub record FineAtom (k : ℕ) (a : Atom) : Type 0 where
  pub low : 1 ≤ a.kind.element
  pub high : a.kind.element ≤ k
  pub mass : a.kind.mass ≤ 300
  pub hydrogens : a.hydrogens ≤ 15

pub atom_fine_lem : (k : ℕ) (a : Atom) → atom_ok k a ≡ true → FineAtom k a
unfolding atom_ok
atom_fine_lem k a h =
    let p = and_parts (within 1 k a.kind.element) _ h in
    let q = and_parts (leb a.kind.mass 300) (leb a.hydrogens 15) p.1 in
    record {
      low = (within_true 1 k a.kind.element p.0).0;
      high = (within_true 1 k a.kind.element p.0).1;
      mass = leb-true a.kind.mass 300 q.0;
      hydrogens = leb-true a.hydrogens 15 q.1;
    }

hydrogens_back : (h : ℕ) → h < 1000000 → optional number (unless_zero h (digits h)) ≡ Some h
hydrogens_back zero b = refl
hydrogens_back (suc h) b = number_back (suc h) b

hydrogens_words : (h : ℕ) → Words (unless_zero h (digits h))
hydrogens_words zero = tt
hydrogens_words (suc h) = ((printed_number (suc h)).some, digits_printed (suc h), tt)

module _ (k n : ℕ) (a : Atom) (b : k ≤ 103) (f : FineAtom k a) where
  kind_printable : Printable (spelt a.kind)
  kind_printable = spelt_printable a.kind f.low (omega (arith, f.high)) (omega (arith, f.mass))

  pub atom_back : n < 1000000 → atom_shape (atom_words n a) ≡ Some (record { number = n; symbol = spelt a.kind; hydrogens = a.hydrogens })
  unfolding atom_shape atom_words
  atom_back h = rw (number_back n h, symbol_back (spelt a.kind) kind_printable, hydrogens_back a.hydrogens (omega (arith, f.hydrogens)))

  pub atom_words_lem : Words (atom_words n a)
  unfolding atom_words
  atom_words_lem = ((printed_number n).some, digits_printed n, (symbol_some (spelt a.kind), symbol_printed (spelt a.kind) kind_printable, hydrogens_words a.hydrogens))

  pub printed_atom : RowLine (atom_words n a) (line (atom_words n a))
  printed_atom = row_line_lem (atom_words n a) atom_words_lem
