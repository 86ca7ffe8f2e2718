-- The structure of a block that obeys the rules is well-formed: its atoms, the rows of each list without repeats and sorted, its block id keep every count, range,
-- order and clash rule. Serves document 01, demand 2: what is read can be written. Assumes nothing.
use Prim.Native.Nat.{ℕ, ◌≤◌}
use mathlib.Core.Path.{◌≡◌, refl, ap, ◌∙◌}
use mathlib.Core.Bool.{Bool, true, false, not, ◌&&◌, ◌||◌}
use Rattle.std.specs.declared.option.Option.{Option}
use Rattle.std.specs.declared.option.Option.TheVariants.{None, Some}
use mathlib.Core.List.{List, [], ◌∷◌, map}
use native.Mathlib.Omega.{arith}
use lib.ListN.{length, length-map}
use lib.Dec.{eqb, ltb, leb}
use borrow.Author.Tests.{eq-eqb, ne_eqb, lt-ltb, le-ltb, le-leb, not-true}
use Rattle.lists.specs.Lists.{all, pairs, is_nil}
use Rattle.lists.specs.Order.{ascends, level}
use Rattle.lists.specs.Folding.{kept}
use Rattle.lists.proofs.Bools.{torn, and_parts, and_both, not_of_false}
use Rattle.lists.proofs.ListLaws.{all_nil, all_one, all_parts, all_both, all_imply, all_and, same_none}
use Rattle.lists.proofs.PartLaws.{all_map, all_flat}
use Rattle.lists.proofs.PairLaws.{pairs_same}
use Rattle.lists.proofs.LexLaws.{Sides, less, equal, greater, sides, ltb_strict}
use Rattle.lists.proofs.SortLaws.{sort_length, sort_all, sort_pairs, sort_ascends}
use Rattle.lists.proofs.FoldLaws.{kept_all, kept_apart}
use Rattle.format.specs.Bytes.{Bytes, cut, within, fields, strip}
use Rattle.format.specs.Labels.{ListOf, Bonds, Charges, Radicals, Centres, Pairs, Holds, Text, Version, Formula, BlockId, Atoms, Rows, Xyz, Handedness, End, Skipped}
use Rattle.format.specs.Rows.{Row, AtomRow, number, field, atom_shape, row_shape}
use Rattle.format.specs.Structure.{rows_of, lists, most, arity, ranged, meets, row_before, atom_ok, group_ok, row_ok, rows_ok, well_formed, handed_twice}
use Rattle.format.specs.Reading.{ordered}
use Rattle.format.proofs.ByteLaws.{within_is}
use Rattle.format.proofs.NumberLaws.{number_bound}
use Rattle.format.proofs.OrderLaws.{row_strict, meets_symm, rows_apart}
use Rattle.format.proofs.RowLaws.{fine_row}
use Rattle.demands.specs.Accepted.{Told, Value, Further, labels, named, listed, row_on, fits, row_fits, atom_fine, row_fine, value_rule, further_rule, own_rule, atom_of, told_of, atom_rows, list_rows, Obeys}
use Rattle.demands.specs.ReadAs.{id_as, ids_in, rows_in_order, structure_in}
use Rattle.demands.proofs.AcceptedContents.{atom_in, atom_on, same_list, row_in, row_of, id_on, same_list_lem, atoms_are, rows_are, ids_are}
use Rattle.demands.proofs.AcceptedYes.{beside_none, kept_none}
use Rattle.demands.proofs.AcceptedSoundShapes.{Shaped, row_shaped, atom_massless, atom_known}

-- a line that keeps its rule: what follows of a row's shape and test holds of the row on it
fits_all : {A : Type 0} (shape : List Bytes → Option A) (test p : A → Bool) → ((fs : List Bytes) (a : A) → shape fs ≡ Some a → test a ≡ true → p a ≡ true) → (fs : List Bytes) → row_fits shape test fs ≡ true → all p (row_on shape fs) ≡ true
fits_all shape test p f [] h = all_nil p
fits_all shape test p f (w ∷ ws) h = by (shape (w ∷ ws)) refl h
  where
    by : (o : Option _) → shape (w ∷ ws) ≡ o → fits test o ≡ true → all p (listed o) ≡ true
    by None e g = torn false g refl
    by (Some a) e g = all_one p a ∙ f (w ∷ ws) a e g

module _ (k : ℕ) (p : Told → Bool) (b : Bytes) (fine : all (own_rule k) (told_of b) ≡ true) where
  each_told : ((t : Told) → own_rule k t ≡ true → p t ≡ true) → all p (told_of b) ≡ true
  each_told f = all_imply (own_rule k) p f (told_of b) fine

-- A ROW OF A LIST, all but that its atoms are listed
level_eqb : (x y : ℕ) → level ltb x y ≡ eqb x y
level_eqb x y = by (sides x y)
  where
    by : Sides x y → level ltb x y ≡ eqb x y
    by (less h) = rw (lt-ltb x y h, ne_eqb x y (omega arith))
    by (equal h) = rw (le-ltb x y (omega arith), le-ltb y x (omega arith), eq-eqb x y h)
    by (greater h) = rw (le-ltb x y (omega arith), lt-ltb y x h, ne_eqb x y (omega arith))

abbrev sized : ListOf → Row → Bool
sized l r = eqb (arity l) 0 || eqb (length r.atoms) (arity l)

abbrev alone : ListOf → Row → Bool
alone l r = ranged l r.value && (group_ok l r.group && (sized l r && ascends ltb r.atoms))

ordered_alone : (l : ListOf) (fs : List Bytes) (r : Row) → row_shape l fs ≡ Some r → row_fine l r ≡ true → alone l (ordered r) ≡ true
ordered_alone l fs r e h =
    let s : Shaped l r = row_shaped l fs r e in
    let p : (ranged l r.value ≡ true) × (not (pairs eqb r.atoms) ≡ true) = and_parts (ranged l r.value) _ h in
    and_both _ _ p.0
    (and_both _ _ s.grouped
    (and_both _ _ (ap (λ (n : ℕ). eqb (arity l) 0 || eqb n (arity l)) (sort_length ltb r.atoms) ∙ s.many)
    (sort_ascends ltb ltb_strict r.atoms (pairs_same (level ltb) eqb level_eqb r.atoms ∙ not-true (pairs eqb r.atoms) p.1))))

alone_listed : (l : ListOf) (n : ℕ) (r : Row) → (alone l r && all (within 1 n) r.atoms) ≡ true → row_ok l n r ≡ true
alone_listed l n r h =
    let a : (alone l r ≡ true) × (all (within 1 n) r.atoms ≡ true) = and_parts (alone l r) _ h in
    let p : (ranged l r.value ≡ true) × ((group_ok l r.group && (sized l r && ascends ltb r.atoms)) ≡ true) = and_parts (ranged l r.value) _ a.0 in
    let q : (group_ok l r.group ≡ true) × ((sized l r && ascends ltb r.atoms) ≡ true) = and_parts (group_ok l r.group) _ p.1 in
    let s : (sized l r ≡ true) × (ascends ltb r.atoms ≡ true) = and_parts (sized l r) _ q.1 in
    fine_row l n r (record { value = p.0; group = q.0; size = s.0; listed = a.1; ascending = s.1 })

module _ (l : ListOf) where
  rows_alone : (m : ListOf) (b : Bytes) → row_fits (row_shape m) (row_fine m) (fields (strip b)) ≡ true → all (alone l) (row_in l (Rows m) b) ≡ true
  rows_alone m b h = by (same_list l m) refl
    where
      by : (t : Bool) → same_list l m ≡ t → all (alone l) (elim t as (λ (u : Bool). List Row) [ true ↦ map ordered (row_on (row_shape m) (fields (strip b))) | false ↦ [] ]) ≡ true
      by true e =
          let q : l ≡ m = same_list_lem l m e in
          all_map (alone l) ordered (row_on (row_shape m) (fields (strip b)))
          ∙ fits_all (row_shape m) (row_fine m) (λ r. alone l (ordered r)) (λ fs r g t. ap (λ (j : ListOf). alone j (ordered r)) q ∙ ordered_alone m fs r g t) (fields (strip b)) h
      by false e = all_nil (alone l)

  -- by a rule for the lines of a record, on its label line or further on, that asks this of a list's lines
  module _ (rule : Holds → Bytes → Bool) (asks : (m : ListOf) (b : Bytes) → rule (Rows m) b ≡ true → row_fits (row_shape m) (row_fine m) (fields (strip b)) ≡ true) where
    line_alone : (h : Holds) (b : Bytes) → rule h b ≡ true → all (alone l) (row_in l h b) ≡ true
    line_alone (Text i) b e = all_nil (alone l)
    line_alone Version b e = all_nil (alone l)
    line_alone Formula b e = all_nil (alone l)
    line_alone BlockId b e = all_nil (alone l)
    line_alone Atoms b e = all_nil (alone l)
    line_alone (Rows m) b e = rows_alone m b (asks m b e)
    line_alone (Xyz x) b e = all_nil (alone l)
    line_alone Handedness b e = all_nil (alone l)
    line_alone End b e = all_nil (alone l)
    line_alone Skipped b e = all_nil (alone l)

  told_alone : (k : ℕ) (t : Told) → own_rule k t ≡ true → all (alone l) (row_of l t) ≡ true
  told_alone k (Value h v) e = line_alone (value_rule k) (λ m b f. f) h v e
  told_alone k (Further h b) e = line_alone (further_rule k) (λ m c f. f) h b e

-- THE ATOMS
module _ (k : ℕ) (one : 1 ≤ k) where
  abbrev atom_good : AtomRow → Bool
  atom_good r = atom_ok k (atom_of k r)

  atoms_good : (b : Bytes) → row_fits atom_shape (atom_fine k) (fields (strip b)) ≡ true → all atom_good (row_on atom_shape (fields (strip b))) ≡ true
  atoms_good b h = fits_all atom_shape (atom_fine k) atom_good (λ fs r e g. atom_known k one r (atom_massless fs r e) g) (fields (strip b)) h

  module _ (rule : Holds → Bytes → Bool) (asks : (b : Bytes) → rule Atoms b ≡ true → row_fits atom_shape (atom_fine k) (fields (strip b)) ≡ true) where
    line_good : (h : Holds) (b : Bytes) → rule h b ≡ true → all atom_good (atom_in h b) ≡ true
    line_good (Text i) b e = all_nil atom_good
    line_good Version b e = all_nil atom_good
    line_good Formula b e = all_nil atom_good
    line_good BlockId b e = all_nil atom_good
    line_good Atoms b e = atoms_good b (asks b e)
    line_good (Rows m) b e = all_nil atom_good
    line_good (Xyz x) b e = all_nil atom_good
    line_good Handedness b e = all_nil atom_good
    line_good End b e = all_nil atom_good
    line_good Skipped b e = all_nil atom_good

  told_good : (t : Told) → own_rule k t ≡ true → all atom_good (atom_on t) ≡ true
  told_good (Value h v) e = line_good (value_rule k) (λ b f. f) h v e
  told_good (Further h b) e = line_good (further_rule k) (λ c f. f) h b e

-- THE BLOCK ID: a number of at most six digits
abbrev id_good : ℕ → Bool
id_good n = leb n 999999

number_good : (w : Bytes) (o : Option ℕ) → number w ≡ o → all id_good (listed o) ≡ true
number_good w None e = all_nil id_good
number_good w (Some n) e = all_one id_good n ∙ le-leb n 999999 (omega (arith, number_bound n w e))

id_good_lem : (t : Told) → all id_good (id_on t) ≡ true
id_good_lem (Value (Text i) v) = all_nil id_good
id_good_lem (Value Version v) = all_nil id_good
id_good_lem (Value Formula v) = all_nil id_good
id_good_lem (Value BlockId v) = number_good (field 0 (fields (strip v))) _ refl
id_good_lem (Value Atoms v) = all_nil id_good
id_good_lem (Value (Rows m) v) = all_nil id_good
id_good_lem (Value (Xyz x) v) = all_nil id_good
id_good_lem (Value Handedness v) = all_nil id_good
id_good_lem (Value End v) = all_nil id_good
id_good_lem (Value Skipped v) = all_nil id_good
id_good_lem (Further h l) = all_nil id_good

ids_good : (ts : List Told) → all (λ t. all id_good (id_on t)) ts ≡ true
ids_good [] = all_nil _
ids_good (t ∷ ts) = all_both (λ u. all id_good (id_on u)) t ts (id_good_lem t) (ids_good ts)

first_good : (ns : List ℕ) → all id_good ns ≡ true → id_good (id_as ns) ≡ true
first_good [] h = refl
first_good (n ∷ ns) h = (all_parts id_good n ns h).0

-- THE STRUCTURE of a block that obeys
rows_structure : (k : ℕ) (b : Bytes) (l : ListOf) → rows_of l (structure_in k b) ≡ rows_in_order l b
unfolding rows_of
rows_structure k b Bonds = refl
rows_structure k b Charges = refl
rows_structure k b Radicals = refl
rows_structure k b Centres = refl
rows_structure k b Pairs = refl

module _ (k : ℕ) (one : 1 ≤ k) (b : Bytes) (y : Obeys k b) where
  abbrev count : ℕ
  count = length (atom_rows b)

  rows_good : (l : ListOf) → all (row_ok l count) (list_rows l b) ≡ true
  rows_good l =
      let a : all (alone l) (list_rows l b) ≡ true = ap (all (alone l)) (rows_are l b) ∙ all_flat (row_of l) (alone l) (told_of b) ∙ each_told k (λ t. all (alone l) (row_of l t)) b y.lines_fine (told_alone l k) in
      all_imply (λ r. alone l r && all (within 1 count) r.atoms) (row_ok l count) (alone_listed l count) (list_rows l b)
      (all_and (alone l) (λ r. all (within 1 count) r.atoms) (list_rows l b) ∙ and_both _ _ a (y.rows_listed l))

  abbrev kept_rows : ListOf → List Row
  kept_rows l = kept (meets l) [] (list_rows l b)

  list_good : (n : ℕ) → n ≡ count → (l : ListOf) → rows_ok n (structure_in k b) l ≡ true
  unfolding rows_ok
  list_good n e l =
      let apart : pairs (meets l) (kept_rows l) ≡ false = kept_apart (meets l) (list_rows l b) in
      rw (rows_structure k b l, e)
      (and_both _ _ (le-leb _ (most l) (omega (arith, sort_length row_before (kept_rows l), y.rows_held l)))
      (and_both _ _ (sort_all row_before (row_ok l count) (kept_rows l) ∙ kept_all (meets l) (row_ok l count) [] (list_rows l b) (all_nil _) (rows_good l))
      (and_both _ _ (sort_ascends row_before row_strict (kept_rows l) (rows_apart l (kept_rows l) apart))
      (not_of_false _ (sort_pairs row_before (meets l) (meets_symm l) (kept_rows l) ∙ apart)))))

  lists_good : (p : ListOf → Bool) → ((l : ListOf) → p l ≡ true) → all p lists ≡ true
  unfolding lists
  lists_good p f = all_both p Bonds _ (f Bonds) (all_both p Charges _ (f Charges) (all_both p Radicals _ (f Radicals) (all_both p Centres _ (f Centres) (all_both p Pairs [] (f Pairs) (all_nil p)))))

  none_there : (l : ListOf) → is_nil (rows_in_order l b) ≡ is_nil (list_rows l b)
  none_there l = same_none (rows_in_order l b) (kept_rows l) (sort_length row_before (kept_rows l)) ∙ kept_none l (list_rows l b)

  once_handed : handed_twice (structure_in k b) ≡ false
  unfolding handed_twice
  once_handed = rw (none_there Centres, none_there Pairs) (beside_none (named (labels (cut b)) 17) _ _ _ y.yes_once y.yes_alone)

  pub structure_fine : well_formed k (structure_in k b) ≡ true
  unfolding well_formed
  structure_fine =
      let n : length (structure_in k b).atoms ≡ count = length-map (atom_rows b) (atom_of k) in
      and_both _ _ (ap (within 1 256) n ∙ within_is 1 256 count (omega (arith, y.atoms_there)) y.atoms_held_lem)
      (and_both _ _ (all_map (atom_ok k) (atom_of k) (atom_rows b) ∙ ap (all (atom_good k one)) (atoms_are b) ∙ all_flat atom_on (atom_good k one) (told_of b) ∙ each_told k (λ t. all (atom_good k one) (atom_on t)) b y.lines_fine (told_good k one))
      (and_both _ _ (lists_good (rows_ok (length (structure_in k b).atoms) (structure_in k b)) (list_good (length (structure_in k b).atoms) n))
      (and_both _ _ (first_good (ids_in b) (ap (all id_good) (ids_are b) ∙ all_flat id_on id_good (told_of b) ∙ ids_good (told_of b))) (not_of_false _ once_handed))))
