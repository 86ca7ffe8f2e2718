-- What each line contributes, by the record it stands in: an atom row, a row of a list, the formula's entries, the block id, a part of the geometry, the YES. All
-- lines' contributions are the block's rows, entries and ids as `Obeys` and `structure_in` say them of the records. Serves "accepted exactly when". Assumes nothing.
use Prim.Native.Nat.{ℕ, ◌+◌, ◌≤◌, ◌<◌}
use mathlib.Core.Path.{◌≡◌, refl, sym, ap, ◌∙◌}
use mathlib.Core.Bool.{Bool, true, false, ◌||◌}
use mathlib.Core.List.{List, [], ◌∷◌, ◌++◌, map, map-append}
use native.Mathlib.Omega.{arith}
use lib.Dec.{eqb}
use borrow.Author.Tests.{eqb-true, eq-eqb, ne_eqb}
use Rattle.lists.specs.Lists.{flat}
use Rattle.lists.proofs.Bools.{torn, both_ways}
use Rattle.lists.proofs.PartLaws.{flat_nil, flat_cons, flat_one, flat_append, flat_same}
use Rattle.format.specs.Bytes.{Bytes, fields, strip}
use Rattle.format.specs.Labels.{ListOf, Bonds, Charges, Radicals, Centres, Pairs, XyzOf, MaxXyz, XyzFactor, XyzRows, Holds, Text, Version, Formula, BlockId, Atoms, Rows, Xyz, Handedness, End, Skipped}
use Rattle.format.specs.Rows.{Row, AtomRow, number, field, atom_shape, row_shape}
use Rattle.format.specs.Formula.{formula_shape}
use Rattle.format.specs.Coordinates.{XyzRow, xyz_shape, Factor, factor, factor_shape}
use Rattle.format.specs.Structure.{Entry}
use Rattle.format.specs.Reading.{ordered, only_field}
use Rattle.demands.specs.Accepted.{Told, Value, Further, place, part, kind, only_if, value_in, line_in, listed, row_on, rows_by, entries_as, Yes, yes_shape, told_of, atom_rows, list_rows, molforms, first_or, xyz_rows, greatest_in, factor_in, yes_rows}
use Rattle.demands.specs.ReadAs.{ids_in}
use Rattle.demands.proofs.AcceptedHolds.{by_holds, by_geometry, by_yes, by_xyz}

-- WHAT A LINE CONTRIBUTES
abbrev pub atom_in : Holds → Bytes → List AtomRow
atom_in h l = by_holds [] [] [] (row_on atom_shape (fields (strip l))) (λ m. []) h

abbrev pub atom_on : Told → List AtomRow
atom_on (Value h v) = atom_in h v
atom_on (Further h l) = atom_in h l

abbrev pub same_list : ListOf → ListOf → Bool
same_list l m = eqb (place l) (place m)

abbrev pub row_in : ListOf → Holds → Bytes → List Row
row_in l h b = by_holds [] [] [] [] (λ m. elim (same_list l m) [ true ↦ map ordered (row_on (row_shape m) (fields (strip b))) | false ↦ [] ]) h

abbrev pub row_of : ListOf → Told → List Row
row_of l (Value h v) = row_in l h v
row_of l (Further h b) = row_in l h b

abbrev pub entries_in : (k : ℕ) → Holds → Bytes → List Entry
entries_in k h v = by_holds [] (entries_as k (formula_shape (strip v))) [] [] (λ m. []) h

abbrev pub entries_on : (k : ℕ) → Told → List Entry
entries_on k (Value h v) = entries_in k h v
entries_on k (Further h l) = []

abbrev pub id_in : Holds → Bytes → List ℕ
id_in h v = by_holds [] [] (listed (number (field 0 (fields (strip v))))) [] (λ m. []) h

abbrev pub id_on : Told → List ℕ
id_on (Value h v) = id_in h v
id_on (Further h l) = []

abbrev pub greatest_by : Holds → Bytes → List ℕ
greatest_by h v = by_geometry [] (by_xyz (listed (number (only_field (fields (strip v))))) [] []) h

abbrev pub greatest_on : Told → List ℕ
greatest_on (Value h v) = greatest_by h v
greatest_on (Further h l) = []

abbrev pub factor_by : Holds → Bytes → List Factor
factor_by h v = by_geometry [] (by_xyz [] (listed (factor_shape (only_field (fields (strip v))))) []) h

abbrev pub factor_on : Told → List Factor
factor_on (Value h v) = factor_by h v
factor_on (Further h l) = []

abbrev pub xyz_in : Holds → Bytes → List XyzRow
xyz_in h l = by_geometry [] (by_xyz [] [] (row_on xyz_shape (fields (strip l)))) h

abbrev pub xyz_on : Told → List XyzRow
xyz_on (Value h v) = xyz_in h v
xyz_on (Further h l) = xyz_in h l

abbrev pub yes_in : Holds → Bytes → List Yes
yes_in h l = by_yes [] (row_on yes_shape (fields (strip l))) h

abbrev pub yes_on : Told → List Yes
yes_on (Value h v) = yes_in h v
yes_on (Further h l) = yes_in h l

-- which records give a formula, an id, atoms, MAX_XYZ, the factor; which stand behind the atoms
abbrev pub formula_held : Holds → Bool
formula_held h = by_holds false true false false (λ l. false) h

abbrev pub id_held : Holds → Bool
id_held h = by_holds false false true false (λ l. false) h

abbrev pub atoms_held : Holds → Bool
atoms_held h = by_holds false false false true (λ l. false) h

abbrev pub greatest_held : Holds → Bool
greatest_held h = by_geometry false (by_xyz true false false) h

abbrev pub factor_held : Holds → Bool
factor_held h = by_geometry false (by_xyz false true false) h

abbrev pub yes_held : Holds → Bool
yes_held h = by_yes false true h

abbrev pub behind_atoms : Holds → Bool
behind_atoms h = by_holds false false false false (λ l. true) h || by_geometry false (λ x. true) h

-- LISTS OF LISTS
module _ {A B C : Type 0} where
  flat_flat : (f : B → List C) (g : A → List B) (xs : List A) → flat f (flat g xs) ≡ flat (λ x. flat f (g x)) xs
  flat_flat f g [] = ap (flat f) (flat_nil g) ∙ flat_nil f ∙ sym (flat_nil (λ x. flat f (g x)))
  flat_flat f g (x ∷ xs) =
      ap (flat f) (flat_cons g x xs) ∙ flat_append f (g x) (flat g xs) ∙ ap (λ (r : List C). flat f (g x) ++ r) (flat_flat f g xs) ∙ sym (flat_cons (λ y. flat f (g y)) x xs)

  map_flat : (f : B → C) (g : A → List B) (xs : List A) → map f (flat g xs) ≡ flat (λ x. map f (g x)) xs
  map_flat f g [] = ap (map f) (flat_nil g) ∙ sym (flat_nil (λ x. map f (g x)))
  map_flat f g (x ∷ xs) = ap (map f) (flat_cons g x xs) ∙ map-append f (g x) (flat g xs) ∙ ap (λ (r : List C). map f (g x) ++ r) (map_flat f g xs) ∙ sym (flat_cons (λ y. map f (g y)) x xs)

-- LISTS by their place, and their kinds are no other kinds
pub same_list_lem : (l m : ListOf) → same_list l m ≡ true → l ≡ m
same_list_lem Bonds Bonds h = refl
same_list_lem Bonds Charges h = torn false h refl
same_list_lem Bonds Radicals h = torn false h refl
same_list_lem Bonds Centres h = torn false h refl
same_list_lem Bonds Pairs h = torn false h refl
same_list_lem Charges Bonds h = torn false h refl
same_list_lem Charges Charges h = refl
same_list_lem Charges Radicals h = torn false h refl
same_list_lem Charges Centres h = torn false h refl
same_list_lem Charges Pairs h = torn false h refl
same_list_lem Radicals Bonds h = torn false h refl
same_list_lem Radicals Charges h = torn false h refl
same_list_lem Radicals Radicals h = refl
same_list_lem Radicals Centres h = torn false h refl
same_list_lem Radicals Pairs h = torn false h refl
same_list_lem Centres Bonds h = torn false h refl
same_list_lem Centres Charges h = torn false h refl
same_list_lem Centres Radicals h = torn false h refl
same_list_lem Centres Centres h = refl
same_list_lem Centres Pairs h = torn false h refl
same_list_lem Pairs Bonds h = torn false h refl
same_list_lem Pairs Charges h = torn false h refl
same_list_lem Pairs Radicals h = torn false h refl
same_list_lem Pairs Centres h = torn false h refl
same_list_lem Pairs Pairs h = refl

pub list_same : (l : ListOf) → same_list l l ≡ true
list_same Bonds = refl
list_same Charges = refl
list_same Radicals = refl
list_same Centres = refl
list_same Pairs = refl

part_kind : (x : XyzOf) (n : ℕ) → n < 12 → eqb n (12 + part x) ≡ false
part_kind x n h = ne_eqb n (12 + part x) (λ e. omega (arith, h, e))

list_kind : (l : ListOf) (n : ℕ) → n < 7 → eqb n (7 + place l) ≡ false
list_kind l n h = ne_eqb n (7 + place l) (λ e. omega (arith, h, e))

kind_list : (l : ListOf) (n : ℕ) → n < 7 → eqb (7 + place l) n ≡ false
kind_list l n h = ne_eqb (7 + place l) n (λ e. omega (arith, h, e))

kinds_lists : (l m : ListOf) → eqb (7 + place l) (7 + place m) ≡ same_list l m
kinds_lists l m =
    both_ways (eqb (7 + place l) (7 + place m)) (same_list l m) (λ e. eq-eqb (place l) (place m) (omega (arith, eqb-true (7 + place l) (7 + place m) e)))
    (λ e. eq-eqb (7 + place l) (7 + place m) (ap (λ (n : ℕ). 7 + n) (eqb-true (place l) (place m) e)))

few_lists : (l : ListOf) → 7 + place l < 12
few_lists Bonds = omega arith
few_lists Charges = omega arith
few_lists Radicals = omega arith
few_lists Centres = omega arith
few_lists Pairs = omega arith

-- what is only there if a test is true
module _ {A : Type 0} (f : Bytes → List A) (l : Bytes) where
  only_true : flat f (only_if true l) ≡ f l
  only_true = flat_one f l

  only_false : (b : Bool) → b ≡ false → flat f (only_if b l) ≡ []
  only_false b e = ap (λ (t : Bool). flat f (only_if t l)) e ∙ flat_nil f

-- THE ATOMS
atom_line_lem : (h : Holds) (l : Bytes) → rows_by atom_shape (only_if (eqb 4 (kind h)) l) ≡ atom_in h l
atom_line_lem (Text i) l = only_false _ l false refl
atom_line_lem Version l = only_false _ l false refl
atom_line_lem Formula l = only_false _ l false refl
atom_line_lem BlockId l = only_false _ l false refl
atom_line_lem Atoms l = only_true _ l
atom_line_lem (Rows m) l = only_false _ l (eqb 4 (7 + place m)) (list_kind m 4 (omega arith))
atom_line_lem (Xyz x) l = only_false _ l (eqb 4 (12 + part x)) (part_kind x 4 (omega arith))
atom_line_lem Handedness l = only_false _ l false refl
atom_line_lem End l = only_false _ l false refl
atom_line_lem Skipped l = only_false _ l false refl

atoms_told : (t : Told) → rows_by atom_shape (line_in Atoms t) ≡ atom_on t
atoms_told (Value h v) = atom_line_lem h v
atoms_told (Further h l) = atom_line_lem h l

pub atoms_are : (b : Bytes) → atom_rows b ≡ flat atom_on (told_of b)
atoms_are b = flat_flat _ (line_in Atoms) (told_of b) ∙ flat_same _ atom_on atoms_told (told_of b)

-- THE ROWS OF A LIST
module _ (l : ListOf) where
  row_line_lem : (h : Holds) (b : Bytes) → map ordered (rows_by (row_shape l) (only_if (eqb (7 + place l) (kind h)) b)) ≡ row_in l h b
  row_line_lem (Text i) b = ap (map ordered) (only_false _ b (eqb (7 + place l) 0) (kind_list l 0 (omega arith)))
  row_line_lem Version b = ap (map ordered) (only_false _ b (eqb (7 + place l) 1) (kind_list l 1 (omega arith)))
  row_line_lem Formula b = ap (map ordered) (only_false _ b (eqb (7 + place l) 2) (kind_list l 2 (omega arith)))
  row_line_lem BlockId b = ap (map ordered) (only_false _ b (eqb (7 + place l) 3) (kind_list l 3 (omega arith)))
  row_line_lem Atoms b = ap (map ordered) (only_false _ b (eqb (7 + place l) 4) (kind_list l 4 (omega arith)))
  row_line_lem (Rows m) b = ap (λ (t : Bool). map ordered (rows_by (row_shape l) (only_if t b))) (kinds_lists l m) ∙ by (same_list l m) refl
    where
      by : (s : Bool) → same_list l m ≡ s → map ordered (rows_by (row_shape l) (only_if s b)) ≡ elim s as (λ (t : Bool). List Row) [ true ↦ map ordered (row_on (row_shape m) (fields (strip b))) | false ↦ [] ]
      by true e = ap (map ordered) (only_true _ b) ∙ ap (λ (n : ListOf). map ordered (row_on (row_shape n) (fields (strip b)))) (same_list_lem l m e)
      by false e = ap (map ordered) (only_false _ b false refl)
  row_line_lem (Xyz x) b = ap (map ordered) (only_false _ b (eqb (7 + place l) (12 + part x)) (part_kind x (7 + place l) (few_lists l)))
  row_line_lem Handedness b = ap (map ordered) (only_false _ b (eqb (7 + place l) 15) (ne_eqb (7 + place l) 15 (λ e. omega (arith, few_lists l, e))))
  row_line_lem End b = ap (map ordered) (only_false _ b (eqb (7 + place l) 5) (kind_list l 5 (omega arith)))
  row_line_lem Skipped b = ap (map ordered) (only_false _ b (eqb (7 + place l) 6) (kind_list l 6 (omega arith)))

  rows_told : (t : Told) → map ordered (rows_by (row_shape l) (line_in (Rows l) t)) ≡ row_of l t
  rows_told (Value h v) = row_line_lem h v
  rows_told (Further h b) = row_line_lem h b

  pub rows_are : (b : Bytes) → list_rows l b ≡ flat (row_of l) (told_of b)
  rows_are b =
      ap (map ordered) (flat_flat _ (line_in (Rows l)) (told_of b)) ∙ map_flat ordered (λ t. rows_by (row_shape l) (line_in (Rows l) t)) (told_of b) ∙ flat_same _ (row_of l) rows_told (told_of b)

-- THE FORMULA'S ENTRIES, of records of its kind
pub formula_kind : (h : Holds) → eqb 2 (kind h) ≡ formula_held h
formula_kind (Text i) = refl
formula_kind Version = refl
formula_kind Formula = refl
formula_kind BlockId = refl
formula_kind Atoms = refl
formula_kind (Rows m) = list_kind m 2 (omega arith)
formula_kind (Xyz x) = part_kind x 2 (omega arith)
formula_kind Handedness = refl
formula_kind End = refl
formula_kind Skipped = refl

entries_line : (k : ℕ) (h : Holds) (v : Bytes) → flat (λ w. entries_as k (formula_shape (strip w))) (only_if (eqb 2 (kind h)) v) ≡ entries_in k h v
entries_line k (Text i) v = only_false _ v false refl
entries_line k Version v = only_false _ v false refl
entries_line k Formula v = only_true _ v
entries_line k BlockId v = only_false _ v false refl
entries_line k Atoms v = only_false _ v false refl
entries_line k (Rows m) v = only_false _ v (eqb 2 (7 + place m)) (list_kind m 2 (omega arith))
entries_line k (Xyz x) v = only_false _ v (eqb 2 (12 + part x)) (part_kind x 2 (omega arith))
entries_line k Handedness v = only_false _ v false refl
entries_line k End v = only_false _ v false refl
entries_line k Skipped v = only_false _ v false refl

entries_told : (k : ℕ) (t : Told) → flat (λ w. entries_as k (formula_shape (strip w))) (value_in Formula t) ≡ entries_on k t
entries_told k (Value h v) = entries_line k h v
entries_told k (Further h l) = flat_nil _

-- what the machine reads of the values
abbrev pub formula_in : (k : ℕ) → Bytes → List Entry
formula_in k b = flat (λ v. entries_as k (formula_shape (strip v))) (molforms b)

pub formula_are : (k : ℕ) (b : Bytes) → formula_in k b ≡ flat (entries_on k) (told_of b)
formula_are k b = flat_flat _ (value_in Formula) (told_of b) ∙ flat_same _ (entries_on k) (entries_told k) (told_of b)

-- THE BLOCK ID
id_line : (h : Holds) (v : Bytes) → flat (λ w. listed (number (field 0 (fields (strip w))))) (only_if (eqb 3 (kind h)) v) ≡ id_in h v
id_line (Text i) v = only_false _ v false refl
id_line Version v = only_false _ v false refl
id_line Formula v = only_false _ v false refl
id_line BlockId v = only_true _ v
id_line Atoms v = only_false _ v false refl
id_line (Rows m) v = only_false _ v (eqb 3 (7 + place m)) (list_kind m 3 (omega arith))
id_line (Xyz x) v = only_false _ v (eqb 3 (12 + part x)) (part_kind x 3 (omega arith))
id_line Handedness v = only_false _ v false refl
id_line End v = only_false _ v false refl
id_line Skipped v = only_false _ v false refl

id_told : (t : Told) → flat (λ w. listed (number (field 0 (fields (strip w))))) (value_in BlockId t) ≡ id_on t
id_told (Value h v) = id_line h v
id_told (Further h l) = flat_nil _

pub ids_are : (b : Bytes) → ids_in b ≡ flat id_on (told_of b)
ids_are b = flat_flat _ (value_in BlockId) (told_of b) ∙ flat_same _ id_on id_told (told_of b)

-- THE GEOMETRY: MAX_XYZ, the factor, the rows of XYZ. A record of another kind gives none, and of this kind the three are told apart by their part
module _ {A : Type 0} (n : ℕ) (placing : 12 ≤ n) (below : n < 15) (f : Bytes → List A) where
  list_other : (m : ListOf) → eqb n (7 + place m) ≡ false
  list_other m = ne_eqb n (7 + place m) (λ e. omega (arith, placing, few_lists m, e))

  other_kind : (i : ℕ) → i < 12 → eqb n i ≡ false
  other_kind i h = ne_eqb n i (λ e. omega (arith, placing, h, e))

  geometry_line : (g : XyzOf → Bytes → List A) → ((x : XyzOf) (v : Bytes) → flat f (only_if (eqb n (12 + part x)) v) ≡ g x v)
      → (h : Holds) (v : Bytes) → flat f (only_if (eqb n (kind h)) v) ≡ by_geometry [] (λ x. g x v) h
  geometry_line g own (Text i) v = only_false f v (eqb n 0) (other_kind 0 (omega arith))
  geometry_line g own Version v = only_false f v (eqb n 1) (other_kind 1 (omega arith))
  geometry_line g own Formula v = only_false f v (eqb n 2) (other_kind 2 (omega arith))
  geometry_line g own BlockId v = only_false f v (eqb n 3) (other_kind 3 (omega arith))
  geometry_line g own Atoms v = only_false f v (eqb n 4) (other_kind 4 (omega arith))
  geometry_line g own (Rows m) v = only_false f v (eqb n (7 + place m)) (list_other m)
  geometry_line g own (Xyz x) v = own x v
  geometry_line g own Handedness v = only_false f v (eqb n 15) (ne_eqb n 15 (λ e. omega (arith, below, e)))
  geometry_line g own End v = only_false f v (eqb n 5) (other_kind 5 (omega arith))
  geometry_line g own Skipped v = only_false f v (eqb n 6) (other_kind 6 (omega arith))

greatest_line : (h : Holds) (v : Bytes) → flat (λ w. listed (number (only_field (fields (strip w))))) (only_if (eqb 12 (kind h)) v) ≡ greatest_by h v
greatest_line = geometry_line 12 (omega arith) (omega arith) _ (λ x v. by_xyz (listed (number (only_field (fields (strip v))))) [] [] x) own
  where
    own : (x : XyzOf) (v : Bytes) → flat (λ w. listed (number (only_field (fields (strip w))))) (only_if (eqb 12 (12 + part x)) v) ≡ by_xyz (listed (number (only_field (fields (strip v))))) [] [] x
    own MaxXyz v = only_true _ v
    own XyzFactor v = only_false _ v false refl
    own XyzRows v = only_false _ v false refl

factor_line : (h : Holds) (v : Bytes) → flat (λ w. listed (factor_shape (only_field (fields (strip w))))) (only_if (eqb 13 (kind h)) v) ≡ factor_by h v
factor_line = geometry_line 13 (omega arith) (omega arith) _ (λ x v. by_xyz [] (listed (factor_shape (only_field (fields (strip v))))) [] x) own
  where
    own : (x : XyzOf) (v : Bytes) → flat (λ w. listed (factor_shape (only_field (fields (strip w))))) (only_if (eqb 13 (12 + part x)) v) ≡ by_xyz [] (listed (factor_shape (only_field (fields (strip v))))) [] x
    own MaxXyz v = only_false _ v false refl
    own XyzFactor v = only_true _ v
    own XyzRows v = only_false _ v false refl

xyz_line_lem : (h : Holds) (v : Bytes) → rows_by xyz_shape (only_if (eqb 14 (kind h)) v) ≡ xyz_in h v
xyz_line_lem = geometry_line 14 (omega arith) (omega arith) _ (λ x v. by_xyz [] [] (row_on xyz_shape (fields (strip v))) x) own
  where
    own : (x : XyzOf) (v : Bytes) → rows_by xyz_shape (only_if (eqb 14 (12 + part x)) v) ≡ by_xyz [] [] (row_on xyz_shape (fields (strip v))) x
    own MaxXyz v = only_false _ v false refl
    own XyzFactor v = only_false _ v false refl
    own XyzRows v = only_true _ v

greatest_told : (t : Told) → flat (λ w. listed (number (only_field (fields (strip w))))) (value_in (Xyz MaxXyz) t) ≡ greatest_on t
greatest_told (Value h v) = greatest_line h v
greatest_told (Further h l) = flat_nil _

factor_told : (t : Told) → flat (λ w. listed (factor_shape (only_field (fields (strip w))))) (value_in (Xyz XyzFactor) t) ≡ factor_on t
factor_told (Value h v) = factor_line h v
factor_told (Further h l) = flat_nil _

xyz_told : (t : Told) → rows_by xyz_shape (line_in (Xyz XyzRows) t) ≡ xyz_on t
xyz_told (Value h v) = xyz_line_lem h v
xyz_told (Further h l) = xyz_line_lem h l

pub greatest_are : (b : Bytes) → greatest_in b ≡ first_or 0 (flat greatest_on (told_of b))
greatest_are b = ap (first_or 0) (flat_flat _ (value_in (Xyz MaxXyz)) (told_of b) ∙ flat_same _ greatest_on greatest_told (told_of b))

pub factor_are : (b : Bytes) → factor_in b ≡ first_or (factor 0 0) (flat factor_on (told_of b))
factor_are b = ap (first_or (factor 0 0)) (flat_flat _ (value_in (Xyz XyzFactor)) (told_of b) ∙ flat_same _ factor_on factor_told (told_of b))

pub xyz_are : (b : Bytes) → xyz_rows b ≡ flat xyz_on (told_of b)
xyz_are b = flat_flat _ (line_in (Xyz XyzRows)) (told_of b) ∙ flat_same _ xyz_on xyz_told (told_of b)

-- THE YES
yes_line_lem : (h : Holds) (l : Bytes) → rows_by yes_shape (only_if (eqb 15 (kind h)) l) ≡ yes_in h l
yes_line_lem (Text i) l = only_false _ l false refl
yes_line_lem Version l = only_false _ l false refl
yes_line_lem Formula l = only_false _ l false refl
yes_line_lem BlockId l = only_false _ l false refl
yes_line_lem Atoms l = only_false _ l false refl
yes_line_lem (Rows m) l = only_false _ l (eqb 15 (7 + place m)) (ne_eqb 15 (7 + place m) (λ e. omega (arith, few_lists m, e)))
yes_line_lem (Xyz MaxXyz) l = only_false _ l false refl
yes_line_lem (Xyz XyzFactor) l = only_false _ l false refl
yes_line_lem (Xyz XyzRows) l = only_false _ l false refl
yes_line_lem Handedness l = only_true _ l
yes_line_lem End l = only_false _ l false refl
yes_line_lem Skipped l = only_false _ l false refl

yes_told : (t : Told) → rows_by yes_shape (line_in Handedness t) ≡ yes_on t
yes_told (Value h v) = yes_line_lem h v
yes_told (Further h l) = yes_line_lem h l

pub yes_are : (b : Bytes) → yes_rows b ≡ flat yes_on (told_of b)
yes_are b = flat_flat _ (line_in Handedness) (told_of b) ∙ flat_same _ yes_on yes_told (told_of b)
