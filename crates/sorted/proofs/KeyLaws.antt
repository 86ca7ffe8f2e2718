-- Rows of BONDLIST, STEREOCENTER and STEREOPAIR by their keys: of rows of one list the order is the order of the keys, rows meet where their keys are equal, and
-- a bond repeats another where the payloads are equal. Document 01, "Rows": "lower atom, higher atom", "The same pair and kind again is dropped". Assumes nothing.
use Prim.Native.Nat.{ℕ, ◌+◌, ◌*◌, ◌≤◌, ◌<◌}
use mathlib.Core.Path.{◌≡◌, refl, sym, ap, ◌∙◌}
use mathlib.Core.Bool.{Bool, true, false, ◌&&◌, ◌||◌, and-true, or-false}
use mathlib.Core.List.{List, [], ◌∷◌}
use native.Mathlib.Omega.{arith}
use lib.ListN.{length}
use lib.IntN.{nat_abs}
use lib.Dec.{eqb, ltb, leb}
use borrow.Author.Tests.{leb-true, eqb-true, eq-eqb, ne_eqb, lt-ltb, le-ltb}
use Rattle.lists.specs.Lists.{all, same_by}
use Rattle.lists.specs.Order.{lex_before}
use Rattle.lists.proofs.Bools.{torn, both_ways, and_parts, or_other}
use Rattle.lists.proofs.ListLaws.{all_parts}
use Rattle.lists.proofs.LexLaws.{Sides, less, equal, greater, sides}
use Rattle.format.specs.Bytes.{within, same}
use Rattle.format.specs.Labels.{ListOf, Bonds, Charges, Radicals, Centres, Pairs}
use Rattle.format.specs.Rows.{Row}
use Rattle.format.specs.Structure.{arity, group_ok, meets, repeats, atoms_before, row_before, row_ok}
use Rattle.sorted.specs.Regions.{key_from, key_of, payload_of}
use Rattle.sorted.specs.Keyed.{keyed, drops}
use Rattle.sorted.proofs.FitLaws.{row_fits_lem}

-- NUMBERS WITH ONE OR TWO DIGITS to the base 1024
module _ (b d : ℕ) (p : b < 1024) (q : d < 1024) where
  pub key_lex : (a c : ℕ) → ltb (1024 * a + b) (1024 * c + d) ≡ (ltb a c || (eqb a c && ltb b d))
  key_lex a c = go (sides a c) (sides b d)
    where
      go : Sides a c → Sides b d → ltb (1024 * a + b) (1024 * c + d) ≡ (ltb a c || (eqb a c && ltb b d))
      go (less h) s = rw (lt-ltb a c h) (lt-ltb (1024 * a + b) (1024 * c + d) (omega arith))
      go (greater h) s = rw (le-ltb a c (omega arith), ne_eqb a c (omega arith)) (le-ltb (1024 * a + b) (1024 * c + d) (omega arith))
      go (equal h) (less k) = rw (le-ltb a c (omega arith), eq-eqb a c h, lt-ltb b d k) (lt-ltb (1024 * a + b) (1024 * c + d) (omega arith))
      go (equal h) (equal k) = rw (le-ltb a c (omega arith), eq-eqb a c h, le-ltb b d (omega arith)) (le-ltb (1024 * a + b) (1024 * c + d) (omega arith))
      go (equal h) (greater k) = rw (le-ltb a c (omega arith), eq-eqb a c h, le-ltb b d (omega arith)) (le-ltb (1024 * a + b) (1024 * c + d) (omega arith))

  pub key_same : (a c : ℕ) → eqb (1024 * a + b) (1024 * c + d) ≡ (eqb a c && eqb b d)
  key_same a c = go (sides a c) (sides b d)
    where
      go : Sides a c → Sides b d → eqb (1024 * a + b) (1024 * c + d) ≡ (eqb a c && eqb b d)
      go (less h) s = rw (ne_eqb a c (omega arith)) (ne_eqb (1024 * a + b) (1024 * c + d) (omega arith))
      go (greater h) s = rw (ne_eqb a c (omega arith)) (ne_eqb (1024 * a + b) (1024 * c + d) (omega arith))
      go (equal h) (less k) = rw (eq-eqb a c h, ne_eqb b d (omega arith)) (ne_eqb (1024 * a + b) (1024 * c + d) (omega arith))
      go (equal h) (equal k) = rw (eq-eqb a c h, eq-eqb b d k) (eq-eqb (1024 * a + b) (1024 * c + d) (omega arith))
      go (equal h) (greater k) = rw (eq-eqb a c h, ne_eqb b d (omega arith)) (ne_eqb (1024 * a + b) (1024 * c + d) (omega arith))

-- ONE ATOM OR TWO, each listed
small : (n x : ℕ) → n < 1024 → within 1 n x ≡ true → x < 1024
unfolding within
small n x h e = let k : x ≤ n = leb-true x n (and_parts (leb 1 x) (leb x n) e).1 in omega arith

-- what holds of one atom and one, and of two and two, holds of the atoms of any two rows of a list
by_count : (P : List ℕ → List ℕ → Type 0) → ((x y : ℕ) → P (x ∷ []) (y ∷ [])) → ((x x' y y' : ℕ) → x' < 1024 → y' < 1024 → P (x ∷ x' ∷ []) (y ∷ y' ∷ [])) → (n : ℕ) → n < 1024
    → (ns ms : List ℕ) → length ns ≡ length ms → 0 < length ns → length ns ≤ 2 → all (within 1 n) ns ≡ true → all (within 1 n) ms ≡ true → P ns ms
by_count P f g n h [] ms e p q a b = absurd (omega arith)
by_count P f g n h (x ∷ ns) [] e p q a b = absurd (omega arith)
by_count P f g n h (x ∷ []) (y ∷ []) e p q a b = f x y
by_count P f g n h (x ∷ []) (y ∷ y' ∷ ms) e p q a b = absurd (omega arith)
by_count P f g n h (x ∷ x' ∷ ns) (y ∷ []) e p q a b = absurd (omega arith)
by_count P f g n h (x ∷ x' ∷ []) (y ∷ y' ∷ []) e p q a b =
    g x x' y y' (small n x' h (all_parts (within 1 n) x' [] (all_parts (within 1 n) x (x' ∷ []) a).1).0) (small n y' h (all_parts (within 1 n) y' [] (all_parts (within 1 n) y (y' ∷ []) b).1).0)
by_count P f g n h (x ∷ x' ∷ []) (y ∷ y' ∷ m ∷ ms) e p q a b = absurd (omega arith)
by_count P f g n h (x ∷ x' ∷ k ∷ ns) (y ∷ y' ∷ ms) e p q a b = absurd (omega arith)

or_and_false : (a b : Bool) → (a || (b && false)) ≡ a
or_and_false true b = refl
or_and_false false true = refl
or_and_false false false = refl

one_before : (x y : ℕ) → atoms_before (x ∷ []) (y ∷ []) ≡ ltb (key_from (x ∷ [])) (key_from (y ∷ []))
unfolding lex_before
one_before x y = sym (key_lex 0 0 (omega arith) (omega arith) x y)

two_before : (x x' y y' : ℕ) → x' < 1024 → y' < 1024 → atoms_before (x ∷ x' ∷ []) (y ∷ y' ∷ []) ≡ ltb (key_from (x ∷ x' ∷ [])) (key_from (y ∷ y' ∷ []))
unfolding lex_before
two_before x x' y y' p q = ap (λ (t : Bool). ltb x y || (eqb x y && t)) (or_and_false (ltb x' y') (eqb x' y')) ∙ sym (key_lex x' y' p q x y)

one_same : (x y : ℕ) → same (x ∷ []) (y ∷ []) ≡ eqb (key_from (x ∷ [])) (key_from (y ∷ []))
unfolding same_by
one_same x y = sym (key_same 0 0 (omega arith) (omega arith) x y)

two_same : (x x' y y' : ℕ) → x' < 1024 → y' < 1024 → same (x ∷ x' ∷ []) (y ∷ y' ∷ []) ≡ eqb (key_from (x ∷ x' ∷ [])) (key_from (y ∷ y' ∷ []))
unfolding same_by
two_same x x' y y' p q = ap (λ (t : Bool). eqb x y && t) (and-true (eqb x' y')) ∙ sym (key_same x' y' p q x y)

-- LISTS THAT STAND BY KEY
keyed_arity : (l : ListOf) → keyed l ≡ true → (0 < arity l) × (arity l ≤ 2)
unfolding arity
keyed_arity Bonds h = (omega arith, omega arith)
keyed_arity Charges h = torn false h refl
keyed_arity Radicals h = torn false h refl
keyed_arity Centres h = (omega arith, omega arith)
keyed_arity Pairs h = (omega arith, omega arith)

keyed_meets : (l : ListOf) (r s : Row) → keyed l ≡ true → meets l r s ≡ same r.atoms s.atoms
unfolding meets
keyed_meets Bonds r s h = refl
keyed_meets Charges r s h = torn false h refl
keyed_meets Radicals r s h = torn false h refl
keyed_meets Centres r s h = refl
keyed_meets Pairs r s h = refl

module _ (l : ListOf) (k : keyed l ≡ true) (n : ℕ) (h : n < 1024) where
  row_arity : (r : Row) → row_ok l n r ≡ true → length r.atoms ≡ arity l
  row_arity r o =
      let f = row_fits_lem l n r o in
      let a = keyed_arity l k in
      eqb-true (length r.atoms) (arity l) (or_other (eqb (arity l) 0) (eqb (length r.atoms) (arity l)) f.many (ne_eqb (arity l) 0 (omega (arith, a.0))))

  module _ (r s : Row) (o : row_ok l n r ≡ true) (u : row_ok l n s ≡ true) where
    by_atoms : (P : List ℕ → List ℕ → Type 0) → ((x y : ℕ) → P (x ∷ []) (y ∷ [])) → ((x x' y y' : ℕ) → x' < 1024 → y' < 1024 → P (x ∷ x' ∷ []) (y ∷ y' ∷ [])) → P r.atoms s.atoms
    by_atoms P f g =
        let a = keyed_arity l k in
        by_count P f g n h r.atoms s.atoms (row_arity r o ∙ sym (row_arity s u)) (omega (arith, row_arity r o, a.0)) (omega (arith, row_arity r o, a.1))
        (row_fits_lem l n r o).listed (row_fits_lem l n s u).listed

    -- the order is the order of the keys; rows meet where their keys are equal
    pub before_key : row_before r s ≡ ltb (key_of r) (key_of s)
    before_key = by_atoms (λ (ns ms : List ℕ). atoms_before ns ms ≡ ltb (key_from ns) (key_from ms)) one_before two_before

    pub meets_key : meets l r s ≡ eqb (key_of r) (key_of s)
    meets_key = keyed_meets l r s k ∙ by_atoms (λ (ns ms : List ℕ). same ns ms ≡ eqb (key_from ns) (key_from ms)) one_same two_same

bond_group : (n : ℕ) (r : Row) → row_ok Bonds n r ≡ true → r.group ≡ 0
unfolding group_ok
bond_group n r o = eqb-true r.group 0 (sym (or-false (eqb r.group 0)) ∙ (row_fits_lem Bonds n r o).grouping)

same_payload : (a b g j : ℕ) → g ≡ 0 → j ≡ 0 → eqb a b ≡ eqb (256 * a + g) (256 * b + j)
same_payload a b g j p q =
    both_ways (eqb a b) (eqb (256 * a + g) (256 * b + j)) (λ e. eq-eqb (256 * a + g) (256 * b + j) (omega (arith, p, q, eqb-true a b e))) (λ e. eq-eqb a b (omega (arith, p, q, eqb-true (256 * a + g) (256 * b + j) e)))

-- REPEATS: a list that drops them tells them by the payload, one that does not has none
pub repeats_payload : (l : ListOf) (n : ℕ) (r s : Row) → drops l ≡ true → row_ok l n r ≡ true → row_ok l n s ≡ true → repeats l r s ≡ eqb (payload_of r) (payload_of s)
unfolding repeats
repeats_payload Bonds n r s h o u = same_payload (nat_abs r.value) (nat_abs s.value) r.group s.group (bond_group n r o) (bond_group n s u)
repeats_payload Charges n r s h o u = torn false h refl
repeats_payload Radicals n r s h o u = torn false h refl
repeats_payload Centres n r s h o u = torn false h refl
repeats_payload Pairs n r s h o u = torn false h refl

pub repeats_never : (l : ListOf) (r s : Row) → drops l ≡ false → repeats l r s ≡ false
unfolding repeats
repeats_never Bonds r s h = torn true refl h
repeats_never Charges r s h = refl
repeats_never Radicals r s h = refl
repeats_never Centres r s h = refl
repeats_never Pairs r s h = refl
