-- Rows of bonds, centres and pairs by one number: of rows of one list the order is the order of their keys, so that rows in order have distinct atoms. Serves document
-- 01, "The structure table" ("Bonds, centres and pairs ascend by their atoms."). Assumes nothing.
use Prim.Native.Nat.{ℕ, ◌+◌, ◌*◌, ◌≤◌, ◌<◌}
use mathlib.Core.Path.{◌≡◌, refl, sym, ap, ◌∙◌}
use mathlib.Core.Bool.{Bool, true, false, ◌&&◌, ◌||◌}
use mathlib.Core.List.{List, [], ◌∷◌, map}
use native.Mathlib.Omega.{arith}
use lib.ListN.{length, get_or}
use lib.Dec.{eqb, ltb}
use borrow.Author.Tests.{eqb-true, eq-eqb, ne_eqb, lt-ltb, le-ltb}
use Rattle.lists.specs.Lists.{all, pairs}
use Rattle.lists.specs.Order.{lex_before, ascends, leads, level}
use Rattle.lists.proofs.Bools.{or_other}
use Rattle.lists.proofs.ListLaws.{all_parts}
use Rattle.lists.proofs.LexLaws.{Sides, less, equal, greater, sides}
use Rattle.lists.proofs.PairLaws.{pairs_within}
use Rattle.lists.proofs.SortLaws.{ascends_apart}
use Rattle.format.specs.Bytes.{within, same}
use Rattle.format.specs.Labels.{ListOf, Bonds, Centres, Pairs}
use Rattle.format.specs.Rows.{Row}
use Rattle.format.specs.Structure.{arity, meets, atoms_before, row_before, row_ok}
use Rattle.format.proofs.ByteLaws.{within_true}
use Rattle.format.proofs.OrderLaws.{row_strict, atoms_level}
use Rattle.format.proofs.RowLaws.{FineRow, row_fine_lem}

-- the atoms of a row of one or two, as one number
abbrev pub key_from : List ℕ → ℕ
key_from ns = 1024 * get_or ns 0 0 + get_or ns 1 0

abbrev pub key_of : Row → ℕ
key_of r = key_from r.atoms

key_lex : (b d : ℕ) → b < 1024 → d < 1024 → (a c : ℕ) → ltb (1024 * a + b) (1024 * c + d) ≡ (ltb a c || (eqb a c && ltb b d))
key_lex b d p q a c = go (sides a c) (sides b d)
  where
    go : Sides a c → Sides b d → ltb (1024 * a + b) (1024 * c + d) ≡ (ltb a c || (eqb a c && ltb b d))
    go (less h) s = rw (lt-ltb a c h) (lt-ltb (1024 * a + b) (1024 * c + d) (omega arith))
    go (greater h) s = rw (le-ltb a c (omega arith), ne_eqb a c (omega arith)) (le-ltb (1024 * a + b) (1024 * c + d) (omega arith))
    go (equal h) (less k) = rw (le-ltb a c (omega arith), eq-eqb a c h, lt-ltb b d k) (lt-ltb (1024 * a + b) (1024 * c + d) (omega arith))
    go (equal h) (equal k) = rw (le-ltb a c (omega arith), eq-eqb a c h, le-ltb b d (omega arith)) (le-ltb (1024 * a + b) (1024 * c + d) (omega arith))
    go (equal h) (greater k) = rw (le-ltb a c (omega arith), eq-eqb a c h, le-ltb b d (omega arith)) (le-ltb (1024 * a + b) (1024 * c + d) (omega arith))

or_and_false : (a b : Bool) → (a || (b && false)) ≡ a
or_and_false true b = refl
or_and_false false true = refl
or_and_false false false = refl

small : (n x : ℕ) → n < 1024 → within 1 n x ≡ true → x < 1024
small n x h e = let k : x ≤ n = (within_true 1 n x e).1 in omega arith

-- one atom and one, or two and two
atoms_before_lem : (n : ℕ) → n < 1024 → (ns ms : List ℕ) → length ns ≡ length ms → 0 < length ns → length ns ≤ 2 → all (within 1 n) ns ≡ true → all (within 1 n) ms ≡ true →
    atoms_before ns ms ≡ ltb (key_from ns) (key_from ms)
unfolding lex_before
atoms_before_lem n h [] ms e p q a b = absurd (omega arith)
atoms_before_lem n h (x ∷ ns) [] e p q a b = absurd (omega arith)
atoms_before_lem n h (x ∷ []) (y ∷ []) e p q a b = sym (key_lex 0 0 (omega arith) (omega arith) x y)
atoms_before_lem n h (x ∷ []) (y ∷ y' ∷ ms) e p q a b = absurd (omega arith)
atoms_before_lem n h (x ∷ x' ∷ ns) (y ∷ []) e p q a b = absurd (omega arith)
atoms_before_lem n h (x ∷ x' ∷ []) (y ∷ y' ∷ []) e p q a b =
    let i : x' < 1024 = small n x' h (all_parts (within 1 n) x' [] (all_parts (within 1 n) x (x' ∷ []) a).1).0 in
    let j : y' < 1024 = small n y' h (all_parts (within 1 n) y' [] (all_parts (within 1 n) y (y' ∷ []) b).1).0 in
    ap (λ (t : Bool). ltb x y || (eqb x y && t)) (or_and_false (ltb x' y') (eqb x' y')) ∙ sym (key_lex x' y' i j x y)
atoms_before_lem n h (x ∷ x' ∷ []) (y ∷ y' ∷ m ∷ ms) e p q a b = absurd (omega arith)
atoms_before_lem n h (x ∷ x' ∷ k ∷ ns) (y ∷ y' ∷ ms) e p q a b = absurd (omega arith)

-- A LIST THAT STANDS BY KEY: rows of one atom or of two, that meet where their atoms are the same
pub record Keyed (l : ListOf) : Type 0 where
  pub some_atoms : 0 < arity l
  pub few_atoms : arity l ≤ 2
  pub meeting : (r s : Row) → meets l r s ≡ same r.atoms s.atoms

pub bonds_keyed : Keyed Bonds
unfolding arity meets
bonds_keyed = record { some_atoms = omega arith; few_atoms = omega arith; meeting = λ r s. refl }

pub centres_keyed : Keyed Centres
unfolding arity meets
centres_keyed = record { some_atoms = omega arith; few_atoms = omega arith; meeting = λ r s. refl }

pub pairs_keyed : Keyed Pairs
unfolding arity meets
pairs_keyed = record { some_atoms = omega arith; few_atoms = omega arith; meeting = λ r s. refl }

module _ (l : ListOf) (K : Keyed l) (n : ℕ) (h : n < 1024) where
  row_arity : (r : Row) → FineRow l n r → length r.atoms ≡ arity l
  row_arity r f =
      eqb-true (length r.atoms) (arity l) (or_other (eqb (arity l) 0) (eqb (length r.atoms) (arity l)) f.size (ne_eqb (arity l) 0 (omega (arith, K.some_atoms))))

  before_key : (r s : Row) → row_ok l n r ≡ true → row_ok l n s ≡ true → row_before r s ≡ ltb (key_of r) (key_of s)
  before_key r s o u =
      let f : FineRow l n r = row_fine_lem l n r o in
      let g : FineRow l n s = row_fine_lem l n s u in
      let p : length r.atoms ≡ arity l = row_arity r f in
      atoms_before_lem n h r.atoms s.atoms (p ∙ sym (row_arity s g)) (omega (arith, p, K.some_atoms)) (omega (arith, p, K.few_atoms)) f.listed g.listed

  leads_key : (r : Row) (rs : List Row) → row_ok l n r ≡ true → all (row_ok l n) rs ≡ true → leads row_before r rs ≡ leads ltb (key_of r) (map key_of rs)
  leads_key r [] o h = refl
  leads_key r (s ∷ rs) o h = before_key r s o (all_parts (row_ok l n) s rs h).0

  -- in order if and only if the keys are
  pub order_key : (rs : List Row) → all (row_ok l n) rs ≡ true → ascends row_before rs ≡ ascends ltb (map key_of rs)
  unfolding ascends
  order_key [] h = refl
  order_key (r ∷ rs) h =
      let p : (row_ok l n r ≡ true) × (all (row_ok l n) rs ≡ true) = all_parts (row_ok l n) r rs h in
      rw (leads_key r rs p.0 p.1, order_key rs p.1)

  -- in order, no two meet
  pub order_apart : (rs : List Row) → ascends row_before rs ≡ true → pairs (meets l) rs ≡ false
  order_apart rs e = pairs_within (level row_before) (meets l) (λ r s q. K.meeting r s ∙ sym (atoms_level r.atoms s.atoms) ∙ q) rs (ascends_apart row_before row_strict rs e)
