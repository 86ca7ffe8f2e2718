-- Elements with their masses by their keys: of those that an atom can have, the formula's order is the order of the keys, two with one key are the same, and a key
-- gives its element and mass back. Document 01, "The one written form": "no mass before ascending masses". Assumes nothing.
use Prim.Native.Nat.{ℕ, ◌+◌, ◌*◌, ◌/◌, ◌%◌, ◌≤◌, ◌<◌}
use mathlib.Core.Path.{◌≡◌, refl, sym, ap, ap₂, ◌∙◌}
use mathlib.Core.Bool.{Bool, true, false, ◌&&◌, ◌||◌}
use native.Mathlib.Omega.{arith}
use lib.Dec.{eqb, ltb, leb}
use borrow.Author.Tests.{leb-true, le-leb, lt-leb, lt-ltb, le-ltb, eq-eqb, ne_eqb}
use Rattle.lists.proofs.Bools.{and_parts, and_both, and_left_false, and_right_false}
use Rattle.lists.proofs.LexLaws.{Sides, less, equal, greater, sides}
use Rattle.format.specs.Bytes.{within}
use Rattle.format.specs.Structure.{Isotope, isotope_of, same_isotope, Atom, atom_ok}
use Rattle.format.specs.Writing.{formula_before}
use Rattle.tally.specs.Ranks.{rank_of, element_of, key_of, fine, key_if}
use Rattle.std.specs.Prelude.{Some, None}
use Rattle.tally.proofs.RankLaws.{rank_back, rank_low, rank_high, rank_before, rank_equal}

-- NUMBERS WITH TWO DIGITS to the base 512
module _ (b d : ℕ) (p : b < 512) (q : d < 512) (a c : ℕ) where
  pub two_before : ltb (512 * a + b) (512 * c + d) ≡ (ltb a c || (eqb a c && ltb b d))
  two_before = go (sides a c) (sides b d)
    where
      go : Sides a c → Sides b d → ltb (512 * a + b) (512 * c + d) ≡ (ltb a c || (eqb a c && ltb b d))
      go (less h) s = rw (lt-ltb a c h) (lt-ltb (512 * a + b) (512 * c + d) (omega arith))
      go (greater h) s = rw (le-ltb a c (omega arith), ne_eqb a c (omega arith)) (le-ltb (512 * a + b) (512 * c + d) (omega arith))
      go (equal h) (less k) = rw (le-ltb a c (omega arith), eq-eqb a c h, lt-ltb b d k) (lt-ltb (512 * a + b) (512 * c + d) (omega arith))
      go (equal h) (equal k) = rw (le-ltb a c (omega arith), eq-eqb a c h, le-ltb b d (omega arith)) (le-ltb (512 * a + b) (512 * c + d) (omega arith))
      go (equal h) (greater k) = rw (le-ltb a c (omega arith), eq-eqb a c h, le-ltb b d (omega arith)) (le-ltb (512 * a + b) (512 * c + d) (omega arith))

  pub two_same : eqb (512 * a + b) (512 * c + d) ≡ (eqb a c && eqb b d)
  two_same = go (sides a c) (sides b d)
    where
      go : Sides a c → Sides b d → eqb (512 * a + b) (512 * c + d) ≡ (eqb a c && eqb b d)
      go (less h) s = rw (ne_eqb a c (omega arith)) (ne_eqb (512 * a + b) (512 * c + d) (omega arith))
      go (greater h) s = rw (ne_eqb a c (omega arith)) (ne_eqb (512 * a + b) (512 * c + d) (omega arith))
      go (equal h) (less k) = rw (eq-eqb a c h, ne_eqb b d (omega arith)) (ne_eqb (512 * a + b) (512 * c + d) (omega arith))
      go (equal h) (equal k) = rw (eq-eqb a c h, eq-eqb b d k) (eq-eqb (512 * a + b) (512 * c + d) (omega arith))
      go (equal h) (greater k) = rw (eq-eqb a c h, ne_eqb b d (omega arith)) (ne_eqb (512 * a + b) (512 * c + d) (omega arith))

-- WHAT AN ATOM CAN HAVE
pub record Fine (i : Isotope) : Type 0 where
  pub low : 1 ≤ i.element
  pub high : i.element ≤ 103
  pub mass : i.mass ≤ 300

pub fine_parts : (i : Isotope) → fine i ≡ true → Fine i
unfolding fine within
fine_parts i h =
    let a = and_parts (within 1 103 i.element) (leb i.mass 300) h in
    let b = and_parts (leb 1 i.element) (leb i.element 103) a.0 in
    record { low = leb-true 1 i.element b.0; high = leb-true i.element 103 b.1; mass = leb-true i.mass 300 a.1 }

pub hydrogen_fine : fine (isotope_of 1 0) ≡ true
unfolding fine within
hydrogen_fine = refl

-- an atom that is as a sound table has it
pub atom_fine_lem : (a : Atom) → atom_ok 103 a ≡ true → (fine a.kind ≡ true) × (a.hydrogens ≤ 15)
unfolding atom_ok fine
atom_fine_lem a h =
    let p = and_parts (within 1 103 a.kind.element) (leb a.kind.mass 300 && leb a.hydrogens 15) h in
    let q = and_parts (leb a.kind.mass 300) (leb a.hydrogens 15) p.1 in
    (and_both (within 1 103 a.kind.element) (leb a.kind.mass 300) p.0 q.0, leb-true a.hydrogens 15 q.1)

-- ITS KEY is not 0, and gives it back
module _ (i : Isotope) (h : fine i ≡ true) where
  pub key_if_lem : key_if i ≡ Some (key_of i)
  unfolding key_if
  key_if_lem = rw (h, key_if)

  pub key_some : 0 < key_of i
  unfolding key_of
  key_some = let f = fine_parts i h in omega (arith, rank_low i.element f.low f.high)

  pub key_high : key_of i < 65536
  unfolding key_of
  key_high = let f = fine_parts i h in omega (arith, f.mass, rank_high i.element f.low f.high)

  pub key_rank : key_of i / 512 ≡ rank_of i.element
  unfolding key_of
  key_rank = omega (arith, (fine_parts i h).mass)

  pub key_mass : key_of i % 512 ≡ i.mass
  unfolding key_of
  key_mass = omega (arith, (fine_parts i h).mass)

  pub key_element : element_of (key_of i / 512) ≡ i.element
  key_element = let f = fine_parts i h in ap element_of key_rank ∙ rank_back i.element f.low f.high

  pub key_back : isotope_of (element_of (key_of i / 512)) (key_of i % 512) ≡ i
  key_back = ap₂ isotope_of key_element key_mass

-- THE KEY, if there is one
pub key_out : (i : Isotope) → fine i ≡ false → key_if i ≡ None
unfolding key_if
key_out i h = rw (h, key_if)

-- a key that there is is that of a fine element and mass
pub key_given : (i : Isotope) (k : ℕ) → Some k ≡ key_if i → (key_of i ≡ k) × (k < 65536)
key_given i k e = go (fine i) refl
  where
    go : (t : Bool) → fine i ≡ t → (key_of i ≡ k) × (k < 65536)
    go true h = let w : Some k ≡ Some (key_of i) = e ∙ key_if_lem i h in let q : key_of i ≡ k = cc in (q, omega (arith, q, key_high i h))
    go false h = let w : Some k ≡ None = e ∙ key_out i h in cc

module _ (e m : ℕ) where
  pub key_no_element : within 1 103 e ≡ false → None ≡ key_if (isotope_of e m)
  unfolding fine
  key_no_element h = sym (key_out (isotope_of e m) (and_left_false (within 1 103 e) (leb m 300) h))

  pub key_no_mass : 300 < m → None ≡ key_if (isotope_of e m)
  unfolding fine
  key_no_mass h = sym (key_out (isotope_of e m) (and_right_false (within 1 103 e) (leb m 300) (lt-leb m 300 h)))

  pub key_is : (r : ℕ) → 1 ≤ e → e ≤ 103 → m ≤ 300 → r ≡ rank_of e → Some (512 * r + m) ≡ key_if (isotope_of e m)
  unfolding key_of fine within
  key_is r l h k q =
      let f : fine (isotope_of e m) ≡ true = and_both (within 1 103 e) (leb m 300) (and_both (leb 1 e) (leb e 103) (le-leb 1 e l) (le-leb e 103 h)) (le-leb m 300 k) in
      ap (λ (n : ℕ). Some (512 * n + m)) q ∙ sym (key_if_lem (isotope_of e m) f)

-- TWO OF THEM: the formula's order is the order of the keys; one key, one element and mass
module _ (i j : Isotope) (h : fine i ≡ true) (k : fine j ≡ true) where
  pub key_before : formula_before i j ≡ ltb (key_of i) (key_of j)
  unfolding formula_before key_of
  key_before =
      let f = fine_parts i h in
      let g = fine_parts j k in
      ap₂ (λ (a b : Bool). a || (b && ltb i.mass j.mass)) (rank_before i.element j.element f.low f.high g.low g.high) (rank_equal i.element j.element f.low f.high g.low g.high)
      ∙ sym (two_before i.mass j.mass (omega (arith, f.mass)) (omega (arith, g.mass)) (rank_of i.element) (rank_of j.element))

  pub key_same : same_isotope i j ≡ eqb (key_of i) (key_of j)
  unfolding same_isotope key_of
  key_same =
      let f = fine_parts i h in
      let g = fine_parts j k in
      ap (λ (a : Bool). a && eqb i.mass j.mass) (rank_equal i.element j.element f.low f.high g.low g.high)
      ∙ sym (two_same i.mass j.mass (omega (arith, f.mass)) (omega (arith, g.mass)) (rank_of i.element) (rank_of j.element))
