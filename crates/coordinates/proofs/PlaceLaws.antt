-- An atom's four numbers in the lent table: whether there is a place for them, written and read. Serves document 02, L2 ("per atom 1 if given, X, Y, Z; else
-- four 0"). Assumes nothing.
use Prim.Native.Nat.{ℕ, ◌+◌, ◌-◌, ◌*◌, ◌≤◌, ◌<◌, suc}
use mathlib.Core.Path.{◌≡◌, refl, sym, ap, ◌∙◌}
use mathlib.Core.Bool.{true, false}
use mathlib.Core.List.{List, [], ◌∷◌, ◌++◌, append_assoc}
use native.Mathlib.Omega.{arith}
use borrow.Author.Tests.{leb-true}
use lib.Dec.{leb}
use lib.ListN.{length, take, drop, get_or, set}
use lib.Seq.{sets-eq}
use lib.IntN.{pos}
use lib.Ieee.{Float, nan, fin, binary64, of_bits, of_fields, eq}
use Rattle.lists.proofs.Bools.{and_parts}
use Rattle.format.specs.Bytes.{within}
use Rattle.format.specs.Coordinates.{Position, At, NotGiven, position_numbers}
use Rattle.format.proofs.ByteLaws.{within_true, within_is}
use Rattle.factor.proofs.QuotientLaws.{nought_is}
use Rattle.coordinates.specs.ShownPositions.{has_place, placed, four_at, position_at}

-- a literal 1.0 of the code
pub one_is : of_bits binary64 4607182418800017408 ≡ fin false 1 (pos 0)
unfolding of_bits of_fields
one_is = refl

-- A PLACE for the atom
module _ (l n : ℕ) where
  pub place_by : 1 ≤ n → n ≤ 256 → leb (4 * n) l ≡ has_place l n
  unfolding has_place
  place_by h k = sym (rw (within_is 1 256 n h k))

  pub place_told : has_place l n ≡ true → (1 ≤ n) × (n ≤ 256) × (4 * n ≤ l)
  unfolding has_place
  place_told e =
      let p : (within 1 256 n ≡ true) × (leb (4 * n) l ≡ true) = and_parts (within 1 256 n) (leb (4 * n) l) e in
      ((within_true 1 256 n p.0).0, (within_true 1 256 n p.0).1, leb-true (4 * n) l p.1)

  -- room for the numbers from the place on
  pub place_room : has_place l n ≡ true → 4 * (n - 1) + 4 ≤ l
  place_room e = let p = place_told e in omega arith

-- WRITTEN
module _ (t : List Float) (n : ℕ) where
  pub placed_none : (p : Position) → has_place (length t) n ≡ false → t ≡ placed t n p
  unfolding placed
  placed_none p e = sym (rw (e, placed))

  module _ (e : has_place (length t) n ≡ true) where
    pub placed_is : (p : Position) → take (4 * (n - 1)) t ++ (position_numbers p ++ drop (4 * (n - 1) + 4) t) ≡ placed t n p
    unfolding placed
    placed_is p =
        let h = place_told (length t) n e in
        let q : 4 * (n - 1) + 4 ≡ 4 * n = omega arith in
        ap (λ (k : ℕ). take (4 * (n - 1)) t ++ (position_numbers p ++ drop k t)) q ∙ sym (rw (e, placed))

    pub placed_at : (x y z : Float) (u : List Float)
        → u ≡ take (4 * (n - 1)) t ++ ((of_bits binary64 4607182418800017408 ∷ x ∷ y ∷ z ∷ []) ++ drop (4 * (n - 1) + 4) t) → u ≡ placed t n (At x y z)
    placed_at x y z u h = h ∙ ap (λ (g : Float). take (4 * (n - 1)) t ++ ((g ∷ x ∷ y ∷ z ∷ []) ++ drop (4 * (n - 1) + 4) t)) one_is ∙ placed_is (At x y z)

    pub placed_not : (u : List Float)
        → u ≡ take (4 * (n - 1)) t ++ ((of_bits binary64 0 ∷ of_bits binary64 0 ∷ of_bits binary64 0 ∷ of_bits binary64 0 ∷ []) ++ drop (4 * (n - 1) + 4) t) → u ≡ placed t n NotGiven
    placed_not u h = h ∙ ap (λ (g : Float). take (4 * (n - 1)) t ++ ((g ∷ g ∷ g ∷ g ∷ []) ++ drop (4 * (n - 1) + 4) t)) nought_is ∙ placed_is NotGiven

-- READ
module _ (t : List Float) (n : ℕ) where
  pub no_place : has_place (length t) n ≡ false → NotGiven ≡ position_at t n
  unfolding position_at
  no_place e = sym (rw (e, position_at))

  module _ (e : has_place (length t) n ≡ true) where
    pub place_at : position_at t n ≡ four_at t (4 * (n - 1))
    unfolding position_at
    place_at = rw (e, position_at)

    pub read_at : eq (get_or t (4 * (n - 1)) nan) (of_bits binary64 4607182418800017408) ≡ true
        → At (get_or t (4 * (n - 1) + 1) nan) (get_or t (4 * (n - 1) + 2) nan) (get_or t (4 * (n - 1) + 3) nan) ≡ position_at t n
    read_at h = let q : eq (get_or t (4 * (n - 1)) nan) (fin false 1 (pos 0)) ≡ true = rw one_is at h in sym (place_at ∙ rw (q, four_at))

    pub read_not : eq (get_or t (4 * (n - 1)) nan) (of_bits binary64 4607182418800017408) ≡ false → NotGiven ≡ position_at t n
    read_not h = let q : eq (get_or t (4 * (n - 1)) nan) (fin false 1 (pos 0)) ≡ false = rw one_is at h in sym (place_at ∙ rw (q, four_at))

-- FOUR NUMBERS stored one after another
pub four_put : {A : Type 0} (t : List A) (at : ℕ) (g x y z : A) → at + 4 ≤ length t
    → set (set (set (set t at g) (at + 1) x) (at + 2) y) (at + 3) z ≡ take at t ++ ((g ∷ x ∷ y ∷ z ∷ []) ++ drop (at + 4) t)
four_put t at g x y z h =
    let a : at + 1 ≡ suc at = omega arith in
    let b : at + 2 ≡ suc (suc at) = omega arith in
    let c : at + 3 ≡ suc (suc (suc at)) = omega arith in
    rw (a, b, c) (sets-eq (g ∷ x ∷ y ∷ z ∷ []) t at h ∙ append_assoc (take at t) (g ∷ x ∷ y ∷ z ∷ []) (drop (at + 4) t))
