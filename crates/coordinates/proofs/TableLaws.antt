-- The table of positions atom by atom: written for one atom it is the table with that atom's position changed, and what `position` reads in it is the definition's
-- position. Serves document 02, L2 ("1,024 64-bit floats (per atom 1 if given, X, Y, Z; else four 0)"). Assumes nothing.
use Prim.Native.Nat.{ℕ, zero, suc, ◌+◌, ◌-◌, ◌*◌, ◌≤◌, ◌<◌}
use mathlib.Core.Path.{◌≡◌, refl, sym, ap, ◌∙◌}
use mathlib.Core.Bool.{Bool, true, false}
use mathlib.Core.List.{List, ◌∷◌, ◌++◌, append_assoc}
use native.Mathlib.Nat.{zero-add, add-zero}
use native.Mathlib.Omega.{arith}
use lib.ListN.{length, take, drop, get_or, length-append}
use lib.Seq.{get_or-drop, take_at, drop_at}
use lib.IntN.{pos}
use lib.Ieee.{Float, nan, fin, eq}
use borrow.Author.Tests.{le-leb}
use Rattle.lists.specs.Lists.{flat, count_up}
use Rattle.lists.proofs.Bools.{torn}
use Rattle.lists.proofs.PartLaws.{flat_nil, flat_cons, flat_append}
use Rattle.format.specs.Coordinates.{Geometry, Position, At, NotGiven, nought, position_numbers, position_in, position_table}
use Rattle.coordinates.specs.ShownPositions.{has_place, placed, four_at, position_at}
use Rattle.coordinates.proofs.PlaceLaws.{place_by, place_at, place_told, placed_is, placed_none}

-- COUNTED in two parts, and what two functions give that agree on each counted number
up_split : (a i k : ℕ) → count_up a (i + k) ≡ count_up a i ++ count_up (a + i) k
unfolding count_up
up_split a zero k = ap (count_up a) (zero-add k) ∙ ap (λ (n : ℕ). count_up n k) (sym (add-zero a))
up_split a (suc i) k =
    let p : suc i + k ≡ suc (i + k) = omega arith in
    let q : suc a + i ≡ a + suc i = omega arith in
    ap (count_up a) p ∙ ap (λ (l : List ℕ). a ∷ l) (up_split (suc a) i k ∙ ap (λ (n : ℕ). count_up (suc a) i ++ count_up n k) q)

pub flat_up : (f g : ℕ → List Float) (a k : ℕ) → ((n : ℕ) → a ≤ n → n < a + k → f n ≡ g n) → flat f (count_up a k) ≡ flat g (count_up a k)
unfolding count_up flat
flat_up f g a zero h = refl
flat_up f g a (suc k) h =
    ap (λ (l : List Float). l ++ flat f (count_up (suc a) k)) (h a (omega arith) (omega arith))
    ∙ ap (λ (l : List Float). g a ++ l) (flat_up f g (suc a) k (λ n p q. h n (omega (arith, p)) (omega (arith, q))))

-- FOUR NUMBERS, whatever the position is
four : (p : Position) → length (position_numbers p) ≡ 4
four (At x y z) = refl
four NotGiven = refl

module _ (f : ℕ → Position) where
  abbrev pub numbers_of : ℕ → List Float
  numbers_of n = position_numbers (f n)

  pub numbers_length : (a k : ℕ) → length (flat numbers_of (count_up a k)) ≡ 4 * k
  unfolding count_up
  numbers_length a zero = ap length (flat_nil numbers_of)
  numbers_length a (suc k) =
      ap length (flat_cons numbers_of a (count_up (suc a) k))
      ∙ length-append (numbers_of a) (flat numbers_of (count_up (suc a) k)) ∙ omega (arith, four (f a), numbers_length (suc a) k)

  -- AN ATOM'S NUMBERS among those before it and those behind
  abbrev before : ℕ → List Float
  before n = flat numbers_of (count_up 1 (n - 1))

  abbrev behind : ℕ → List Float
  behind n = flat numbers_of (count_up (suc n) (256 - n))

  module _ (n : ℕ) (z : List Float) (low : 1 ≤ n) (high : n ≤ 256) where
    parted : flat numbers_of (count_up 1 256) ++ z ≡ before n ++ (numbers_of n ++ (behind n ++ z))
    unfolding count_up
    parted =
        let p : 256 ≡ (n - 1) + suc (256 - n) = omega arith in
        let q : 1 + (n - 1) ≡ n = omega arith in
        ap (λ (k : ℕ). flat numbers_of (count_up 1 k) ++ z) p
        ∙ ap (λ (l : List ℕ). flat numbers_of l ++ z) (up_split 1 (n - 1) (suc (256 - n)))
        ∙ ap (λ (m : ℕ). flat numbers_of (count_up 1 (n - 1) ++ count_up m (suc (256 - n))) ++ z) q
        ∙ ap (λ (l : List Float). l ++ z) (flat_append numbers_of (count_up 1 (n - 1)) (n ∷ count_up (suc n) (256 - n)) ∙ ap (λ (l : List Float). before n ++ l) (flat_cons numbers_of n (count_up (suc n) (256 - n))))
        ∙ append_assoc (before n) (numbers_of n ++ behind n) z ∙ ap (λ (l : List Float). before n ++ l) (append_assoc (numbers_of n) (behind n) z)

    before_length : length (before n) ≡ 4 * (n - 1)
    before_length = numbers_length 1 (n - 1)

    pub front_is : take (4 * (n - 1)) (flat numbers_of (count_up 1 256) ++ z) ≡ before n
    front_is = ap (take (4 * (n - 1))) parted ∙ take_at (before n) (numbers_of n ++ (behind n ++ z)) (4 * (n - 1)) before_length

    pub from_is : drop (4 * (n - 1)) (flat numbers_of (count_up 1 256) ++ z) ≡ numbers_of n ++ (behind n ++ z)
    from_is = ap (drop (4 * (n - 1))) parted ∙ drop_at (before n) (numbers_of n ++ (behind n ++ z)) (4 * (n - 1)) before_length

    pub rest_is : drop (4 * (n - 1) + 4) (flat numbers_of (count_up 1 256) ++ z) ≡ behind n ++ z
    rest_is =
        ap (drop (4 * (n - 1) + 4)) (parted ∙ sym (append_assoc (before n) (numbers_of n) (behind n ++ z)))
        ∙ drop_at (before n ++ numbers_of n) (behind n ++ z) (4 * (n - 1) + 4) (length-append (before n) (numbers_of n) ∙ omega (arith, before_length, four (f n)))

  room : (z : List Float) → 1024 ≤ length (flat numbers_of (count_up 1 256) ++ z)
  room z = omega (arith, length-append (flat numbers_of (count_up 1 256)) z, numbers_length 1 256)

  pub has : (n : ℕ) (z : List Float) → 1 ≤ n → n ≤ 256 → has_place (length (flat numbers_of (count_up 1 256) ++ z)) n ≡ true
  has n z low high = sym (place_by (length (flat numbers_of (count_up 1 256) ++ z)) n low high) ∙ le-leb (4 * n) (length (flat numbers_of (count_up 1 256) ++ z)) (omega (arith, room z))

-- ONE ATOM'S POSITION CHANGED, whether the atom has a place or not
module _ (f g : ℕ → Position) (n : ℕ) (others : (m : ℕ) → (m ≡ n → ⊥) → f m ≡ g m) (z : List Float) where
  agree : (a k : ℕ) → ((m : ℕ) → a ≤ m → m < a + k → m ≡ n → ⊥) → flat (numbers_of f) (count_up a k) ≡ flat (numbers_of g) (count_up a k)
  agree a k h = flat_up (numbers_of f) (numbers_of g) a k (λ m p q. ap position_numbers (others m (h m p q)))

  pub one_placed : placed (flat (numbers_of f) (count_up 1 256) ++ z) n (g n) ≡ flat (numbers_of g) (count_up 1 256) ++ z
  one_placed = go (has_place (length (flat (numbers_of f) (count_up 1 256) ++ z)) n) refl
    where
      go : (t : Bool) → has_place (length (flat (numbers_of f) (count_up 1 256) ++ z)) n ≡ t
          → placed (flat (numbers_of f) (count_up 1 256) ++ z) n (g n) ≡ flat (numbers_of g) (count_up 1 256) ++ z
      go true e =
          let b = place_told (length (flat (numbers_of f) (count_up 1 256) ++ z)) n e in
          let t = flat (numbers_of f) (count_up 1 256) ++ z in
          sym (placed_is t n e (g n))
          ∙ ap (λ (l : List Float). l ++ (numbers_of g n ++ drop (4 * (n - 1) + 4) t)) (front_is f n z b.0 b.1 ∙ agree 1 (n - 1) (λ m p q r. omega (arith, p, q, r, b.0)))
          ∙ ap (λ (l : List Float). before g n ++ (numbers_of g n ++ l)) (rest_is f n z b.0 b.1 ∙ ap (λ (l : List Float). l ++ z) (agree (suc n) (256 - n) (λ m p q r. omega (arith, p, q, r))))
          ∙ sym (parted g n z b.0 b.1)
      go false e =
          sym (placed_none (flat (numbers_of f) (count_up 1 256) ++ z) n (g n) e)
          ∙ ap (λ (l : List Float). l ++ z) (agree 1 256 (λ m p q r. torn (has_place (length (flat (numbers_of f) (count_up 1 256) ++ z)) n) (has f n z (omega (arith, p, r)) (omega (arith, q, r))) e))

-- READ BACK: four numbers are the position that they say
four_read : (t : List Float) (at : ℕ) (p : Position) (z : List Float) → drop at t ≡ position_numbers p ++ z → four_at t at ≡ p
unfolding eq
four_read t at p z e = go p (numbers 0) (numbers 1) (numbers 2) (numbers 3)
  where
    numbers : (j : ℕ) → get_or t (at + j) nan ≡ get_or (position_numbers p ++ z) j nan
    numbers j = sym (get_or-drop at t j nan) ∙ ap (λ (l : List Float). get_or l j nan) e

    go : (q : Position) → get_or t (at + 0) nan ≡ get_or (position_numbers q ++ z) 0 nan → get_or t (at + 1) nan ≡ get_or (position_numbers q ++ z) 1 nan
        → get_or t (at + 2) nan ≡ get_or (position_numbers q ++ z) 2 nan → get_or t (at + 3) nan ≡ get_or (position_numbers q ++ z) 3 nan → four_at t at ≡ q
    go (At x y w) a b c d = let f : get_or t at nan ≡ fin false 1 (pos 0) = ap (λ (n : ℕ). get_or t n nan) (sym (add-zero at)) ∙ a in rw (f, four_at) (rw (b, c, d))
    go NotGiven a b c d = let f : get_or t at nan ≡ nought = ap (λ (n : ℕ). get_or t n nan) (sym (add-zero at)) ∙ a in rw (f, four_at)

-- what is read of an atom in the table that a geometry gives, whatever stands beyond
pub position_back : (g : Geometry) (z : List Float) (n : ℕ) → 1 ≤ n → n ≤ 256 → position_at (position_table g ++ z) n ≡ position_in g.scale g.rows n
unfolding position_table
position_back g z n low high =
    let f : ℕ → Position = λ (m : ℕ). position_in g.scale g.rows m in
    place_at (position_table g ++ z) n (has f n z low high)
    ∙ four_read (position_table g ++ z) (4 * (n - 1)) (f n) (behind f n ++ z) (from_is f n z low high)
