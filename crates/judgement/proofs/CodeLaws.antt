-- The codes of the known labels: which is END's, which is that of the rows of XYZ, and how the code tells lists, the geometry and values of one field apart. Document 01,
-- "Lines and labels"; document 02, L2 and L4. Assumes nothing.
use Prim.Native.Nat.{ℕ, zero, suc, ◌+◌, ◌-◌, ◌≤◌, ◌<◌}
use mathlib.Core.Path.{◌≡◌, refl, sym, ap, ◌∙◌}
use mathlib.Core.Bool.{Bool, true, false, not}
use mathlib.Core.Logic.{◌⊎◌, inl, inr}
use native.Mathlib.Omega.{arith}
use lib.Dec.{eqb}
use borrow.Author.Tests.{eqb-true}
use Rattle.lists.proofs.IndexLaws.{below, at_below}
use Rattle.format.specs.Labels.{MaxXyz, XyzFactor, XyzRows, Holds, Text, Version, Formula, BlockId, Atoms, Rows, Xyz, Handedness, End, Skipped, label, known, lookup}
use Rattle.format.specs.Reading.{over}
use Rattle.labels.specs.ShownLines.{by_code}

-- ONE RECORD ALONE HAS A TEST'S CODE: the test and the code's, computed for each code
abbrev alike : Bool → Bool → Bool
alike true b = b
alike false b = not b

alike_same : (a b : Bool) → alike a b ≡ true → a ≡ b
alike_same true b e = sym e
alike_same false true e = e
alike_same false false e = refl

abbrev over_at : ℕ → Bool
over_at c = alike (over (by_code c known).holds) (eqb c 13)

overs : below over_at 18 ≡ true
unfolding below by_code known label lookup
overs = refl

pub over_code : (n : ℕ) → n < 18 → over (by_code n known).holds ≡ eqb n 13
over_code n h = alike_same _ _ (at_below over_at 18 overs n h)

abbrev holds_xyz : Holds → Bool
holds_xyz (Text i) = false
holds_xyz Version = false
holds_xyz Formula = false
holds_xyz BlockId = false
holds_xyz Atoms = false
holds_xyz (Rows l) = false
holds_xyz (Xyz MaxXyz) = false
holds_xyz (Xyz XyzFactor) = false
holds_xyz (Xyz XyzRows) = true
holds_xyz Handedness = false
holds_xyz End = false
holds_xyz Skipped = false

abbrev xyz_at : ℕ → Bool
xyz_at c = alike (holds_xyz (by_code c known).holds) (eqb c 16)

xyzs : below xyz_at 18 ≡ true
unfolding below by_code known label lookup
xyzs = refl

pub rows_code : (n : ℕ) → n < 18 → (n ≡ 16 → ⊥) → (by_code n known).holds ≡ Xyz XyzRows → ⊥
rows_code n h o e = o (eqb-true n 16 (sym (alike_same _ _ (at_below xyz_at 18 xyzs n h)) ∙ ap holds_xyz e))

-- THE RECORDS' CODES
above : (n m : ℕ) → m ≤ n → (n ≡ m → ⊥) → suc m ≤ n
above n m h e = omega arith

under : (n m : ℕ) → n < suc m → (n ≡ m → ⊥) → n < m
under n m h e = omega arith

not_from : (n m : ℕ) → (m ≤ n → ⊥) → n < m
not_from n m h = omega arith

-- what is no other record's code is a list's
pub list_code : (n : ℕ) → n < 18 → (n ≡ 0 → ⊥) → (n ≡ 1 → ⊥) → (n ≡ 3 → ⊥) → (n ≡ 4 → ⊥) → (n ≡ 2 → ⊥) → (n ≡ 5 → ⊥) → (n ≡ 12 → ⊥) → (n ≡ 13 → ⊥) → (14 ≤ n → ⊥) → (6 ≤ n) × (n ≤ 11)
list_code n h a b d e c f y z o =
    (above n 5 (above n 4 (above n 3 (above n 2 (above n 1 (above n 0 (omega arith) a) b) c) d) e) f, omega (arith, under n 12 (under n 13 (not_from n 14 o) z) y))

-- the geometry's codes, as the code tests them; and where they are left out, none of them is there
pub geometry_code : (n : ℕ) → 12 ≤ n → n < 17 → (n ≡ 12 → ⊥) → (n ≡ 13 → ⊥) → (14 ≤ n) × (n ≤ 16)
geometry_code n h k a b = (omega (arith, h, a, b), omega (arith, k))

pub no_geometry_lem : (n : ℕ) → n < 18 → (n < 12) ⊎ (17 ≤ n) → (n ≡ 17 → ⊥) → 14 ≤ n → ⊥
no_geometry_lem n h (inl k) o g = omega arith
no_geometry_lem n h (inr k) o g = o (omega arith)

pub no_rows : (n : ℕ) → n < 18 → (n < 14) ⊎ (16 ≤ n) → (n ≡ 16 → ⊥) → (n ≡ 17 → ⊥) → 14 ≤ n → ⊥
no_rows n h (inl k) o q g = omega arith
no_rows n h (inr k) o q g = o (omega (arith, h, k, q))

-- the records with a value on their label line, as the code tests them
pub single_code : (n : ℕ) → ((n ≡ 2) ⊎ ((n ≡ 5) ⊎ (n ≡ 12))) ⊎ ((14 ≤ n) × (n < 16)) → (n ≡ 2) ⊎ ((n ≡ 5) ⊎ ((n ≡ 12) ⊎ ((n ≡ 14) ⊎ (n ≡ 15))))
single_code n (inl (inl e)) = inl e
single_code n (inl (inr (inl e))) = inr (inl e)
single_code n (inl (inr (inr e))) = inr (inr (inl e))
single_code n (inr h) = by (n - 14) (omega (arith, h.0)) (omega (arith, h.0, h.1))
  where
    by : (i : ℕ) → n ≡ 14 + i → i < 2 → (n ≡ 2) ⊎ ((n ≡ 5) ⊎ ((n ≡ 12) ⊎ ((n ≡ 14) ⊎ (n ≡ 15))))
    by zero e k = inr (inr (inr (inl e)))
    by (suc zero) e k = inr (inr (inr (inr e)))
    by (suc (suc i)) e k = absurd (omega arith)

-- what is outside 3 and 4 is neither
pub outside : (n : ℕ) → (n < 3) ⊎ (5 ≤ n) → (n ≡ 3 → ⊥) × (n ≡ 4 → ⊥)
outside n (inl h) = (λ e. omega arith, λ e. omega arith)
outside n (inr h) = (λ e. omega arith, λ e. omega arith)
