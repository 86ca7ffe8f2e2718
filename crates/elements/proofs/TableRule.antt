-- What the last arm of a `match` says of its number, where the rule of the others is computed once for all numbers below a bound. Assumes nothing.
use mathlib.Core.Path.{◌≡◌, refl, sym, ◌∙◌}
use mathlib.Core.Bool.{Bool, true, false, ◌||◌}
use mathlib.Core.List.{List, [], ◌∷◌}
use Prim.Native.Nat.{ℕ, ◌≤◌, ◌<◌}
use lib.Dec.{eqb, ltb}
use borrow.Author.Tests.{ne_eqb, le-ltb, eqb-true}
use Rattle.lists.specs.Lists.{any}
use Rattle.lists.proofs.IndexLaws.{below, at_below}
use Rattle.format.specs.Bytes.{is_in}

-- the last arm: the number is none of those before, the last of them first
abbrev pub Missed : List ℕ → ℕ → Type 0
Missed [] k = Unit {0}
Missed (x ∷ xs) k = Missed xs k × (k ≡ x → ⊥)

missed : (xs : List ℕ) (k : ℕ) → Missed xs k → is_in k xs ≡ false
unfolding any
missed [] k m = refl
missed (x ∷ xs) k m = rw (ne_eqb k x m.1, missed xs k m.0)

-- whether a number from `low` on that is not among those of the arms has 0
unfoldable pub bare : (ℕ → ℕ) → List ℕ → (low k : ℕ) → Bool
bare f xs low k = is_in k xs || (ltb k low || eqb (f k) 0)

pub gone : (f : ℕ → ℕ) (xs : List ℕ) (low high : ℕ) → below (bare f xs low) high ≡ true → (k : ℕ) → low ≤ k → k < high → Missed xs k → 0 ≡ f k
unfolding bare
gone f xs low high a k l h m =
    let b : (is_in k xs || (ltb k low || eqb (f k) 0)) ≡ true = at_below (bare f xs low) high a k h in
    sym (eqb-true (f k) 0 (sym (rw (missed xs k m, le-ltb k low l)) ∙ b))
