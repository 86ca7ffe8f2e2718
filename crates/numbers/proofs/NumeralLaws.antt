-- A number's sign, by the first byte, and a number as a signed one of 32 bits. Serves document 01, "Rows" ("a signed one may have `+` or `-` before them"). Assumes
-- nothing.
use Prim.Native.Nat.{ℕ, ◌<◌}
use mathlib.Core.Path.{◌≡◌, refl, sym}
use mathlib.Core.Bool.{false}
use mathlib.Core.List.{[], ◌∷◌}
use Rattle.std.specs.declared.option.Option.TheVariants.{None, Some}
use native.Mathlib.Omega.{arith}
use lib.IntN.{pos, neg_ℤ, ◌-ℤ◌}
use lib.ListN.{length}
use mir.Syntax.{w32}
use mir.Val.{to_z, of_z}
use lib.Dec.{eqb}
use borrow.Author.Tests.{eq-eqb, ne_eqb}
use Rattle.std.proofs.lemmas.Int.{ints}
use Rattle.format.specs.Bytes.{Bytes}
use Rattle.format.specs.Rows.{number, natural, negative, signed}

-- THE SIGN
module _ (s : Bytes) (b : ℕ) (rest : Bytes) (is : s ≡ b ∷ rest) where
  pub signed_plus : b ≡ 43 → natural rest ≡ signed s
  unfolding signed
  signed_plus e = sym (rw (is, eq-eqb b 43 e, signed))

  pub signed_minus : b ≡ 45 → negative rest ≡ signed s
  unfolding signed
  signed_minus e = let n : eqb b 43 ≡ false = ne_eqb b 43 (λ f. omega arith) in sym (rw (is, n, eq-eqb b 45 e, signed))

  pub signed_bare : (b ≡ 43 → ⊥) → (b ≡ 45 → ⊥) → natural s ≡ signed s
  unfolding signed
  signed_bare n m = sym (rw (is, ne_eqb b 43 n, ne_eqb b 45 m, signed))

pub signed_none : (s : Bytes) → length s ≡ 0 → None ≡ signed s
unfolding signed
signed_none [] h = refl
signed_none (b ∷ s) h = cc

-- THE VALUE
module _ (s : Bytes) (n : ℕ) (is : number s ≡ Some n) (small : n < 1000000) where
  pub natural_is : Some (to_z w32 n) ≡ natural s
  unfolding natural
  natural_is = let e : to_z w32 n ≡ pos n = omega (arith, ints) in rw (is, e)

  pub negative_is : Some (to_z w32 (of_z w32 (pos 0 -ℤ to_z w32 n))) ≡ negative s
  unfolding negative
  negative_is = let e : to_z w32 (of_z w32 (pos 0 -ℤ to_z w32 n)) ≡ neg_ℤ (pos n) = omega (arith, ints) in rw (is, e)
