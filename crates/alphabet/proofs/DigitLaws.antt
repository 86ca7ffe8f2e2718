-- What the answer of `alphabet::digit` says of the byte: document 01, "Rows". Assumes nothing.
use Prim.Native.Nat.{ℕ, ◌-◌}
use mathlib.Core.Path.{◌≡◌, refl}
use mathlib.Core.Bool.{Bool, true, false, cond}
use Rattle.std.specs.declared.option.Option.{Option}
use Rattle.std.specs.declared.option.Option.TheVariants.{None, Some}
use Rattle.format.specs.Rows.{digit}

module _ (b : ℕ) (r : Option ℕ) (is : r ≡ cond (digit b) (Some (b - 48)) None) where
  pub digit_some : (n : ℕ) → r ≡ Some n → (digit b ≡ true) × (n ≡ b - 48)
  digit_some n e = go (digit b) is
    where
      go : (t : Bool) → r ≡ cond t (Some (b - 48)) None → (t ≡ true) × (n ≡ b - 48)
      go true q = (refl, cc)
      go false q = cc

  pub digit_none : r ≡ None → digit b ≡ false
  digit_none e = go (digit b) is
    where
      go : (t : Bool) → r ≡ cond t (Some (b - 48)) None → t ≡ false
      go true q = cc
      go false q = refl
