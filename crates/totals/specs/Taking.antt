-- What a byte of the formula, and the quick entries that it starts with, take from what is left of the atoms: document 01, "the formula's total over all fragments
-- equals the atoms listed". Assumes nothing.
use Rattle.std.specs.Prelude.{ℕ, ◌≤◌, Bool, true, false, List, ◌∷◌, length, drop}
use Rattle.std.specs.declared.option.Option.{Option}
use Rattle.std.specs.declared.option.Option.TheVariants.{None, Some}
use Rattle.format.specs.Bytes.{Bytes}
use Rattle.format.specs.Formula.{Counted as Told, join, frun, formula_shape}
use Rattle.format.specs.Structure.{Isotope}
use Rattle.formula.specs.Machine.{state_shown, Sized}
use Rattle.formula.specs.declared.State.{State}
use Rattle.formula.specs.declared.State.TheVariants.{Between}
use Rattle.totals.specs.Left.{Answers}
use Rattle.totals.specs.declared.Lead.{Lead}

-- entries taken, so that the answer for what follows is the answer for the whole; or one asks for more than is left
abbrev pub TakesTold : (k : ℕ) → (left next : Isotope → ℕ) → List Told → Bool → Type 0
TakesTold k left next es true = (o : Option (List Told)) (r : Bool) → Answers k next o r → Answers k left (join es o) r
TakesTold k left next es false = (o : Option (List Told)) → Answers k left (join es o) false

pub record TookTold (k : ℕ) (left next : Isotope → ℕ) (es : List Told) (r : Bool) : Type 0 where
  pub is : TakesTold k left next es r

-- the machine goes on and the answer for the rest is the answer for the whole, or an entry asks for more than is left
abbrev pub TakesByte : (k : ℕ) → (left next : Isotope → ℕ) → State → (b : ℕ) → Option State → Type 0
TakesByte k left next q b (Some to) = Sized to × ((s : Bytes) (r : Bool) → Answers k next (frun (state_shown to) s) r → Answers k left (frun (state_shown q) (b ∷ s)) r)
TakesByte k left next q b None = (s : Bytes) → Answers k left (frun (state_shown q) (b ∷ s)) false

pub record TookByte (k : ℕ) (left next : Isotope → ℕ) (q : State) (b : ℕ) (r : Option State) : Type 0 where
  pub is : TakesByte k left next q b r

-- from a place of the value on: the answer for what stands from there is the answer for the whole
pub record Owing (k : ℕ) (old left : Isotope → ℕ) (whole : Option (List Told)) (s : Bytes) (q : State) (i : ℕ) : Type 0 where
  pub is : (r : Bool) → Answers k left (frun (state_shown q) (drop i s)) r → Answers k old whole r

abbrev pub TakesLead : (k : ℕ) → (old left : Isotope → ℕ) → Bytes → Option Lead → Type 0
TakesLead k old left s (Some l) = (l.at ≤ length s) × Owing k old left (formula_shape s) s (Between l.begun) l.at
TakesLead k old left s None = Answers k old (formula_shape s) false

pub record TookLead (k : ℕ) (old left : Isotope → ℕ) (s : Bytes) (r : Option Lead) : Type 0 where
  pub is : TakesLead k old left s r
