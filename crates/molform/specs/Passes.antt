-- A pass over a formula's value that holds the refusal so far, and what its steps keep: its meaning for the whole value, whatever follows: document 01, "Rows",
-- MOLFORM. Assumes nothing.
use Rattle.std.specs.Prelude.{ℕ, ◌≤◌, ◌≡◌, Bool, List, ◌∷◌, length, drop, Ok}
use Rattle.std.specs.declared.option.Option.{Option}
use Rattle.format.specs.Bytes.{Bytes}
use Rattle.format.specs.Formula.{Counted, between, frun, formula_shape}
use Rattle.formula.specs.Machine.{state_shown, Sized}
use Rattle.molform.specs.Verdicts.{Verdict}
use Rattle.molform.specs.declared.Pass.{Pass}
use Rattle.molform.specs.declared.Lead.{Lead}

-- `value held r`: what the whole comes to where `held` is held and r is what the run still tells
pub record Carried (value : Verdict → Option (List Counted) → Verdict) (from : Pass) (b : ℕ) (to : Pass) : Type 0 where
  pub sized : Sized to.state
  pub is : (s : Bytes) → value from.held (frun (state_shown from.state) (b ∷ s)) ≡ value to.held (frun (state_shown to.state) s)

abbrev pub lead_of : (held : Verdict) (begun : Bool) (at : ℕ) → Lead
lead_of held begun at = record { held = held; begun = begun; at = at }

-- what the whole value comes to is what the entries before a place and the run from there come to
pub record Leads (value : Verdict → Option (List Counted) → Verdict) (s : Bytes) (l : Lead) : Type 0 where
  pub reach : l.at ≤ length s
  pub is : value (Ok tt) (formula_shape s) ≡ value l.held (frun (between l.begun) (drop l.at s))
