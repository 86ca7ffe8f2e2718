-- A step of the run of the formula's machine, by what the code's step answered: document 01, "Rows", MOLFORM. Assumes nothing.
use Prim.Native.Nat.{ℕ}
use mathlib.Core.Path.{◌≡◌, sym}
use mathlib.Core.List.{◌∷◌}
use Rattle.format.specs.Bytes.{Bytes}
use Rattle.format.specs.Formula.{join, frun}
use Rattle.format.proofs.FormulaLaws.{run_step}
use Rattle.formula.specs.Machine.{state_shown, told_shown, move_shown, Stepped}
use Rattle.formula.specs.declared.State.{State}
use Rattle.formula.specs.declared.Move.{Move as Step}

pub step_run : (q : State) (b : ℕ) (m : Step) → Stepped (state_shown q) b m → (s : Bytes) → frun (state_shown q) (b ∷ s) ≡ join (told_shown m.told) (frun (state_shown m.state) s)
step_run q b m h s = run_step (state_shown q) b s (move_shown m) (sym h.is)
