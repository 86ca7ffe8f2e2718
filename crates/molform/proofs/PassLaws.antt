-- A pass over a formula's value that holds what is refused of the entries told so far: over any meaning `value` of it which a told entry changes, a
-- byte's step leaves the meaning of the whole as it was: document 01, "Rows", MOLFORM. Assumes nothing.
use Prim.Native.Nat.{ℕ, ◌+◌, ◌-◌, ◌≤◌, ◌<◌}
use mathlib.Core.Path.{◌≡◌, sym, ap, ◌∙◌}
use mathlib.Core.Bool.{true, false}
use Rattle.std.specs.declared.option.Option.{Option}
use mathlib.Core.List.{List, [], ◌∷◌}
use native.Mathlib.Omega.{arith}
use lib.ListN.{length, get_or, take, drop, length-drop}
use lib.Seq.{drop-cons, take_all}
use native.Mathlib.Numerals.{add-one}
use Rattle.format.proofs.FormulaLaws.{formula_is, run_at_end}
use Rattle.format.specs.Bytes.{Bytes}
use Rattle.format.specs.Formula.{Counted, finish, join, frun, between, formula_shape}
use Rattle.formula.specs.Machine.{state_shown, told_shown, entry_shown, Sized, Stepped}
use Rattle.formula.specs.Entries.{EntryIs}
use Rattle.molform.specs.Passes.{Carried, lead_of, Leads}
use Rattle.formula.specs.declared.State.{State}
use Rattle.formula.specs.declared.State.TheVariants.{Between}
use Rattle.formula.specs.declared.Move.{Move as Step}
use Rattle.molform.specs.declared.Pass.{Pass}
use Rattle.formula.proofs.RunLaws.{step_run}
use Rattle.formula.specs.declared.entry.Entry.{Entry}
use Rattle.std.specs.Prelude.{Ok}
use Rattle.std.specs.Option.{option_map}
use Rattle.molform.specs.Verdicts.{Verdict}
use Rattle.molform.specs.declared.Lead.{Lead}

abbrev pub pass : State → Verdict → Pass
pass q w = record { state = q; held = w }

-- what a step tells comes to what is held
pub stepped : (value : Verdict → Option (List Counted) → Verdict) (w u : Verdict) (b : ℕ) (q : State) (m : Step) → (Sized q → Stepped (state_shown q) b m) →
    ((r : Option (List Counted)) → value w (join (told_shown m.told) r) ≡ value u r) → Sized q → Carried value (pass q w) b (pass m.state u)
stepped value w u b q m h p fine = record {
  sized = (h fine).sized;
  is = λ s. ap (value w) (step_run q b m (h fine) s) ∙ p (frun (state_shown m.state) s);
}

-- THE WHOLE, from a place of the value on
abbrev pub whole_from : (Verdict → Option (List Counted) → Verdict) → Bytes → Pass → ℕ → Verdict
whole_from value v j i = value j.held (frun (state_shown j.state) (drop i v))

module _ (value : Verdict → Option (List Counted) → Verdict) (v : Bytes) where
  pub pass_on : (i : ℕ) (from to : Pass) → i < length v → Carried value from (get_or v i 0) to → whole_from value v from i ≡ whole_from value v to (i + 1)
  pass_on i from to h j =
      let e : drop i v ≡ get_or v i 0 ∷ drop (i + 1) v = drop-cons v i 0 h ∙ ap (λ (n : ℕ). get_or v i 0 ∷ drop n v) (sym (add-one i)) in
      ap (λ (s : Bytes). value from.held (frun (state_shown from.state) s)) e ∙ j.is (drop (i + 1) v)

  pub pass_end : (i : ℕ) (j : Pass) → length v ≤ i → whole_from value v j i ≡ value j.held (finish (state_shown j.state))
  pass_end i j h = ap (value j.held) (run_at_end (state_shown j.state) v i h)

-- THE QUICK ENTRIES that a value starts with
module _ (value : Verdict → Option (List Counted) → Verdict) (s : Bytes) where
  pub lead_start : Leads value s (lead_of (Ok tt) false 0)
  lead_start = record { reach = omega arith; is = ap (value (Ok tt)) (formula_is s) }

  pub lead_on : (l : Lead) (u : Verdict) (x : Entry) (next : ℕ) → Leads value s l → EntryIs s l.at x next → ((r : Option (List Counted)) → value l.held (join (entry_shown x ∷ []) r) ≡ value u r) → Leads value s (lead_of u true next)
  lead_on l u x next k e p = record { reach = e.high; is = k.is ∙ ap (value l.held) (e.is l.begun) ∙ p (frun (between true) (drop next s)) }

  -- what stands behind them is the whole from there
  pub lead_whole : (l : Lead) → Leads value s l → value (Ok tt) (formula_shape s) ≡ whole_from value (take (length s - l.at) (drop l.at s)) (pass (Between l.begun) l.held) 0
  lead_whole l k = k.is ∙ ap (λ (t : Bytes). value l.held (frun (between l.begun) t)) (sym (take_all (length s - l.at) (drop l.at s) (simp length-drop (omega arith))))

-- THE END, by what the code's end answered
pub ended : (value : Verdict → Option (List Counted) → Verdict) (w : Verdict) (q : State) (o p : Option (Option Entry)) → option_map told_shown o ≡ finish (state_shown q) → o ≡ p → value w (option_map told_shown p) ≡ value w (finish (state_shown q))
ended value w q o p is e = ap (λ (c : Option (Option Entry)). value w (option_map told_shown c)) (sym e) ∙ ap (value w) is
