-- What the code's steps answer, as moves of the formula's machine: a step that stays, one that tells, a number that grows: document 01, "Rows", MOLFORM.
-- Assumes nothing.
use Prim.Native.Nat.{ℕ, ◌+◌, ◌-◌, ◌*◌, ◌^◌, ◌≤◌, ◌<◌}
use mathlib.Core.Path.{◌≡◌, sym, ap, ap₂, ◌∙◌, subst}
use mathlib.Core.Bool.{true}
use native.Mathlib.Omega.{arith}
use native.Mathlib.Numerals.{add-one}
use Rattle.format.specs.Rows.{digit}
use Rattle.format.specs.Formula.{at_caret, in_mass, in_count, Move, still, tells, fstep}
use Rattle.symbols.specs.ShownSymbols.{sym_of_mark}
use Rattle.formula.specs.Machine.{state_shown, entry_shown, Sized, Moved, Stepped}
use Rattle.symbols.specs.declared.Mark.{Mark}
use Rattle.formula.specs.declared.State.{State}
use Rattle.formula.specs.declared.State.TheVariants.{InMass, InCount}
use Rattle.formula.specs.declared.Move.{Move as Step}
use Rattle.formula.specs.declared.entry.Entry.{Entry}
use Rattle.std.specs.declared.option.Option.TheVariants.{None, Some}
use Rattle.format.proofs.FormulaLaws.{caret_digit, mass_digit, count_digit}
use Rattle.formula.proofs.StepLaws.{short, one_digit, digit_more}

-- an answer, by the move that it shows
pub stays : (m : Move) (q : State) (r : Step) → r ≡ record { state = q; told = None } → m ≡ still (state_shown q) → Sized q → Moved m r
stays m q r z e h = rw z (record { is = sym e; sized = h })

pub told : (m : Move) (x : Entry) (q : State) → m ≡ tells (entry_shown x) (state_shown q) → Sized q → Moved m (record { state = q; told = Some x })
told m x q e h = record { is = sym e; sized = h }

-- the same answer to another name of the move
pub renamed : (m o : Move) (r : Step) → m ≡ o → Moved o r → Moved m r
renamed m o r e h = record { is = h.is ∙ sym e; sized = h.sized }

pub at_state : (q s : State) (b : ℕ) (r : Step) → s ≡ q → (Sized q → Stepped (state_shown q) b r) → Sized s → Stepped (state_shown s) b r
at_state q s b r e h = subst (λ (p : State). Sized p → Stepped (state_shown p) b r) (sym e) h

-- A FIRST DIGIT
module _ (b k : ℕ) (d : (digit b ≡ true) × (k ≡ b - 48)) (r : Step) where
  small : k < 10 ^ 1
  small = rw d.1 (one_digit b d.0)

  pub mass_starts : r ≡ record { state = InMass 1 k; told = None } → Stepped at_caret b r
  mass_starts z = stays (fstep at_caret b) (InMass 1 k) r z (caret_digit b d.0 ∙ ap (λ (v : ℕ). still (in_mass 1 v)) (sym d.1)) (omega arith, small)

  pub count_starts : (m : Move) (x : Mark) → m ≡ still (in_count (sym_of_mark x) 1 (b - 48)) → r ≡ record { state = InCount x 1 k; told = None } → Moved m r
  count_starts m x e z = stays m (InCount x 1 k) r z (e ∙ ap (λ (v : ℕ). still (in_count (sym_of_mark x) 1 v)) (sym d.1)) (omega arith, small)

-- A DIGIT MORE
module _ (n v b k r : ℕ) (d : (digit b ≡ true) × (k ≡ b - 48)) (is : v < 100000 → r ≡ v * 10 + k) where
  grown : n < 6 → v < 10 ^ n → (r ≡ v * 10 + (b - 48)) × (r < 10 ^ (n + 1))
  grown h l = let e : r ≡ v * 10 + (b - 48) = is (short n v h l) ∙ ap (λ (k : ℕ). v * 10 + k) d.1 in (e, rw (add-one n, e) (digit_more n v b d.0 l))

  pub mass_grows : (o : Step) → o ≡ record { state = InMass (n + 1) r; told = None } → n < 3 → (n ≤ 3) × (v < 10 ^ n) → Stepped (in_mass n v) b o
  mass_grows o z h l =
      let g = grown (omega arith) l.1 in
      stays (fstep (in_mass n v) b) (InMass (n + 1) r) o z (mass_digit n v b d.0 h ∙ ap₂ (λ (i j : ℕ). still (in_mass i j)) (sym (add-one n)) (sym g.0)) (omega arith, g.1)

  pub count_grows : (x : Mark) (o : Step) → o ≡ record { state = InCount x (n + 1) r; told = None } → n < 6 → (n ≤ 6) × (v < 10 ^ n) → Stepped (in_count (sym_of_mark x) n v) b o
  count_grows x o z h l =
      let g = grown h l.1 in
      stays (fstep (in_count (sym_of_mark x) n v) b) (InCount x (n + 1) r) o z
      (count_digit (sym_of_mark x) n v b d.0 h ∙ ap₂ (λ (i j : ℕ). still (in_count (sym_of_mark x) i j)) (sym (add-one n)) (sym g.0))
      (omega arith, g.1)
