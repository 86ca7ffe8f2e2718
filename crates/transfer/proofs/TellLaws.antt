-- What a line tells of where a block and a stray run end, from the code of its label. Serves document 01, "Walking a transfer file". Assumes nothing.
use Prim.Native.Nat.{ℕ}
use mathlib.Core.Path.{◌≡◌, refl, sym, ap, ◌∙◌}
use mathlib.Core.Bool.{Bool, true, false, cond}
use native.Mathlib.Omega.{arith}
use lib.Dec.{eqb}
use borrow.Author.Tests.{eq-eqb, ne_eqb}
use Rattle.std.specs.Prelude.{Some, None}
use Rattle.std.specs.Bool.{then_some}
use Rattle.format.specs.Bytes.{Bytes}
use Rattle.format.specs.Labels.{title_line, end_line}
use Rattle.labels.specs.declared.LineKind.{LineKind}
use Rattle.labels.specs.ShownLines.{code_shown, ShowsLine}
use Rattle.labels.proofs.LabelLaws.{title_told, end_told}
use Rattle.transfer.specs.declared.ends.Side.TheVariants as S
use Rattle.transfer.specs.Ending.{turn_tells, title_tells}

module _ (l : Bytes) (r : LineKind) (h : ShowsLine l r) (n : ℕ) (told : n ≡ code_shown r) where
  title_by : (t : Bool) → eqb n 1 ≡ t → title_line l ≡ t
  title_by t e = sym (title_told l r h) ∙ ap (λ k. eqb k 1) (sym told) ∙ e

  end_by : (t : Bool) → eqb n 13 ≡ t → end_line l ≡ t
  end_by t e = sym (end_told l r h) ∙ ap (λ k. eqb k 13) (sym told) ∙ e

  pub turns_before : n ≡ 1 → Some S.Before ≡ turn_tells l
  turns_before e = rw (title_by true (eq-eqb n 1 e))

  pub turns_behind : n ≡ 13 → Some S.Behind ≡ turn_tells l
  turns_behind e = rw (title_by false (ne_eqb n 1 (λ k. omega arith)), end_by true (eq-eqb n 13 e))

  pub turns_on : (n ≡ 1 → ⊥) → (n ≡ 13 → ⊥) → None ≡ turn_tells l
  turns_on e f = rw (title_by false (ne_eqb n 1 e), end_by false (ne_eqb n 13 f))

  pub strays : then_some (eqb n 1) S.Before ≡ title_tells l
  strays = rw (title_by (eqb n 1) refl) (by (eqb n 1))
    where
      by : (t : Bool) → then_some t S.Before ≡ cond t (Some S.Before) None
      by true = refl
      by false = refl
