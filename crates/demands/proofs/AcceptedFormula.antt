-- MOLFORM in a block that is accepted: it has one value, and the machine reads a fine formula from it exactly when the grammar says one of it. Serves "accepted exactly
-- when"; document 01, "Rows" (MOLFORM) and "Each at most once". Assumes nothing.
use Prim.Native.Nat.{ℕ}
use mathlib.Core.Path.{◌≡◌, refl, sym, ap, ◌∙◌}
use mathlib.Core.Bool.{Bool, true, false, not, ◌&&◌, ◌||◌}
use Rattle.std.specs.declared.option.Option.{Option}
use Rattle.std.specs.declared.option.Option.TheVariants.{None, Some}
use mathlib.Core.List.{List, [], ◌∷◌, ◌++◌}
use native.Mathlib.Omega.{arith}
use lib.Dec.{eqb}
use Rattle.lists.specs.Lists.{is_nil, all, flat}
use Rattle.lists.proofs.Bools.{torn, or_other}
use Rattle.lists.proofs.ListLaws.{all_nil, all_one, all_at, all_same, all_and, any_nil, any_one, any_append}
use Rattle.lists.proofs.PartLaws.{flat_nil, flat_one, flat_cons, flat_append, all_flat}
use Rattle.format.specs.Bytes.{Bytes, cut, strip}
use Rattle.format.specs.Labels.{Holds, Formula, Skipped, Label, label, known, Line, Plain, Unparted, Labelled, line_of}
use Rattle.format.specs.Formula.{Counted, formula_shape}
use Rattle.format.specs.Grammar.{Says}
use Rattle.format.specs.Reading.{start}
use Rattle.format.proofs.GrammarRuns.{says_read}
use Rattle.format.proofs.GrammarLaws.{read_says}
use Rattle.demands.specs.Accepted.{Told, Value, Further, told_as, runs_on, told, label_on, labels, named, only_if, value_in, entries_as, fits, formula_fine, own_rule, told_of, molforms}
use Rattle.demands.proofs.AcceptedContents.{formula_held, formula_kind, formula_in}
use Rattle.demands.proofs.AcceptedSteps.{along, formula_passes}
use Rattle.demands.proofs.AcceptedLines.{label_passed, nil_append, append_some, placed, own_test}
use Rattle.demands.proofs.AcceptedOnce.{several, values_once}

-- WHAT THE READING ASKS of each line: its own rule, and of MOLFORM's values that the machine reads them
module _ (k : ℕ) where
  abbrev formula_test : Told → Bool
  formula_test (Value h v) = not (formula_held h) || formula_passes k v
  formula_test (Further h l) = true

  both_asked : (t : Told) → own_test k t ≡ (formula_test t && own_rule k t)
  both_asked (Value h v) = refl
  both_asked (Further h l) = refl

  value_asked : (t : Told) → formula_test t ≡ all (formula_passes k) (value_in Formula t)
  value_asked (Value h v) = by (formula_held h) ∙ ap (λ (b : Bool). all (formula_passes k) (only_if b v)) (sym (formula_kind h))
    where
      by : (b : Bool) → (not b || formula_passes k v) ≡ all (formula_passes k) (only_if b v)
      by true = sym (all_one (formula_passes k) v)
      by false = sym (all_nil (formula_passes k))
  value_asked (Further h l) = sym (all_nil (formula_passes k))

  pub asked_is : (b : Bytes) → all (own_test k) (told_of b) ≡ (all (formula_passes k) (molforms b) && all (own_rule k) (told_of b))
  asked_is b =
      all_same (own_test k) (λ t. formula_test t && own_rule k t) both_asked (told_of b) ∙ all_and formula_test (own_rule k) (told_of b)
      ∙ ap (λ (t : Bool). t && all (own_rule k) (told_of b)) (all_same formula_test (λ t. all (formula_passes k) (value_in Formula t)) value_asked (told_of b) ∙ sym (all_flat (value_in Formula) (formula_passes k) (told_of b)))

-- A VALUE IS THERE where the label is
label_held : (l : Bytes) (x : Label) (v : Bytes) → line_of l ≡ Labelled x v → (not (eqb x.code 5) || formula_held x.holds) ≡ true
unfolding known all label
label_held = label_passed (λ x. not (eqb x.code 5) || formula_held x.holds) refl refl

noted_is : (x : Label) (v : Bytes) → named (label_on (Labelled x v)) 5 ≡ true → eqb x.code 5 ≡ true
noted_is x v = by (eqb x.code 0)
  where
    by : (b : Bool) → named (elim b as (λ (t : Bool). List Label) [ true ↦ [] | false ↦ x ∷ [] ]) 5 ≡ true → eqb x.code 5 ≡ true
    by true e = torn (named [] 5) e (any_nil _)
    by false e = sym (any_one (λ y. eqb y.code 5) x) ∙ e

line_there : (h : Holds) (l : Bytes) (line : Line) → line_of l ≡ line → named (label_on line) 5 ≡ true → is_nil (flat (value_in Formula) (told_as h l line)) ≡ false
line_there h l Plain e n = torn (named [] 5) n (any_nil _)
line_there h l Unparted e n = torn (named [] 5) n (any_nil _)
line_there h l (Labelled x v) e n =
    let f : formula_held x.holds ≡ true = or_other (not (eqb x.code 5)) (formula_held x.holds) (label_held l x v e) (ap not (noted_is x v n)) in
    ap is_nil (flat_one (value_in Formula) (Value x.holds v) ∙ ap (λ (b : Bool). only_if b v) (formula_kind x.holds ∙ f))

value_there : (h : Holds) (ls : List Bytes) → named (labels ls) 5 ≡ true → is_nil (flat (value_in Formula) (told h ls)) ≡ false
unfolding told
value_there h [] n = torn (named (labels []) 5) n (ap (λ (xs : List Label). named xs 5) (flat_nil _) ∙ any_nil _)
value_there h (l ∷ ls) n =
    ap is_nil (flat_append (value_in Formula) (told_as h l (line_of l)) (told (runs_on h (line_of l)) ls)) ∙ by (named (label_on (line_of l)) 5) refl (value_there (runs_on h (line_of l)) ls)
  where
    either : (named (label_on (line_of l)) 5 || named (labels ls) 5) ≡ true
    either = sym (ap (λ (xs : List Label). named xs 5) (flat_cons (λ m. label_on (line_of m)) l ls) ∙ any_append (λ x. eqb x.code 5) (label_on (line_of l)) (labels ls)) ∙ n

    by : (b : Bool) → named (label_on (line_of l)) 5 ≡ b → (named (labels ls) 5 ≡ true → is_nil (flat (value_in Formula) (told (runs_on h (line_of l)) ls)) ≡ false)
        → is_nil (flat (value_in Formula) (told_as h l (line_of l)) ++ flat (value_in Formula) (told (runs_on h (line_of l)) ls)) ≡ false
    by true e ih = append_some (flat (value_in Formula) (told_as h l (line_of l))) (flat (value_in Formula) (told (runs_on h (line_of l)) ls)) (line_there h l (line_of l) refl e)
    by false e ih = nil_append (flat (value_in Formula) (told_as h l (line_of l))) (flat (value_in Formula) (told (runs_on h (line_of l)) ls)) (ih (or_other (named (label_on (line_of l)) 5) (named (labels ls) 5) either e))

-- MOLFORM as `Obeys` has it
pub record Molform (k : ℕ) (b : Bytes) : Type 0 where
  pub value : Bytes
  pub once : molforms b ≡ value ∷ []
  pub formula : List Counted
  pub said : Says (strip value) formula
  pub fine : formula_fine k formula ≡ true

module _ (k : ℕ) (b : Bytes) where
  shape_said : (v : Bytes) → molforms b ≡ v ∷ [] → (o : Option (List Counted)) → formula_shape (strip v) ≡ o → fits (formula_fine k) o ≡ true → Molform k b
  shape_said v e None f g = torn false g refl
  shape_said v e (Some cs) f g = record { value = v; once = e; formula = cs; said = read_says (strip v) cs f; fine = g }

  pub molform_read : along k (placed k) start (cut b) ≡ true → all (named (labels (cut b))) (2 ∷ 3 ∷ 4 ∷ 5 ∷ []) ≡ true → all (formula_passes k) (molforms b) ≡ true → Molform k b
  unfolding start
  molform_read p r = by (molforms b) refl (values_once k start (cut b) p) (value_there Skipped (cut b) (all_at (named (labels (cut b))) 0 (2 ∷ 3 ∷ 4 ∷ 5 ∷ []) 3 r (omega arith)))
    where
      by : (vs : List Bytes) → molforms b ≡ vs → several vs ≡ false → is_nil vs ≡ false → all (formula_passes k) vs ≡ true → Molform k b
      by [] e s n f = torn true refl n
      by (v ∷ []) e s n f = shape_said v e (formula_shape (strip v)) refl (sym (all_one (formula_passes k) v) ∙ f)
      by (v ∷ w ∷ vs) e s n f = torn true refl s

  module _ (m : Molform k b) where
    pub molform_passes : all (formula_passes k) (molforms b) ≡ true
    molform_passes = ap (all (formula_passes k)) m.once ∙ all_one (formula_passes k) m.value ∙ ap (fits (formula_fine k)) (says_read m.said) ∙ m.fine

    pub molform_entries : formula_in k b ≡ entries_as k (Some m.formula)
    molform_entries = ap (flat (λ v. entries_as k (formula_shape (strip v)))) m.once ∙ flat_one (λ v. entries_as k (formula_shape (strip v))) m.value ∙ ap (entries_as k) (says_read m.said)
