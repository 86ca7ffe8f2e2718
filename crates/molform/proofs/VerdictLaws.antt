-- The refusal of a formula: that of entries put together is the lowest of theirs, a shape that is none is refused 9 whatever was told, and Reading's turn of the
-- formula stops with it: document 01, "Rows", MOLFORM; "Refusal numbers". Assumes nothing.
use Prim.Native.Nat.{ℕ, ◌≤◌}
use Rattle.std.specs.Prelude.{Ok, Err}
use lib.Dec.{eqb, ltb}
use mathlib.Core.Bool.{cond}
use Rattle.std.specs.Ordering.{is_lt, nat_cmp}
use Rattle.std.specs.declared.cmp.Ordering.TheVariants.{Less, Equal, Greater}
use Rattle.format.specs.Refusals.{number_of}
use Rattle.format.specs.declared.refusal.Refusal.{Refusal}
use Rattle.format.specs.declared.refusal.Refusal.TheVariants.{Shape, Range, Symbol}
use Rattle.formula.specs.declared.entry.Entry.{Entry}
use Rattle.formula.specs.Machine.{entry_shown}
use mathlib.Core.Path.{◌≡◌, refl, sym, ap, ap₂, ◌∙◌}
use mathlib.Core.Bool.{Bool, true, false, ◌&&◌, ◌||◌, not}
use Rattle.std.specs.declared.option.Option.{Option}
use Rattle.std.specs.declared.option.Option.TheVariants.{None, Some}
use mathlib.Core.List.{List, [], ◌∷◌, ◌++◌}
use native.Mathlib.Omega.{arith}
use borrow.Author.Tests.{eq-eqb, ne_eqb, ltb-true, ltb-false}
use Rattle.lists.specs.Lists.{all, any}
use Rattle.lists.proofs.Bools.{never, and_both, and_left_false, and_right_false}
use Rattle.lists.proofs.ListLaws.{all_nil, all_one, all_append, any_nil, any_one, any_append}
use Rattle.format.specs.Bytes.{within}
use Rattle.format.specs.Formula.{Counted, join}
use Rattle.format.specs.Structure.{Isotope, isotope, unknown, mass_ok}
use Rattle.format.specs.Reading.{State, Turn, Go, if◌stop◌else◌, with_formula, formula_turn}
use Rattle.format.proofs.ByteLaws.{within_is, within_true}
use Rattle.molform.specs.Verdicts.{Verdict, lower, verdict_of, entries_verdict, formula_verdict, lowest, refusal_with, turn_of}
use Rattle.molform.specs.Totals.{formula_entries}

-- THE LOWEST of refusals
pub less_told : (x y : ℕ) → is_lt (nat_cmp x y) ≡ ltb x y
less_told x y = go (ltb x y) (eqb x y)
  where
    go : (t u : Bool) → is_lt (cond t Less (cond u Equal Greater)) ≡ t
    go true u = refl
    go false true = refl
    go false false = refl

pub lowest_none : (w : Verdict) → lowest w (Ok tt) ≡ w
lowest_none (Ok u) = refl
lowest_none (Err a) = refl

lower_assoc : (a b c : Refusal) → lower a (lower b c) ≡ lower (lower a b) c
lower_assoc a b c = go (ltb (number_of c) (number_of b)) (ltb (number_of b) (number_of a)) (ltb (number_of c) (number_of a)) refl refl refl
  where
    go : (p q r : Bool) → ltb (number_of c) (number_of b) ≡ p → ltb (number_of b) (number_of a) ≡ q → ltb (number_of c) (number_of a) ≡ r → lower a (lower b c) ≡ lower (lower a b) c
    go true true true e f g = rw (e, f, g, e)
    go true true false e f g = absurd (omega (arith, ltb-true _ _ e, ltb-true _ _ f, ltb-false _ _ g))
    go true false r e f g = rw (e, f)
    go false true r e f g = rw (e, f, e)
    go false false true e f g = absurd (omega (arith, ltb-false _ _ e, ltb-false _ _ f, ltb-true _ _ g))
    go false false false e f g = rw (e, f, g)

pub lowest_assoc : (a b c : Verdict) → lowest a (lowest b c) ≡ lowest (lowest a b) c
lowest_assoc (Ok u) b c = refl
lowest_assoc (Err a) (Ok u) c = refl
lowest_assoc (Err a) (Err b) (Ok u) = refl
lowest_assoc (Err a) (Err b) (Err c) = ap Err (lower_assoc a b c)

-- ENTRIES put together
verdicts_join : (f o g p : Bool) → verdict_of (f && g) (o || p) ≡ lowest (verdict_of f o) (verdict_of g p)
verdicts_join false o false p = refl
verdicts_join false o true true = refl
verdicts_join false o true false = refl
verdicts_join true true false p = refl
verdicts_join true false false p = refl
verdicts_join true true true true = refl
verdicts_join true true true false = refl
verdicts_join true false true true = refl
verdicts_join true false true false = refl

verdict_shapeless : (f o : Bool) → Err Shape ≡ lowest (verdict_of f o) (Err Shape)
verdict_shapeless false o = refl
verdict_shapeless true true = refl
verdict_shapeless true false = refl

abbrev fits : Counted → Bool
fits c = mass_ok c.symbol && within 1 9999 c.count

module _ (k : ℕ) where
  abbrev odd : Counted → Bool
  odd c = unknown k c.symbol

  pub entries_nil : entries_verdict k [] ≡ Ok tt
  unfolding entries_verdict
  entries_nil = ap₂ verdict_of (all_nil fits) (any_nil odd)

  pub entries_append : (cs ds : List Counted) → entries_verdict k (cs ++ ds) ≡ lowest (entries_verdict k cs) (entries_verdict k ds)
  unfolding entries_verdict
  entries_append cs ds =
      ap₂ verdict_of (all_append fits cs ds) (any_append odd cs ds) ∙ verdicts_join (all fits cs) (any odd cs) (all fits ds) (any odd ds)

  pub verdict_join : (cs : List Counted) (r : Option (List Counted)) → formula_verdict k (join cs r) ≡ lowest (entries_verdict k cs) (formula_verdict k r)
  unfolding entries_verdict
  verdict_join cs None = verdict_shapeless (all fits cs) (any odd cs)
  verdict_join cs (Some ds) = entries_append cs ds

  -- ONE ENTRY
  module _ (c : Counted) where
    entry_is : entries_verdict k (c ∷ []) ≡ verdict_of (fits c) (odd c)
    unfolding entries_verdict
    entry_is = ap₂ verdict_of (all_one fits c) (any_one odd c)

    pub wrong_mass : mass_ok c.symbol ≡ false → Err Range ≡ entries_verdict k (c ∷ [])
    wrong_mass e = sym (entry_is ∙ ap (λ (t : Bool). verdict_of t (odd c)) (and_left_false (mass_ok c.symbol) (within 1 9999 c.count) e))

    pub wrong_count : (1 ≤ c.count → c.count ≤ 9999 → ⊥) → Err Range ≡ entries_verdict k (c ∷ [])
    wrong_count n = sym (entry_is ∙ ap (λ (t : Bool). verdict_of t (odd c)) (and_right_false (mass_ok c.symbol) (within 1 9999 c.count) (never (within 1 9999 c.count) (λ e. n (within_true 1 9999 c.count e).0 (within_true 1 9999 c.count e).1))))

    module _ (m : mass_ok c.symbol ≡ true) (l : 1 ≤ c.count) (h : c.count ≤ 9999) where
      in_range_lem : fits c ≡ true
      in_range_lem = and_both (mass_ok c.symbol) (within 1 9999 c.count) m (within_is 1 9999 c.count l h)

      pub symbol_unknown : (i : Isotope) → i ≡ isotope k c.symbol → i.element ≡ 0 → Err Symbol ≡ entries_verdict k (c ∷ [])
      unfolding unknown
      symbol_unknown i e z = sym (entry_is ∙ ap₂ verdict_of in_range_lem (eq-eqb _ _ (sym (ap (λ (j : Isotope). j.element) e) ∙ z)))

      pub symbol_known : (i : Isotope) → i ≡ isotope k c.symbol → (i.element ≡ 0 → ⊥) → Ok tt ≡ entries_verdict k (c ∷ [])
      unfolding unknown
      symbol_known i e n = sym (entry_is ∙ ap₂ verdict_of in_range_lem (ne_eqb _ _ (λ z. n (ap (λ (j : Isotope). j.element) e ∙ z))))

-- A PASS that holds the lowest refusal so far
pub refusal_told : (k : ℕ) (w v u : Verdict) (e : Entry) → v ≡ entries_verdict k (entry_shown e ∷ []) → u ≡ lowest w v → (r : Option (List Counted)) → refusal_with k w (join (entry_shown e ∷ []) r) ≡ refusal_with k u r
refusal_told k w v u e p z r =
    ap (lowest w) (verdict_join k (entry_shown e ∷ []) r)
    ∙ lowest_assoc w (entries_verdict k (entry_shown e ∷ [])) (formula_verdict k r)
    ∙ ap (λ (y : Verdict). lowest y (formula_verdict k r)) (sym (z ∙ ap (lowest w) p))

pub refusal_nothing : (k : ℕ) (w : Verdict) → w ≡ refusal_with k w (Some [])
refusal_nothing k w = sym (ap (lowest w) (entries_nil k) ∙ lowest_none w)

-- READING'S TURN of the formula, by its refusal
tested : (f o : Bool) (t : Turn) → (if not f stop 10 else if o stop 12 else t) ≡ turn_of (verdict_of f o) t
tested false o t = refl
tested true true t = refl
tested true false t = refl

pub formula_turn_lem : (k : ℕ) (st : State) (r : Option (List Counted)) → formula_turn k st r ≡ turn_of (formula_verdict k r) (Go (with_formula st (formula_entries k r)))
unfolding formula_turn entries_verdict
formula_turn_lem k st None = refl
formula_turn_lem k st (Some cs) = tested (all fits cs) (any (λ c. unknown k c.symbol) cs) (Go (with_formula st (formula_entries k (Some cs))))
