-- The turn of a line of STEREOMOLECULE, and whether a molecule is handed twice, by the counts of centres and pairs: document 02, L4. Assumes nothing.
use Prim.Native.Nat.{ℕ}
use mathlib.Core.Path.{◌≡◌, refl, sym, ap, ◌∙◌}
use mathlib.Core.Bool.{Bool, true, false, ◌&&◌, ◌||◌, not}
use mathlib.Core.List.{List, [], ◌∷◌}
use native.Mathlib.Omega.{arith}
use lib.ListN.{length}
use lib.Dec.{eqb}
use borrow.Author.Tests.{eq-eqb, ne_eqb}
use Rattle.lists.specs.Lists.{is_nil}
use Rattle.lists.proofs.Bools.{torn}
use Rattle.format.specs.Bytes.{Bytes}
use Rattle.format.specs.Labels.{Bonds, Charges, Radicals, Centres, Pairs}
use Rattle.format.specs.Rows.{Row}
use Rattle.format.specs.Structure.{Structure, rows_of, handed_twice}
use Rattle.format.specs.Reading.{State, if◌stop◌else◌, with_body, with_yes, yes_turn, yes_line}
use Rattle.format.specs.Reading.{Go as going, Stop as stopping}
use Rattle.gather.specs.Progress.{count_of, laid, Bounded, Listed}
use Rattle.gather.specs.Shows.{Shows}
use Rattle.gather.specs.declared.progress.Progress.{Progress}
use Rattle.judgement.proofs.ValueLaws.{is_yes}
use Rattle.judgement.proofs.LineTurnLaws.{counted_as_lem, listed_as}

-- A LINE OF THE RECORD
module _ (st : State) (fs : List Bytes) where
  pub yes_blank : is_nil fs ≡ true → yes_line st fs ≡ going st
  unfolding yes_line
  yes_blank e = by fs e
    where
      by : (gs : List Bytes) → is_nil gs ≡ true → yes_line st gs ≡ going st
      by [] e = refl
      by (g ∷ gs) e = torn false e refl

  some_line : is_nil fs ≡ false → yes_line st fs ≡ yes_turn st fs
  unfolding yes_line
  some_line e = by fs e
    where
      by : (gs : List Bytes) → is_nil gs ≡ false → yes_line st gs ≡ yes_turn st gs
      by [] e = torn true refl e
      by (g ∷ gs) e = refl

  turn_is : (a b : Bool) → st.body.handed ≡ a → is_yes fs ≡ b → yes_turn st fs ≡ (if a || not b stop 9 else going (with_body st (with_yes st.body)))
  unfolding yes_turn
  turn_is a b e f =
      ap (λ (x : Bool). if x || not (is_yes fs) stop 9 else going (with_body st (with_yes st.body))) e ∙ ap (λ (x : Bool). if a || not x stop 9 else going (with_body st (with_yes st.body))) f

  pub yes_again : is_nil fs ≡ false → st.body.handed ≡ true → yes_line st fs ≡ stopping 9
  yes_again n e = some_line n ∙ turn_is true (is_yes fs) e refl

  module _ (n : is_nil fs ≡ false) (e : st.body.handed ≡ false) where
    pub yes_other : is_yes fs ≡ false → yes_line st fs ≡ stopping 9
    yes_other f = some_line n ∙ turn_is false false e f

    pub yes_taken : is_yes fs ≡ true → yes_line st fs ≡ going (with_body st (with_yes st.body))
    yes_taken f = some_line n ∙ turn_is false true e f

-- WHAT IS KNOWN BEHIND THE YES
abbrev pub handed_now : Progress → Progress
handed_now p = record {
  running = p.running;
  top = p.top;
  title = p.title;
  origin = p.origin;
  owner = p.owner;
  formula = p.formula;
  atoms = p.atoms;
  bonds = p.bonds;
  charges = p.charges;
  radicals = p.radicals;
  centres = p.centres;
  pairs = p.pairs;
  id = p.id;
  handed = true;
}

pub yes_bounded : (size : ℕ) (p : Progress) → Bounded size p → Bounded size (handed_now p)
yes_bounded size p h = record {
  counted = counted_as_lem p (handed_now p) h.counted refl refl refl refl refl refl;
  code = h.code;
  title = h.title;
  origin = h.origin;
  owner = h.owner;
  formula = h.formula;
  id = h.id;
}

pub yes_shown : (k : ℕ) (block : Bytes) (at : ℕ) (p : Progress) (t : List ℕ) (st : State) → Shows k block at p t st → Shows k block at (handed_now p) t (with_body st (with_yes st.body))
unfolding laid
yes_shown k block at p t st h = record {
  place = h.place;
  running = h.running;
  top = h.top;
  holding = record {
    scratch = h.holding.scratch;
    texts = h.holding.texts;
    formula = h.holding.formula;
    formula_fine_lem = h.holding.formula_fine_lem;
    kinds = h.holding.kinds;
    listed = listed_as p (handed_now p) st.body.id true st.body h.holding.listed refl (λ l. elim l as (λ l. count_of l (handed_now p) ≡ count_of l p) [ Bonds ↦ refl | Charges ↦ refl | Radicals ↦ refl | Centres ↦ refl | Pairs ↦ refl ])
        h.holding.listed.id refl;
    geometry = h.holding.geometry;
  };
}

-- HANDED TWICE, by the counts
abbrev pub twice : Progress → Bool
twice p = p.handed && not (eqb p.centres 0 && eqb p.pairs 0)

module _ (p : Progress) where
  pub twice_no : not p.handed ≡ true → false ≡ twice p
  twice_no e = by p.handed e
    where
      by : (b : Bool) → not b ≡ true → false ≡ (b && not (eqb p.centres 0 && eqb p.pairs 0))
      by true e = torn (not true) e refl
      by false e = refl

  module _ (e : not p.handed ≡ false) where
    once : (x : Bool) → (eqb p.centres 0 && eqb p.pairs 0) ≡ x → not x ≡ twice p
    once x f = by p.handed e ∙ ap (λ (y : Bool). p.handed && not y) (sym f)
      where
        by : (b : Bool) → not b ≡ false → not x ≡ (b && not x)
        by true e = refl
        by false e = torn (not false) refl e

    pub twice_centre : (p.centres ≡ 0 → ⊥) → true ≡ twice p
    twice_centre n = once false (ap (λ (x : Bool). x && eqb p.pairs 0) (ne_eqb p.centres 0 n))

    pub twice_pair : p.centres ≡ 0 → not (eqb p.pairs 0) ≡ twice p
    twice_pair z = once (eqb p.pairs 0) (ap (λ (x : Bool). x && eqb p.pairs 0) (eq-eqb p.centres 0 z))

nil_count : (rs : List Row) (n : ℕ) → length rs ≡ n → is_nil rs ≡ eqb n 0
nil_count [] n e = ap (λ (m : ℕ). eqb m 0) e
nil_count (r ∷ rs) n e = sym (ne_eqb n 0 (λ q. omega (arith, e)))

pub twice_is : (p : Progress) (s : Structure) → Listed p s → handed_twice s ≡ twice p
unfolding handed_twice rows_of
twice_is p s l =
    ap (λ (b : Bool). b && not (is_nil s.centres && is_nil s.pairs)) l.handed
    ∙ ap (λ (b : Bool). p.handed && not (b && is_nil s.pairs)) (nil_count s.centres p.centres (l.counts Centres))
    ∙ ap (λ (b : Bool). p.handed && not (eqb p.centres 0 && b)) (nil_count s.pairs p.pairs (l.counts Pairs))
