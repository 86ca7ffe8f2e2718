-- L1 of a well-formed structure: its groups are what paths of bonds join, and its formula as it is written has, over all fragments, the atoms' totals. Document 02,
-- L1. Assumes nothing.
use Prim.Native.Nat.{ℕ, zero, suc, ◌+◌, ◌-◌, ◌≤◌, ◌<◌}
use mathlib.Core.Path.{◌≡◌, refl, sym, ap, ap₂, ◌∙◌, subst}
use mathlib.Core.Bool.{Bool, true, false}
use mathlib.Core.List.{List, [], ◌∷◌, ◌++◌, map, map-append}
use native.Mathlib.Omega.{arith}
use lib.ListN.{length, get_or}
use lib.Dec.{eqb}
use borrow.Author.Tests.{eqb-true, eqb-false, eq-eqb, ne_eqb}
use Rattle.lists.specs.Lists.{any, flat, count_up}
use Rattle.lists.specs.Order.{sort}
use Rattle.lists.proofs.Bools.{torn}
use Rattle.lists.proofs.ListLaws.{any_nil}
use Rattle.lists.proofs.PartLaws.{flat_map}
use Rattle.lists.proofs.IndexLaws.{map_length}
use Rattle.lists.proofs.SortLaws.{perm_length, sort_perm}
use Rattle.format.specs.Bytes.{strip}
use Rattle.format.specs.Labels.{Bonds}
use Rattle.format.specs.Formula.{Counted, counted, formula_shape}
use Rattle.format.specs.Structure.{Isotope, isotope_of, Atom, Entry, entry, entries_of, same_isotope, kinds, total, Structure, rows_of, well_formed, lowest, group_of, groups}
use Rattle.format.specs.Writing.{spelt, formula_before, formula_of, fragment, fragments, valued, print_formula}
use Rattle.format.proofs.ByteLaws.{within_is, within_true}
use Rattle.format.proofs.TotalLaws.{kinds_again, kinds_new, entries_bare, entries_implied}
use Rattle.demands.specs.Groups.{Joined, lowest_in, AtomOf, IsLowest, lowest_atoms, group_in, entries_in}
use Rattle.demands.specs.Accepted.{entries_as, ◌exactly_when◌}
use Rattle.demands.proofs.Groups.{Linked, linked, path_join, path_back, path_same, path_within, group_cons}
use Rattle.demands.proofs.WayBack.{fine_structure, written_formula, all_totals}

-- A GROUP'S ATOMS: there is one where a label is the group's, and none where no label is
group_some : (i : ℕ) (ls : List ℕ) (l : List Atom) (j : ℕ) → j < length ls → j < length l → get_or ls j 0 ≡ i → 1 ≤ length (group_of i ls l)
group_some i [] l j h k e = absurd (omega (arith, h))
group_some i (m ∷ ls) [] j h k e = absurd (omega (arith, k))
group_some i (m ∷ ls) (a ∷ rest) zero h k e = omega (arith, ap length (group_cons i m ls a rest (eq-eqb i m (sym e))))
group_some i (m ∷ ls) (a ∷ rest) (suc j) h k e = by (eqb i m) refl (group_some i ls rest j (omega (arith, h)) (omega (arith, k)) e)
  where
    by : (t : Bool) → eqb i m ≡ t → 1 ≤ length (group_of i ls rest) → 1 ≤ length (group_of i (m ∷ ls) (a ∷ rest))
    by true f ih = omega (arith, ap length (group_cons i m ls a rest f))
    by false f ih = omega (arith, ap length (group_cons i m ls a rest f), ih)

group_none : (i : ℕ) (ls : List ℕ) (l : List Atom) → ((j : ℕ) → j < length ls → get_or ls j 0 ≡ i → ⊥) → group_of i ls l ≡ []
unfolding group_of
group_none i [] l never = refl
group_none i (m ∷ ls) [] never = refl
group_none i (m ∷ ls) (a ∷ rest) never = group_cons i m ls a rest (ne_eqb i m (λ e. never 0 (omega arith) (sym e))) ∙ group_none i ls rest (λ j h e. never (suc j) (omega (arith, h)) e)

-- A GROUP'S FRAGMENT: none of no atom, and one of some
formula_none : formula_of (entries_of []) ≡ []
unfolding formula_of entries_of kinds sort
formula_none = refl

kinds_some : (e : Entry) (es : List Entry) → 1 ≤ length (kinds (e ∷ es))
kinds_some e es = by (any (same_isotope e.kind) (kinds es)) refl
  where
    found : (is : List Isotope) → any (same_isotope e.kind) is ≡ true → 1 ≤ length is
    found [] h = torn (any (same_isotope e.kind) []) h (any_nil (same_isotope e.kind))
    found (i ∷ is) h = omega arith

    by : (t : Bool) → any (same_isotope e.kind) (kinds es) ≡ t → 1 ≤ length (kinds (e ∷ es))
    by true h = omega (arith, ap length (kinds_again e es h), found (kinds es) h)
    by false h = omega (arith, ap length (kinds_new e es h))

formula_long : (es : List Entry) → length (formula_of es) ≡ length (kinds es)
unfolding formula_of
formula_long es = map_length (λ i. counted (spelt i) (total i es)) (sort formula_before (kinds es)) ∙ perm_length (sort_perm formula_before (kinds es))

formula_some : (g : List Atom) → 1 ≤ length g → 1 ≤ length (formula_of (entries_of g))
formula_some [] h = absurd (omega (arith, h))
formula_some (a ∷ rest) h = by a.hydrogens refl
  where
    by : (m : ℕ) → a.hydrogens ≡ m → 1 ≤ length (formula_of (entries_of (a ∷ rest)))
    by zero e = omega (arith, ap (λ (es : List Entry). length (formula_of es)) (entries_bare a rest e), formula_long (entry a.kind 1 ∷ entries_of rest), kinds_some (entry a.kind 1) (entries_of rest))
    by (suc m) e =
        let es : List Entry = entry (isotope_of 1 0) (suc m) ∷ entries_of rest in
        omega (arith, ap (λ (l : List Entry). length (formula_of l)) (entries_implied a rest m e), formula_long (entry a.kind 1 ∷ es), kinds_some (entry a.kind 1) es)

fragment_some : (es : List Counted) → 1 ≤ length es → map entries_in (fragment es) ≡ es ∷ []
fragment_some [] h = absurd (omega (arith, h))
fragment_some (e ∷ es) h = refl

structure_linked : (k : ℕ) (s : Structure) → well_formed k s ≡ true → Linked (length s.atoms) s.bonds
unfolding rows_of
structure_linked k s ok = linked (length s.atoms) s.bonds ((fine_structure k s ok).rows Bonds).fine

module _ (k : ℕ) (s : Structure) (ok : well_formed k s ≡ true) where
  abbrev n : ℕ
  n = length s.atoms

  linked_is : Linked n s.bonds
  linked_is = structure_linked k s ok

  in_it : (a : ℕ) → AtomOf s a → (1 ≤ a) × (a ≤ n)
  in_it a h = within_true 1 n a h

  pub reach : (a : ℕ) → AtomOf s a → Joined s.bonds a (lowest_in s a)
  reach a h = linked_is.reach a (in_it a h).0 (in_it a h).1

  pub same_group_iff_path : (a b : ℕ) → AtomOf s a → AtomOf s b → (lowest_in s a ≡ lowest_in s b) exactly_when Joined s.bonds a b
  same_group_iff_path a b f g = (
    λ e. path_join s.bonds (subst (λ (i : ℕ). Joined s.bonds a i) e (reach a f)) (path_back s.bonds (reach b g)),
    λ p. path_same n s.bonds linked_is p,
  )

  pub lowest_of_group : (a : ℕ) → AtomOf s a → IsLowest s a
  lowest_of_group a f = record {
    of_group = reach a f;
    none_lower = λ b p. let q : (1 ≤ b) × (b ≤ n) = path_within n s.bonds linked_is p (in_it a f) in omega (arith, path_same n s.bonds linked_is p, linked_is.lows.high b q.0 q.1);
  }

  -- A GROUP IS EMPTY where its number is not the lowest of its own group
  group_there : (i : ℕ) → AtomOf s i → eqb (lowest_in s i) i ≡ true → 1 ≤ length (group_in s i)
  group_there i h e = group_some i (lowest n s.bonds) s.atoms (i - 1) (omega (arith, (in_it i h).0, (in_it i h).1, linked_is.lows.long)) (omega (arith, (in_it i h).0, (in_it i h).1)) (eqb-true (lowest_in s i) i e)

  group_gone : (i : ℕ) → AtomOf s i → eqb (lowest_in s i) i ≡ false → group_in s i ≡ []
  group_gone i h e = group_none i (lowest n s.bonds) s.atoms never
    where
      never : (j : ℕ) → j < length (lowest n s.bonds) → get_or (lowest n s.bonds) j 0 ≡ i → ⊥
      never j b f =
          let q : j < n = omega (arith, b, linked_is.lows.long) in
          let r : suc j - 1 ≡ j = omega arith in
          let own : lowest_in s (suc j) ≡ i = ap (λ (m : ℕ). get_or (lowest n s.bonds) m 0) r ∙ f in
          let same : lowest_in s (suc j) ≡ lowest_in s i = path_same n s.bonds linked_is (subst (λ (m : ℕ). Joined s.bonds (suc j) m) own (linked_is.reach (suc j) (omega arith) (omega (arith, q)))) in
          eqb-false (lowest_in s i) i e (sym same ∙ own)

  abbrev entries_at : ℕ → List Counted
  entries_at i = formula_of (entries_of (group_in s i))

  -- one of the atoms, and some of them in turn
  each_one : (i : ℕ) → AtomOf s i → map entries_in (fragment (entries_at i)) ≡ map entries_at (elim (eqb (lowest_in s i) i) as (λ (t : Bool). List ℕ) [ true ↦ i ∷ [] | false ↦ [] ])
  each_one i h = by (eqb (lowest_in s i) i) refl
    where
      by : (t : Bool) → eqb (lowest_in s i) i ≡ t → map entries_in (fragment (entries_at i)) ≡ map entries_at (elim t as (λ (u : Bool). List ℕ) [ true ↦ i ∷ [] | false ↦ [] ])
      by true e = fragment_some (entries_at i) (formula_some (group_in s i) (group_there i h e))
      by false e = ap (λ (g : List Atom). map entries_in (fragment (formula_of (entries_of g)))) (group_gone i h e) ∙ ap (λ (es : List Counted). map entries_in (fragment es)) formula_none

  each_of : (b m : ℕ) → 1 ≤ b → b + m ≤ suc n → map entries_in (flat (λ i. fragment (entries_at i)) (count_up b m)) ≡ map entries_at (flat (λ i. elim (eqb (lowest_in s i) i) [ true ↦ i ∷ [] | false ↦ [] ]) (count_up b m))
  unfolding count_up flat
  each_of b zero l h = refl
  each_of b (suc m) l h =
      map-append entries_in (fragment (entries_at b)) _ ∙ ap₂ (λ (x y : List (List Counted)). x ++ y) (each_one b (within_is 1 n b l (omega (arith, h)))) (each_of (suc b) m (omega arith) (omega (arith, h)))
      ∙ sym (map-append entries_at (elim (eqb (lowest_in s b) b) as (λ (t : Bool). List ℕ) [ true ↦ b ∷ [] | false ↦ [] ]) _)

  pub fragment_for_each_group : map entries_in (fragments s) ≡ map entries_at (lowest_atoms s)
  unfolding fragments groups
  fragment_for_each_group = ap (map entries_in) (flat_map (λ g. fragment (formula_of (entries_of g))) (group_in s) (count_up 1 n)) ∙ each_of 1 n (omega arith) (omega arith)

-- "the formula's total over all fragments equals the atoms listed": the formula as it is written, read again
pub fragments_total : (k : ℕ) (s : Structure) → k ≤ 103 → well_formed k s ≡ true → (i : Isotope) → total i (entries_as k (formula_shape (strip (valued (print_formula (fragments s)))))) ≡ total i (entries_of s.atoms)
fragments_total k s most ok i = ap (total i) (written_formula k s (fine_structure k s ok) most) ∙ all_totals k s (fine_structure k s ok) i
