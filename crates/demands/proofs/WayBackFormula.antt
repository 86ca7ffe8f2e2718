-- The way back, the formula: the formula of a well-formed structure's atoms can be printed, and its record is read as their totals by kind. Serves document 01,
-- demand 2; a total is at most 4,096, so within "an optional count 1 to 9,999". Assumes nothing.
use Prim.Native.Nat.{ℕ, zero, suc, ◌+◌, ◌*◌, ◌≤◌, ◌<◌}
use mathlib.Core.Path.{◌≡◌, refl, sym, ap, ◌∙◌, subst}
use mathlib.Core.Bool.{Bool, true, false, not, ◌&&◌}
use Rattle.std.specs.declared.option.Option.TheVariants.{Some}
use mathlib.Core.List.{List, [], ◌∷◌, ◌++◌, map, map-append}
use native.Mathlib.Omega.{arith}
use lib.ListN.{length}
use lib.Dec.{leb}
use borrow.Author.Tests.{le-leb, leb-true, not-true}
use Rattle.lists.specs.Lists.{share, is_nil, all, any, flat}
use Rattle.lists.specs.Order.{sort}
use Rattle.lists.proofs.Bools.{torn, and_parts, and_both, or_neither}
use Rattle.lists.proofs.ListLaws.{all_nil, all_parts, all_both, any_nil, any_hit, any_miss, any_later, any_append, any_all, all_imply, all_append_both}
use Rattle.lists.proofs.PartLaws.{all_map, any_map, flat_nil, flat_one, flat_cons, flat_append}
use Rattle.lists.proofs.SortLaws.{sort_all}
use Rattle.format.specs.Bytes.{Bytes, bytes, within, strip}
use Rattle.format.specs.Labels.{Holds, Formula, Label, label, misplaced}
use Rattle.format.specs.Formula.{Counted, counted, formula_shape}
use Rattle.format.specs.Structure.{Isotope, isotope_of, isotope, unknown, mass_ok, Atom, Entry, entry, entries_of, same_isotope, total, kinds, Structure, atom_ok}
use Rattle.format.specs.Reading.{Rules, State, Go, Prose, over, with_formula, formula_turn, value_turn}
use Rattle.format.specs.Writing.{spelt, formula_before, formula_of, Fragment, fragment, print_formula, valued}
use Rattle.format.proofs.ByteLaws.{within_is, within_true}
use Rattle.format.proofs.FieldLaws.{inline}
use Rattle.format.proofs.SymbolLaws.{isotope_back, known_back, spelt_mass, spelt_printable}
use Rattle.format.proofs.FormulaBack.{PrintableEntry, AllPrintable, AllPrint, entries_in, formula_inline, formula_value}
use Rattle.format.proofs.RowLaws.{FineAtom, atom_fine_lem}
use Rattle.format.proofs.TextLaws.{valued_allowed}
use Rattle.format.proofs.TotalLaws.{isotope_is, isotope_refl, total_nil, total_cons, total_some, kinds_nil, kinds_again, kinds_new, kinds_any, entries_bare, entries_implied, entries_counted}
use Rattle.demands.specs.Accepted.{entries_as}
use Rattle.demands.proofs.Groups.{FewOf}
use Rattle.demands.proofs.WayBackLines.{state_of, Through, through_line, record_full, inline_fine}
use Rattle.demands.proofs.WayBackLabels.{formula_label, formula_written, label_value}

-- A KIND THAT IS FINE: a known element, a mass in range
abbrev pub kind_ok : ℕ → Isotope → Bool
kind_ok k i = within 1 k i.element && leb i.mass 300

pub record FineKind (k : ℕ) (i : Isotope) : Type 0 where
  pub low : 1 ≤ i.element
  pub high : i.element ≤ k
  pub mass : i.mass ≤ 300

kind_fine : (k : ℕ) (i : Isotope) → kind_ok k i ≡ true → FineKind k i
kind_fine k i h =
    let p : (within 1 k i.element ≡ true) × (leb i.mass 300 ≡ true) = and_parts (within 1 k i.element) (leb i.mass 300) h in
    record { low = (within_true 1 k i.element p.0).0; high = (within_true 1 k i.element p.0).1; mass = leb-true i.mass 300 p.1 }

kind_ok_lem : (k : ℕ) (i : Isotope) → 1 ≤ i.element → i.element ≤ k → i.mass ≤ 300 → kind_ok k i ≡ true
kind_ok_lem k i a b c = and_both (within 1 k i.element) (leb i.mass 300) (within_is 1 k i.element a b) (le-leb i.mass 300 c)

-- what every entry's kind passes, every kind passes
kinds_all : (p : Isotope → Bool) (es : List Entry) → all (λ (e : Entry). p e.kind) es ≡ true → all p (kinds es) ≡ true
kinds_all p [] h = ap (all p) kinds_nil ∙ all_nil p
kinds_all p (e ∷ es) h = go (any (same_isotope e.kind) (kinds es)) refl (all_parts (λ (x : Entry). p x.kind) e es h) (kinds_all p es)
  where
    go : (t : Bool) → any (same_isotope e.kind) (kinds es) ≡ t → (p e.kind ≡ true) × (all (λ (x : Entry). p x.kind) es ≡ true) → (all (λ (x : Entry). p x.kind) es ≡ true → all p (kinds es) ≡ true)
        → all p (kinds (e ∷ es)) ≡ true
    go true f q ih = ap (all p) (kinds_again e es f) ∙ ih q.1
    go false f q ih = ap (all p) (kinds_new e es f) ∙ all_both p e.kind (kinds es) q.0 (ih q.1)

-- what each that stands among some passes, all of them pass
members_all : (p : Isotope → Bool) (ks : List Isotope) → ((i : Isotope) → any (same_isotope i) ks ≡ true → p i ≡ true) → all p ks ≡ true
members_all p [] h = all_nil p
members_all p (k ∷ ks) h = all_both p k ks (h k (any_hit (same_isotope k) k ks (isotope_refl k))) (members_all p ks (λ i q. h i (any_later (same_isotope i) k ks q)))

-- one that stands among some that pass
member_passes : (p : Isotope → Bool) (i : Isotope) (ks : List Isotope) → all p ks ≡ true → any (same_isotope i) ks ≡ true → p i ≡ true
member_passes p i [] h q = torn (any (same_isotope i) []) q (any_nil (same_isotope i))
member_passes p i (k ∷ ks) h q = go (same_isotope i k) refl (all_parts p k ks h) (member_passes p i ks)
  where
    go : (t : Bool) → same_isotope i k ≡ t → (p k ≡ true) × (all p ks ≡ true) → (all p ks ≡ true → any (same_isotope i) ks ≡ true → p i ≡ true) → p i ≡ true
    go true e r ih = ap p (isotope_is i k e) ∙ r.0
    go false e r ih = ih r.1 (sym (any_miss (same_isotope i) k ks e) ∙ q)

-- THE ATOMS: their kinds and totals
entries_fine : (k : ℕ) → 1 ≤ k → (rest : List Atom) → all (atom_ok k) rest ≡ true → all (λ (e : Entry). kind_ok k e.kind) (entries_of rest) ≡ true
unfolding entries_of
entries_fine k one [] h = all_nil (λ (e : Entry). kind_ok k e.kind)
entries_fine k one (a ∷ rest) h = go a.hydrogens refl (all_parts (atom_ok k) a rest h) (entries_fine k one rest)
  where
    test : Entry → Bool
    test e = kind_ok k e.kind

    go : (n : ℕ) → a.hydrogens ≡ n → (atom_ok k a ≡ true) × (all (atom_ok k) rest ≡ true) → (all (atom_ok k) rest ≡ true → all test (entries_of rest) ≡ true) → all test (entries_of (a ∷ rest)) ≡ true
    go zero e p ih =
        let F : FineAtom k a = atom_fine_lem k a p.0 in
        ap (all test) (entries_bare a rest e) ∙ all_both test (entry a.kind 1) (entries_of rest) (kind_ok_lem k a.kind F.low F.high F.mass) (ih p.1)
    go (suc m) e p ih =
        let F : FineAtom k a = atom_fine_lem k a p.0 in
        ap (all test) (entries_implied a rest m e)
        ∙ all_both test (entry a.kind 1) (entry (isotope_of 1 0) (suc m) ∷ entries_of rest) (kind_ok_lem k a.kind F.low F.high F.mass)
        (all_both test (entry (isotope_of 1 0) (suc m)) (entries_of rest) (kind_ok_lem k (isotope_of 1 0) (omega arith) one (omega arith)) (ih p.1))

share_le : (t : Bool) (n : ℕ) → share t n ≤ n
share_le true n = omega arith
share_le false n = omega arith

entries_total : (k : ℕ) (i : Isotope) (rest : List Atom) → all (atom_ok k) rest ≡ true → total i (entries_of rest) ≤ 16 * length rest
unfolding entries_of
entries_total k i [] h = omega (arith, total_nil i)
entries_total k i (a ∷ rest) h = go a.hydrogens refl (all_parts (atom_ok k) a rest h) (entries_total k i rest)
  where
    go : (n : ℕ) → a.hydrogens ≡ n → (atom_ok k a ≡ true) × (all (atom_ok k) rest ≡ true) → (all (atom_ok k) rest ≡ true → total i (entries_of rest) ≤ 16 * length rest) → total i (entries_of (a ∷ rest)) ≤ 16 * suc (length rest)
    go zero e p ih =
        omega (arith, ih p.1, ap (total i) (entries_bare a rest e), total_cons i (entry a.kind 1) (entries_of rest), share_le (same_isotope i a.kind) 1)
    go (suc m) e p ih =
        let F : FineAtom k a = atom_fine_lem k a p.0 in
        let hydrogen : Entry = entry (isotope_of 1 0) (suc m) in
        omega (arith, ih p.1, F.hydrogens, e, ap (total i) (entries_implied a rest m e), total_cons i (entry a.kind 1) (hydrogen ∷ entries_of rest), total_cons i hydrogen (entries_of rest), share_le (same_isotope i a.kind) 1, share_le (same_isotope i (isotope_of 1 0)) (suc m))

-- a kind's entry can be printed and is taken
abbrev kind_counted : ℕ → List Entry → Isotope → Bool
kind_counted k es i = kind_ok k i && within 1 9999 (total i es)

kinds_counted : (k : ℕ) → 1 ≤ k → (rest : List Atom) → length rest ≤ 256 → all (atom_ok k) rest ≡ true → all (kind_counted k (entries_of rest)) (kinds (entries_of rest)) ≡ true
kinds_counted k one rest few h =
    let es : List Entry = entries_of rest in
    members_all (kind_counted k es) (kinds es) (λ i q. and_both (kind_ok k i) (within 1 9999 (total i es)) (kind_at i q) (total_at i q))
  where
    kind_at : (i : Isotope) → any (same_isotope i) (kinds (entries_of rest)) ≡ true → kind_ok k i ≡ true
    kind_at i q = member_passes (kind_ok k) i (kinds (entries_of rest)) (kinds_all (kind_ok k) (entries_of rest) (entries_fine k one rest h)) q

    total_at : (i : Isotope) → any (same_isotope i) (kinds (entries_of rest)) ≡ true → within 1 9999 (total i (entries_of rest)) ≡ true
    total_at i q =
        within_is 1 9999 (total i (entries_of rest)) (total_some i (entries_of rest) (entries_counted rest) (sym (kinds_any i (entries_of rest)) ∙ q))
        (omega (arith, entries_total k i rest h, few))

-- SOME KINDS AS A FORMULA, in any order
module _ (k : ℕ) (most : k ≤ 103) (es : List Entry) where
  abbrev counted_as : Isotope → Counted
  counted_as i = counted (spelt i) (total i es)

  abbrev totalled : Isotope → Entry
  totalled i = entry i (total i es)

  kind_parts : (i : Isotope) → kind_counted k es i ≡ true → FineKind k i × (within 1 9999 (total i es) ≡ true)
  kind_parts i h = let p : (kind_ok k i ≡ true) × (within 1 9999 (total i es) ≡ true) = and_parts (kind_ok k i) (within 1 9999 (total i es)) h in (kind_fine k i p.0, p.1)

  printable_at : (i : Isotope) → kind_counted k es i ≡ true → PrintableEntry (counted_as i)
  printable_at i h =
      let p : FineKind k i × (within 1 9999 (total i es) ≡ true) = kind_parts i h in
      (spelt_printable i p.0.low (omega (arith, p.0.high)) (omega (arith, p.0.mass)), omega (arith, (within_true 1 9999 (total i es) p.1).1))

  printable_all : (ks : List Isotope) → all (kind_counted k es) ks ≡ true → AllPrintable (map counted_as ks)
  printable_all [] h = tt
  printable_all (i ∷ ks) h = let p : (kind_counted k es i ≡ true) × (all (kind_counted k es) ks ≡ true) = all_parts (kind_counted k es) i ks h in (printable_at i p.0, printable_all ks p.1)

  ranges : (ks : List Isotope) → all (kind_counted k es) ks ≡ true → all (λ (c : Counted). mass_ok c.symbol && within 1 9999 c.count) (map counted_as ks) ≡ true
  ranges ks h =
      all_map (λ (c : Counted). mass_ok c.symbol && within 1 9999 c.count) counted_as ks
      ∙ all_imply (kind_counted k es) (λ (i : Isotope). mass_ok (spelt i) && within 1 9999 (total i es))
      (λ i q. and_both (mass_ok (spelt i)) (within 1 9999 (total i es)) (spelt_mass i (kind_parts i q).0.low (omega (arith, (kind_parts i q).0.high)) (kind_parts i q).0.mass) (kind_parts i q).1) ks h

  knowns : (ks : List Isotope) → all (kind_counted k es) ks ≡ true → any (λ (c : Counted). unknown k c.symbol) (map counted_as ks) ≡ false
  knowns ks h =
      any_map (λ (c : Counted). unknown k c.symbol) counted_as ks
      ∙ not-true (any (λ (i : Isotope). unknown k (spelt i)) ks)
      (any_all (λ (i : Isotope). unknown k (spelt i)) ks
      ∙ all_imply (kind_counted k es) (λ (i : Isotope). not (unknown k (spelt i))) (λ i q. ap not (known_back k i (kind_parts i q).0.low (kind_parts i q).0.high most)) ks h)

  entries_back : (ks : List Isotope) → all (kind_counted k es) ks ≡ true → map (λ (c : Counted). entry (isotope k c.symbol) c.count) (map counted_as ks) ≡ map totalled ks
  entries_back [] h = refl
  entries_back (i ∷ ks) h =
      let p : (kind_counted k es i ≡ true) × (all (kind_counted k es) ks ≡ true) = all_parts (kind_counted k es) i ks h in
      let q : isotope k (spelt i) ≡ i = isotope_back k i (kind_parts i p.0).0.low (kind_parts i p.0).0.high most in
      ap (λ (j : Isotope). entry j (total i es) ∷ map (λ (c : Counted). entry (isotope k c.symbol) c.count) (map counted_as ks)) q
      ∙ ap (λ (l : List Entry). totalled i ∷ l) (entries_back ks p.1)

-- the atoms' kinds with their totals, as the formula has them
abbrev pub gathered : List Atom → List Entry
gathered atoms = map (λ j. entry j (total j (entries_of atoms))) (sort formula_before (kinds (entries_of atoms)))

-- GROUPS OF ATOMS: what each has is counted, and each fragment prints
module _ (k : ℕ) (most : k ≤ 103) (one : 1 ≤ k) where
  abbrev Groups : List (List Atom) → Type 0
  Groups gs = FewOf (atom_ok k) 256 gs

  abbrev counts_of : List Atom → List Counted
  counts_of g = formula_of (entries_of g)

  abbrev kinds_of : List Atom → List Isotope
  kinds_of g = sort formula_before (kinds (entries_of g))

  counted_all : (g : List Atom) → all (atom_ok k) g ≡ true → length g ≤ 256 → all (kind_counted k (entries_of g)) (kinds_of g) ≡ true
  counted_all g h few = sort_all formula_before (kind_counted k (entries_of g)) (kinds (entries_of g)) ∙ kinds_counted k one g few h

  abbrev fragments_of : List (List Atom) → List Fragment
  fragments_of gs = flat (λ g. fragment (counts_of g)) gs

  print_append : (fs gs : List Fragment) → AllPrint fs → AllPrint gs → AllPrint (fs ++ gs)
  print_append [] gs p q = q
  print_append (f ∷ fs) gs p q = (p.0, print_append fs gs p.1 q)

  fragment_prints : (cs : List Counted) → AllPrintable cs → AllPrint (fragment cs)
  fragment_prints [] p = tt
  fragment_prints (c ∷ cs) p = (p, tt)

  fragments_print : (gs : List (List Atom)) → Groups gs → AllPrint (fragments_of gs)
  unfolding formula_of
  fragments_print [] p = subst AllPrint (sym (flat_nil (λ g. fragment (counts_of g)))) tt
  fragments_print (g ∷ gs) p =
      subst AllPrint (sym (flat_cons (λ h. fragment (counts_of h)) g gs))
      (print_append (fragment (counts_of g)) (fragments_of gs) (fragment_prints (counts_of g) (printable_all k most (entries_of g) (kinds_of g) (counted_all g p.0.0 p.0.1))) (fragments_print gs p.1))

  -- the entries in order, group by group
  abbrev members : Fragment → List Counted
  members f = f.head ∷ f.tail

  entries_members : (f : Fragment) (fs : List Fragment) → entries_in f fs ≡ flat members (f ∷ fs)
  entries_members f [] = sym (flat_one members f)
  entries_members f (g ∷ gs) = ap (λ (r : List Counted). members f ++ r) (entries_members g gs) ∙ sym (flat_cons members f (g ∷ gs))

  fragment_members : (cs : List Counted) → flat members (fragment cs) ≡ cs
  fragment_members [] = flat_nil members
  fragment_members (c ∷ cs) = flat_one members (record { head = c; tail = cs })

  members_are : (gs : List (List Atom)) → flat members (fragments_of gs) ≡ flat counts_of gs
  members_are [] = ap (flat members) (flat_nil (λ g. fragment (counts_of g))) ∙ flat_nil members ∙ sym (flat_nil counts_of)
  members_are (g ∷ gs) =
      ap (flat members) (flat_cons (λ h. fragment (counts_of h)) g gs) ∙ flat_append members (fragment (counts_of g)) (fragments_of gs)
      ∙ ap (λ (r : List Counted). r ++ flat members (fragments_of gs)) (fragment_members (counts_of g)) ∙ ap (λ (r : List Counted). counts_of g ++ r) (members_are gs) ∙ sym (flat_cons counts_of g gs)

  formula_read : (fs : List Fragment) → AllPrint fs → 0 < length fs → formula_shape (strip (valued (print_formula fs))) ≡ Some (flat members fs)
  formula_read [] p n = absurd (omega (arith, n))
  formula_read (f ∷ fs) p n = formula_value f fs p.0 p.1 ∙ ap Some (entries_members f fs)

  formula_line : (fs : List Fragment) → AllPrint fs → all inline (print_formula fs) ≡ true
  formula_line [] p = all_nil inline
  formula_line (f ∷ fs) p = formula_inline f fs [] p.0 p.1 (all_nil inline)

  -- what is printed is in range and known, and stands for what the groups have
  groups_ranged : (gs : List (List Atom)) → Groups gs → all (λ (c : Counted). mass_ok c.symbol && within 1 9999 c.count) (flat counts_of gs) ≡ true
  unfolding formula_of
  groups_ranged [] p = ap (all (λ (c : Counted). mass_ok c.symbol && within 1 9999 c.count)) (flat_nil counts_of) ∙ all_nil _
  groups_ranged (g ∷ gs) p =
      ap (all (λ (c : Counted). mass_ok c.symbol && within 1 9999 c.count)) (flat_cons counts_of g gs)
      ∙ all_append_both (λ (c : Counted). mass_ok c.symbol && within 1 9999 c.count) (counts_of g) (flat counts_of gs) (ranges k most (entries_of g) (kinds_of g) (counted_all g p.0.0 p.0.1)) (groups_ranged gs p.1)

  groups_known : (gs : List (List Atom)) → Groups gs → any (λ (c : Counted). unknown k c.symbol) (flat counts_of gs) ≡ false
  unfolding formula_of
  groups_known [] p = ap (any (λ (c : Counted). unknown k c.symbol)) (flat_nil counts_of) ∙ any_nil _
  groups_known (g ∷ gs) p =
      ap (any (λ (c : Counted). unknown k c.symbol)) (flat_cons counts_of g gs) ∙ any_append (λ (c : Counted). unknown k c.symbol) (counts_of g) (flat counts_of gs)
      ∙ or_neither _ _ (knowns k most (entries_of g) (kinds_of g) (counted_all g p.0.0 p.0.1)) (groups_known gs p.1)

  groups_back : (gs : List (List Atom)) → Groups gs → map (λ (c : Counted). entry (isotope k c.symbol) c.count) (flat counts_of gs) ≡ flat gathered gs
  unfolding formula_of
  groups_back [] p = ap (map (λ (c : Counted). entry (isotope k c.symbol) c.count)) (flat_nil counts_of) ∙ sym (flat_nil gathered)
  groups_back (g ∷ gs) p =
      ap (map (λ (c : Counted). entry (isotope k c.symbol) c.count)) (flat_cons counts_of g gs) ∙ map-append (λ (c : Counted). entry (isotope k c.symbol) c.count) (counts_of g) (flat counts_of gs)
      ∙ ap (λ (r : List Entry). r ++ map (λ (c : Counted). entry (isotope k c.symbol) c.count) (flat counts_of gs)) (entries_back k most (entries_of g) (kinds_of g) (counted_all g p.0.0 p.0.1))
      ∙ ap (λ (r : List Entry). gathered g ++ r) (groups_back gs p.1) ∙ sym (flat_cons gathered g gs)

  -- A FORMULA WITH A TOTAL is not without a fragment
  pub some_fragment : (gs : List (List Atom)) → Groups gs → (i : Isotope) → 0 < total i (flat gathered gs) → 0 < length (fragments_of gs)
  some_fragment gs p i h = by (fragments_of gs) refl
    where
      by : (fs : List Fragment) → fragments_of gs ≡ fs → 0 < length (fragments_of gs)
      by [] e =
          let q : flat gathered gs ≡ [] = sym (groups_back gs p) ∙ ap (map (λ (c : Counted). entry (isotope k c.symbol) c.count)) (sym (members_are gs) ∙ ap (flat members) e ∙ flat_nil members) in
          absurd (omega (arith, h, ap (total i) q, total_nil i))
      by (f ∷ fs) e = omega (arith, ap length e)

  pub formula_told : (gs : List (List Atom)) → Groups gs → 0 < length (fragments_of gs) → entries_as k (formula_shape (strip (valued (print_formula (fragments_of gs))))) ≡ flat gathered gs
  formula_told gs p n = ap (entries_as k) (formula_read (fragments_of gs) (fragments_print gs p) n ∙ ap Some (members_are gs)) ∙ groups_back gs p

  pub formula_taken : (st : State) (gs : List (List Atom)) → Groups gs → 0 < length (fragments_of gs) → formula_turn k st (formula_shape (strip (valued (print_formula (fragments_of gs))))) ≡ Go (with_formula st (flat gathered gs))
  unfolding formula_turn
  formula_taken st gs p n =
      ap (formula_turn k st) (formula_read (fragments_of gs) (fragments_print gs p) n ∙ ap Some (members_are gs))
      ∙ rw (groups_ranged gs p, groups_known gs p) (ap (λ (l : List Entry). Go (with_formula st l)) (groups_back gs p))

-- THE RECORD of the groups' formula
pub formula_through : (u : Rules) (at : ℕ) (seen : List Label) (running : Holds) (texts : List Prose) (f : List Entry) (s : Structure) (gs : List (List Atom)) (most : u.elements ≤ 103) (one : 1 ≤ u.elements) →
    FewOf (atom_ok u.elements) 256 gs → (i : Isotope) → 0 < total i (flat gathered gs) → is_nil seen ≡ false → misplaced seen formula_label ≡ false → over running ≡ false →
    Through u (state_of at seen running texts f s) (bytes "##MOLFORM=" ++ valued (print_formula (flat (λ g. fragment (formula_of (entries_of g))) gs)))
    (state_of (at + length (bytes "##MOLFORM=" ++ valued (print_formula (flat (λ g. fragment (formula_of (entries_of g))) gs)))) (formula_label ∷ seen) Formula texts (flat gathered gs) s)
unfolding value_turn label
formula_through u at seen running texts f s gs most one ok i filled begun m o =
    let k : ℕ = u.elements in
    let v : Bytes = print_formula (flat (λ g. fragment (formula_of (entries_of g))) gs) in
    let n : 0 < length (flat (λ g. fragment (formula_of (entries_of g))) gs) = some_fragment k most one gs ok i filled in
    let l : all inline v ≡ true = formula_line k most one (flat (λ g. fragment (formula_of (entries_of g))) gs) (fragments_print k most one gs ok) in
    let before : State = state_of at seen running texts f s in
    let st : State = state_of at (formula_label ∷ seen) Formula texts f s in
    through_line u before (state_of at (formula_label ∷ seen) Formula texts (flat gathered gs) s) (bytes "##MOLFORM=" ++ valued v) (record_full (bytes "##MOLFORM=") v formula_written.one l)
    (label_value u before (bytes "##MOLFORM=") formula_label formula_written begun m o Formula refl refl (valued v) (valued_allowed v (inline_fine v l)) ∙ formula_taken k most one st gs ok n)
