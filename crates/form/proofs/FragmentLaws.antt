-- Groups printed one after another are the definition's fragments: document 02, L1 ("one fragment for each group of atoms .., parted by ` * `"). Assumes nothing.
use Prim.Native.Nat.{ℕ, suc, ◌/◌, ◌%◌, ◌<◌}
use mathlib.Core.Path.{◌≡◌, refl, sym, ap, ap₂, ◌∙◌}
use mathlib.Core.Bool.{true}
use mathlib.Core.List.{List, [], ◌∷◌, ◌++◌, map, append_assoc}
use native.Mathlib.Omega.{arith}
use lib.ListN.{length, get_or, length-append}
use Rattle.lists.specs.Lists.{all, flat}
use Rattle.lists.proofs.ListLaws.{all_parts}
use Rattle.lists.proofs.PartLaws.{flat_nil, flat_cons}
use Rattle.format.specs.Bytes.{Bytes, bytes}
use Rattle.format.specs.Formula.{Counted, counted}
use Rattle.format.specs.Structure.{Isotope, isotope_of, Atom, Entry, entries_of, total, atom_ok, letters}
use Rattle.format.specs.Writing.{spelt, print_mass, print_sym, formula_of, print_count, print_entry, Fragment, fragment, print_fragment, print_fragments, print_formula, valued, print_record}
use Rattle.tally.specs.Ranks.{element_of, key_of, fine}
use Rattle.tally.specs.declared.entries.Entry.{Entry as Tallied}
use Rattle.tally.specs.Gathering.{keys_in, counts_in, in_formula, in_group, group_keys, group_counts, Gathered, entry_of}
use Rattle.tally.proofs.KeyLaws.{key_high, key_back}
use Rattle.tally.proofs.FormulaLaws.{formula_fine_lem}
use Rattle.tally.proofs.AtomLaws.{entries_fine}
use Rattle.printing.specs.Printing.{Printed}
use Rattle.printing.specs.declared.Sheet.{Sheet}
use Rattle.printing.proofs.PrintLaws.{printed_then, printed_as}
use Rattle.form.specs.Entries.{parted, pieces, first_group, entries_text, fragments_of, FormulaLaid}
use Rattle.form.proofs.EntryLaws.{parted_same, parted_other}
use Rattle.form.proofs.RecordLaws.{valued_none, valued_some}

-- ENTRIES by their keys and counts
unfoldable pub pieces_by : (before : ℕ) → (keys counts : List ℕ) → Bytes
pieces_by g [] ns = []
pieces_by g (k ∷ ks) [] = []
pieces_by g (k ∷ ks) (n ∷ ns) = (parted g (k / 65536) ++ print_entry (entry_of (k % 65536) n)) ++ pieces_by (k / 65536) ks ns

pieces_are : (g : ℕ) (es : List Tallied) → pieces g es ≡ pieces_by g (keys_in es) (counts_in es)
unfolding pieces pieces_by
pieces_are g [] = refl
pieces_are g (e ∷ es) = ap (λ (v : Bytes). (parted g (e.key / 65536) ++ print_entry (entry_of (e.key % 65536) e.count)) ++ v) (pieces_are (e.key / 65536) es)

-- A GROUP'S ENTRIES behind its first
abbrev spaced_text : List Counted → Bytes
spaced_text es = flat (λ e. 32 ∷ print_entry e) es

abbrev starred_text : List (List Counted) → Bytes
starred_text [] = []
starred_text ([] ∷ ess) = starred_text ess
starred_text ((e ∷ es) ∷ ess) = 32 ∷ 42 ∷ 32 ∷ (print_entry e ++ (spaced_text es ++ starred_text ess))

abbrev first_text : List (List Counted) → Bytes
first_text [] = []
first_text ([] ∷ ess) = first_text ess
first_text ((e ∷ es) ∷ ess) = 32 ∷ (print_entry e ++ (spaced_text es ++ starred_text ess))

-- an entry's key in its group
module _ (j : ℕ) (i : Isotope) (h : fine i ≡ true) where
  group_of : in_group j (key_of i) / 65536 ≡ j
  group_of = omega (arith, key_high i h)

  key_in : in_group j (key_of i) % 65536 ≡ key_of i
  key_in = omega (arith, key_high i h)

  pub entry_in : (n : ℕ) → entry_of (in_group j (key_of i) % 65536) n ≡ counted (spelt i) n
  unfolding entry_of
  entry_in n = ap (λ (k : ℕ). counted (spelt (isotope_of (element_of (k / 512)) (k % 512))) n) key_in ∙ ap (λ (x : Isotope). counted (spelt x) n) (key_back i h)

module _ (j : ℕ) (es : List Entry) (ks ns : List ℕ) where
  abbrev as_counted : Isotope → Counted
  as_counted i = counted (spelt i) (total i es)

  abbrev as_key : Isotope → ℕ
  as_key i = in_group j (key_of i)

  -- one entry of the group, the one before in group g
  one_piece : (g : ℕ) (i : Isotope) → fine i ≡ true → (xs ys : List ℕ) → pieces_by g (as_key i ∷ xs) (total i es ∷ ys) ≡ (parted g j ++ print_entry (as_counted i)) ++ pieces_by j xs ys
  unfolding pieces_by
  one_piece g i h xs ys =
      ap₂ (λ (x : ℕ) (e : Counted). (parted g x ++ print_entry e) ++ pieces_by x xs ys) (group_of j i h) (entry_in j i h (total i es))

  group_pieces : (is : List Isotope) → all fine is ≡ true → pieces_by j (map as_key is ++ ks) (map (λ i. total i es) is ++ ns) ≡ spaced_text (map as_counted is) ++ pieces_by j ks ns
  group_pieces [] h = ap (λ (v : Bytes). v ++ pieces_by j ks ns) (sym (flat_nil (λ e. 32 ∷ print_entry e)))
  group_pieces (i ∷ is) h =
      let p = all_parts fine i is h in
      one_piece j i p.0 (map as_key is ++ ks) (map (λ x. total x es) is ++ ns)
      ∙ ap₂ (λ (v w : Bytes). (v ++ print_entry (as_counted i)) ++ w) (sym (parted_same j j refl)) (group_pieces is p.1)
      ∙ sym (append_assoc (32 ∷ print_entry (as_counted i)) (spaced_text (map as_counted is)) (pieces_by j ks ns)) ∙ ap (λ (v : Bytes). v ++ pieces_by j ks ns) (sym (flat_cons (λ e. 32 ∷ print_entry e) (as_counted i) (map as_counted is)))

  -- and all of it, parted from another group
  pub whole_pieces : (g : ℕ) (i : Isotope) (is : List Isotope) → all fine (i ∷ is) ≡ true
      → pieces_by g (map as_key (i ∷ is) ++ ks) (map (λ x. total x es) (i ∷ is) ++ ns) ≡ parted g j ++ (print_entry (as_counted i) ++ (spaced_text (map as_counted is) ++ pieces_by j ks ns))
  whole_pieces g i is h =
      let p = all_parts fine i is h in
      one_piece g i p.0 (map as_key is ++ ks) (map (λ x. total x es) is ++ ns) ∙ ap (λ (v : Bytes). (parted g j ++ print_entry (as_counted i)) ++ v) (group_pieces is p.1)
      ∙ append_assoc (parted g j) (print_entry (as_counted i)) (spaced_text (map as_counted is) ++ pieces_by j ks ns)

-- GROUP AFTER GROUP
abbrev formulas : List (List Atom) → List (List Counted)
formulas gs = map (λ g. formula_of (entries_of g)) gs

abbrev KindsOk : List (List Atom) → Type 0
KindsOk gs = all (all (atom_ok 103)) gs ≡ true

module _ (g : List Atom) (h : all (atom_ok 103) g ≡ true) where
  own_fine : all fine (in_formula g) ≡ true
  unfolding in_formula
  own_fine = formula_fine_lem (entries_of g) (entries_fine g h)

  formula_is : (is : List Isotope) → in_formula g ≡ is → formula_of (entries_of g) ≡ map (λ i. counted (spelt i) (total i (entries_of g))) is
  unfolding formula_of in_formula
  formula_is is e = ap (map (λ i. counted (spelt i) (total i (entries_of g)))) e

  keys_of : (j : ℕ) (gs : List (List Atom)) (is : List Isotope) → in_formula g ≡ is → group_keys j (g ∷ gs) ≡ map (λ i. in_group j (key_of i)) is ++ group_keys (suc j) gs
  unfolding group_keys
  keys_of j gs is e = ap (λ (l : List Isotope). map (λ i. in_group j (key_of i)) l ++ group_keys (suc j) gs) e

  counts_of_lem : (gs : List (List Atom)) (is : List Isotope) → in_formula g ≡ is → group_counts (g ∷ gs) ≡ map (λ i. total i (entries_of g)) is ++ group_counts gs
  unfolding group_counts
  counts_of_lem gs is e = flat_cons (λ x. map (λ i. total i (entries_of x)) (in_formula x)) g gs ∙ ap (λ (l : List Isotope). map (λ i. total i (entries_of g)) l ++ group_counts gs) e

behind_pieces : (p j : ℕ) → p < j → (gs : List (List Atom)) → KindsOk gs → pieces_by p (group_keys j gs) (group_counts gs) ≡ starred_text (formulas gs)
unfolding group_keys pieces_by
behind_pieces p j h [] ok = refl
behind_pieces p j h (g ∷ gs) ok = let q = all_parts (all (atom_ok 103)) g gs ok in by (in_formula g) refl q.0 (behind_pieces p (suc j) (omega arith) gs q.1) (behind_pieces j (suc j) (omega arith) gs q.1)
  where
    by : (is : List Isotope) → in_formula g ≡ is → all (atom_ok 103) g ≡ true → pieces_by p (group_keys (suc j) gs) (group_counts gs) ≡ starred_text (formulas gs) → pieces_by j (group_keys (suc j) gs) (group_counts gs) ≡ starred_text (formulas gs)
        → pieces_by p (group_keys j (g ∷ gs)) (group_counts (g ∷ gs)) ≡ starred_text (formulas (g ∷ gs))
    by [] e f ih jh = ap₂ (pieces_by p) (keys_of g f j gs [] e) (counts_of_lem g f gs [] e) ∙ ih ∙ ap (λ (es : List Counted). starred_text (es ∷ formulas gs)) (sym (formula_is g f [] e))
    by (i ∷ is) e f ih jh =
        ap₂ (pieces_by p) (keys_of g f j gs (i ∷ is) e) (counts_of_lem g f gs (i ∷ is) e)
        ∙ whole_pieces j (entries_of g) (group_keys (suc j) gs) (group_counts gs) p i is (ap (all fine) (sym e) ∙ own_fine g f)
        ∙ ap₂ (λ (v w : Bytes). v ++ (print_entry (counted (spelt i) (total i (entries_of g))) ++ (spaced_text (map (λ x. counted (spelt x) (total x (entries_of g))) is) ++ w))) (sym (parted_other p j (λ z. omega arith))) jh
        ∙ ap (λ (es : List Counted). starred_text (es ∷ formulas gs)) (sym (formula_is g f (i ∷ is) e))

abbrev from : List ℕ → List ℕ → Bytes
from ks ns = pieces_by (get_or ks 0 0 / 65536) ks ns

first_pieces : (j : ℕ) (gs : List (List Atom)) → KindsOk gs → pieces_by (get_or (group_keys j gs) 0 0 / 65536) (group_keys j gs) (group_counts gs) ≡ first_text (formulas gs)
unfolding group_keys pieces_by
first_pieces j [] ok = refl
first_pieces j (g ∷ gs) ok = let q = all_parts (all (atom_ok 103)) g gs ok in by (in_formula g) refl q.0 (first_pieces (suc j) gs q.1) (behind_pieces j (suc j) (omega arith) gs q.1)
  where
    by : (is : List Isotope) → in_formula g ≡ is → all (atom_ok 103) g ≡ true → from (group_keys (suc j) gs) (group_counts gs) ≡ first_text (formulas gs) → pieces_by j (group_keys (suc j) gs) (group_counts gs) ≡ starred_text (formulas gs)
        → from (group_keys j (g ∷ gs)) (group_counts (g ∷ gs)) ≡ first_text (formulas (g ∷ gs))
    by [] e f ih jh = ap₂ from (keys_of g f j gs [] e) (counts_of_lem g f gs [] e) ∙ ih ∙ ap (λ (es : List Counted). first_text (es ∷ formulas gs)) (sym (formula_is g f [] e))
    by (i ∷ is) e f ih jh =
        let ks : List ℕ = map (λ x. in_group j (key_of x)) (i ∷ is) ++ group_keys (suc j) gs in
        let ns : List ℕ = map (λ x. total x (entries_of g)) (i ∷ is) ++ group_counts gs in
        let o : all fine (i ∷ is) ≡ true = ap (all fine) (sym e) ∙ own_fine g f in
        ap₂ from (keys_of g f j gs (i ∷ is) e) (counts_of_lem g f gs (i ∷ is) e)
        ∙ ap (λ (x : ℕ). pieces_by x ks ns) (group_of j i (all_parts fine i is o).0)
        ∙ whole_pieces j (entries_of g) (group_keys (suc j) gs) (group_counts gs) j i is o
        ∙ ap₂ (λ (v w : Bytes). v ++ (print_entry (counted (spelt i) (total i (entries_of g))) ++ (spaced_text (map (λ x. counted (spelt x) (total x (entries_of g))) is) ++ w))) (sym (parted_same j j refl)) jh
        ∙ ap (λ (es : List Counted). first_text (es ∷ formulas gs)) (sym (formula_is g f (i ∷ is) e))

-- FRAGMENTS
fragment_text : (e : Counted) (es : List Counted) (rest : Bytes) → print_fragment e es rest ≡ print_entry e ++ (spaced_text es ++ rest)
unfolding print_fragment
fragment_text e [] rest = ap (λ (v : Bytes). print_entry e ++ (v ++ rest)) (sym (flat_nil (λ x. 32 ∷ print_entry x)))
fragment_text e (f ∷ fs) rest =
    ap (λ (v : Bytes). print_entry e ++ (32 ∷ v)) (fragment_text f fs rest) ∙ ap (λ (v : Bytes). print_entry e ++ v) (sym (append_assoc (32 ∷ print_entry f) (spaced_text fs) rest))
    ∙ sym (ap (λ (v : Bytes). print_entry e ++ (v ++ rest)) (flat_cons (λ x. 32 ∷ print_entry x) f fs))

abbrev framed : Counted → List Counted → Fragment
framed e es = record { head = e; tail = es }

fragments_text : (e : Counted) (es : List Counted) (ess : List (List Counted)) → print_fragments (framed e es) (flat fragment ess) [] ≡ print_entry e ++ (spaced_text es ++ starred_text ess)
unfolding print_fragments
fragments_text e es [] = ap (λ (fs : List Fragment). print_fragments (framed e es) fs []) (flat_nil fragment) ∙ fragment_text e es []
fragments_text e es ([] ∷ ess) = ap (λ (fs : List Fragment). print_fragments (framed e es) fs []) (flat_cons fragment [] ess) ∙ fragments_text e es ess
fragments_text e es ((f ∷ fs) ∷ ess) =
    ap (λ (xs : List Fragment). print_fragments (framed e es) xs []) (flat_cons fragment (f ∷ fs) ess) ∙ fragment_text e es (32 ∷ 42 ∷ 32 ∷ print_fragments (framed f fs) (flat fragment ess) [])
    ∙ ap (λ (v : Bytes). print_entry e ++ (spaced_text es ++ (32 ∷ 42 ∷ 32 ∷ v))) (fragments_text f fs ess)

entry_some : (e : Counted) (v : Bytes) → length (print_entry e ++ v) ≡ 0 → ⊥
unfolding print_entry print_sym
entry_some e v h =
    omega (
      arith,
      h,
      length-append (print_entry e) v,
      length-append (print_sym e.symbol) (print_count e.count),
      length-append (print_mass e.symbol.caret e.symbol.mass) (letters e.symbol),
    )

value_is : (ess : List (List Counted)) → first_text ess ++ (10 ∷ []) ≡ valued (print_formula (flat fragment ess))
value_is [] = valued_none [] refl ∙ ap (λ (fs : List Fragment). valued (print_formula fs)) (sym (flat_nil fragment))
value_is ([] ∷ ess) = value_is ess ∙ ap (λ (fs : List Fragment). valued (print_formula fs)) (sym (flat_cons fragment [] ess))
value_is ((e ∷ es) ∷ ess) =
    valued_some (print_entry e ++ (spaced_text es ++ starred_text ess)) (entry_some e (spaced_text es ++ starred_text ess)) ∙ ap valued (sym (fragments_text e es ess))
    ∙ ap (λ (fs : List Fragment). valued (print_formula fs)) (sym (flat_cons fragment (e ∷ es) ess))

flat_formulas : (gs : List (List Atom)) → flat fragment (formulas gs) ≡ fragments_of gs
unfolding flat
flat_formulas [] = refl
flat_formulas (g ∷ gs) = ap (λ (fs : List Fragment). fragment (formula_of (entries_of g)) ++ fs) (flat_formulas gs)

-- WHAT WAS GATHERED, printed
gathered_text : (es : List Tallied) (gs : List (List Atom)) → KindsOk gs → Gathered gs es → entries_text es ≡ first_text (formulas gs)
gathered_text es gs ok g =
    pieces_are (first_group es) es ∙ ap₂ (λ (ks ns : List ℕ). pieces_by (get_or ks 0 0 / 65536) ks ns) g.sorted g.totals ∙ first_pieces 0 gs ok

pub formula_laid : {s₀ s₁ s₂ s₃ : Sheet} (es : List Tallied)
    → Printed s₀ (bytes "##MOLFORM=") s₁ → Printed s₁ (entries_text es) s₂ → Printed s₂ (10 ∷ []) s₃ → FormulaLaid es s₀ s₃
unfolding print_record
formula_laid es p q s gs ok g =
    printed_as (ap (λ (v : Bytes). bytes "##MOLFORM=" ++ v) (ap (λ (v : Bytes). v ++ (10 ∷ [])) (gathered_text es gs ok g) ∙ value_is (formulas gs) ∙ ap (λ (fs : List Fragment). valued (print_formula fs)) (flat_formulas gs)))
    (printed_then p (printed_then q s))
