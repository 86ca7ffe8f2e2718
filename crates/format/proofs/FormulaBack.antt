-- A printed formula is read as its entries: document 01, "The one written form" ("counts of 1 left out, no `/`") read by "Rows" (MOLFORM). For any list of
-- fragments that is not empty; a fragment is not empty by its form. Assumes nothing.
use Prim.Native.Nat.{ℕ, zero, suc, ◌+◌, ◌-◌, ◌*◌, ◌≤◌, ◌<◌}
use mathlib.Core.Path.{◌≡◌, refl, sym, ap, ◌∙◌}
use mathlib.Core.Bool.{Bool, true, false, ◌||◌}
use Rattle.std.specs.declared.option.Option.{Option}
use Rattle.std.specs.declared.option.Option.TheVariants.{Some}
use mathlib.Core.List.{List, [], ◌∷◌, ◌++◌, append_assoc, append-nil}
use native.Mathlib.Omega.{arith}
use lib.ListN.{length, length-append}
use lib.Dec.{eqb}
use borrow.Author.Tests.{eqb-true}
use Rattle.lists.specs.Lists.{all}
use Rattle.lists.proofs.ListLaws.{all_parts, all_both, all_append_both, all_nil}
use Rattle.format.specs.Bytes.{Bytes, within, blank, gap, strip}
use Rattle.format.specs.Rows.{digit, upper, lower, Sym, sym_of}
use Rattle.format.specs.Formula.{Counted, counted, FState, between, at_caret, in_mass, at_one, at_two, in_count, still, tells, join, fstep, frun, formula_shape}
use Rattle.format.specs.Structure.{letters}
use Rattle.format.specs.Writing.{digits, print_mass, print_sym, print_count, print_entry, Fragment, print_fragment, print_fragments, fragment, print_formula, valued}
use Rattle.format.proofs.ByteLaws.{upper_digit, digit_lower}
use Rattle.format.proofs.FieldLaws.{printed, inline, printed_inline, strip_value, valued_is}
use Rattle.format.proofs.NumberLaws.{value, value_first, printed_number, number_few, number_value, digits_printed}
use Rattle.format.proofs.SymbolLaws.{Printable, second_lower, symbol_printed, symbol_some}
use Rattle.format.proofs.FormulaLaws.{part_gap, leave_part, count_or_digit, count_or_other, between_upper, between_caret, between_gap, between_star, caret_digit, mass_digit, mass_upper, one_lower, one_other, two_is, count_digit, count_other, join_join, run_nil, run_goes, run_tells, formula_is}

-- A BYTE THAT PARTS ENTRIES: 32 and 10 are such
pub record Sep (g : ℕ) : Type 0 where
  pub is_gap : gap g ≡ true
  pub not_upper : upper g ≡ false
  pub not_lower : lower g ≡ false
  pub not_digit : digit g ≡ false
  pub not_slash : eqb g 47 ≡ false

sep32 : Sep 32
unfolding gap blank within
sep32 = record { is_gap = refl; not_upper = refl; not_lower = refl; not_digit = refl; not_slash = refl }

sep10 : Sep 10
unfolding gap blank within
sep10 = record { is_gap = refl; not_upper = refl; not_lower = refl; not_digit = refl; not_slash = refl }

pub one_digit : (c : Bool) (m a d : ℕ) → digit d ≡ true → fstep (at_one c m a) d ≡ still (in_count (sym_of c m a 0) 1 (d - 48))
one_digit c m a d e = one_other c m a d (digit_lower d e) ∙ count_or_digit (sym_of c m a 0) d _ e

pub two_digit : (x : Sym) (d : ℕ) → digit d ≡ true → fstep (at_two x) d ≡ still (in_count x 1 (d - 48))
two_digit x d e = two_is x d ∙ count_or_digit x d _ e

one_sep : (c : Bool) (m a g : ℕ) → Sep g → fstep (at_one c m a) g ≡ tells (counted (sym_of c m a 0) 1) (between true)
one_sep c m a g s = one_other c m a g s.not_lower ∙ count_or_other (sym_of c m a 0) g _ s.not_digit s.not_slash ∙ part_gap _ g s.is_gap

two_sep : (x : Sym) (g : ℕ) → Sep g → fstep (at_two x) g ≡ tells (counted x 1) (between true)
two_sep x g s = two_is x g ∙ count_or_other x g _ s.not_digit s.not_slash ∙ leave_part (counted x 1) g s.not_upper ∙ part_gap (counted x 1) g s.is_gap

count_sep : (x : Sym) (n v g : ℕ) → Sep g → fstep (in_count x n v) g ≡ tells (counted x v) (between true)
count_sep x n v g s = count_other x n v g s.not_digit ∙ leave_part (counted x v) g s.not_upper ∙ part_gap (counted x v) g s.is_gap

-- RUNS of digits, up to what ends them
mass_run : (n v : ℕ) (w : Bytes) (a : ℕ) (t : Bytes) → all digit w ≡ true → n + length w ≤ 3 → upper a ≡ true → frun (in_mass n v) (w ++ (a ∷ t)) ≡ frun (at_one true (value v w) a) t
unfolding value
mass_run n v [] a t h l u = run_goes _ _ a t (mass_upper n v a (upper_digit a u) u)
mass_run n v (d ∷ w) a t h l u =
    run_goes _ _ d _ (mass_digit n v d (all_parts digit d w h).0 (omega arith)) ∙ mass_run (suc n) (v * 10 + (d - 48)) w a t (all_parts digit d w h).1 (omega arith) u

-- what an entry leaves: it, and the run behind it
abbrev told : Counted → Bytes → Option (List Counted)
told e t = join (e ∷ []) (frun (between true) t)

count_run : (x : Sym) (n v : ℕ) (w : Bytes) (g : ℕ) (t : Bytes) → all digit w ≡ true → n + length w ≤ 6 → Sep g → frun (in_count x n v) (w ++ (g ∷ t)) ≡ told (counted x (value v w)) t
unfolding value
count_run x n v [] g t h l s = run_tells _ _ _ g t (count_sep x n v g s)
count_run x n v (d ∷ w) g t h l s =
    run_goes _ _ d _ (count_digit x n v d (all_parts digit d w h).0 (omega arith)) ∙ count_run x (suc n) (v * 10 + (d - 48)) w g t (all_parts digit d w h).1 (omega arith) s

-- a count, from any state that a digit leads into it
number_run : (q : FState) (x : Sym) → ((d : ℕ) → digit d ≡ true → fstep q d ≡ still (in_count x 1 (d - 48))) → (w : Bytes) → all digit w ≡ true → 0 < length w → length w ≤ 6 → (g : ℕ) (t : Bytes) → Sep g
    → frun q (w ++ (g ∷ t)) ≡ told (counted x (value 0 w)) t
number_run q x f [] h m l g t s = absurd (omega arith)
number_run q x f (d ∷ w) h m l g t s =
    run_goes q _ d _ (f d (all_parts digit d w h).0) ∙ count_run x 1 (d - 48) w g t (all_parts digit d w h).1 (omega arith) s ∙ ap (λ (v : ℕ). told (counted x v) t) (sym (value_first d w))

-- AN ENTRY: mass and first letter
pub mass_start : (w : Bytes) (a : ℕ) (t : Bytes) → all digit w ≡ true → 0 < length w → length w ≤ 3 → upper a ≡ true → frun at_caret (w ++ (a ∷ t)) ≡ frun (at_one true (value 0 w) a) t
mass_start [] a t h m l u = absurd (omega arith)
mass_start (d ∷ w) a t h m l u =
    run_goes at_caret _ d _ (caret_digit d (all_parts digit d w h).0) ∙ mass_run 1 (d - 48) w a t (all_parts digit d w h).1 (omega arith) u ∙ ap (λ (v : ℕ). frun (at_one true v a) t) (sym (value_first d w))

start_back : (x c : Bool) (m a : ℕ) (t : Bytes) → upper a ≡ true → (c || eqb m 0) ≡ true → m < 1000 → frun (between x) (print_mass c m ++ (a ∷ t)) ≡ frun (at_one c m a) t
unfolding within
start_back x false m a t u z b = run_goes _ _ a t (between_upper x a u) ∙ ap (λ (n : ℕ). frun (at_one false n a) t) (sym (eqb-true m 0 z))
start_back x true m a t u z b =
    run_goes (between x) at_caret 94 _ (between_caret x 94 refl refl)
    ∙ mass_start (digits m) a t (printed_number m).digits (printed_number m).some (number_few 2 m b) u
    ∙ ap (λ (n : ℕ). frun (at_one true n a) t) (number_value m (omega arith))

-- the count, after a state that a digit leads into it and that a gap leaves
count_none : (n : ℕ) → eqb n 1 ≡ true → print_count n ≡ []
count_none n e = rw (e, print_count)

count_some : (n : ℕ) → eqb n 1 ≡ false → print_count n ≡ digits n
count_some n e = rw (e, print_count)

count_back : (q : FState) (x : Sym) (n g : ℕ) (t : Bytes) → n < 1000000 → Sep g →
    ((d : ℕ) → digit d ≡ true → fstep q d ≡ still (in_count x 1 (d - 48))) → fstep q g ≡ tells (counted x 1) (between true) → frun q (print_count n ++ (g ∷ t)) ≡ told (counted x n) t
count_back q x n g t b s f e = go (eqb n 1) refl
  where
    go : (u : Bool) → eqb n 1 ≡ u → frun q (print_count n ++ (g ∷ t)) ≡ told (counted x n) t
    go true h = rw (count_none n h) (run_tells q _ _ g t e ∙ ap (λ (v : ℕ). told (counted x v) t) (sym (eqb-true n 1 h)))
    go false h =
        rw (count_some n h) (number_run q x f (digits n) (printed_number n).digits (printed_number n).some (printed_number n).few g t s
        ∙ ap (λ (v : ℕ). told (counted x v) t) (number_value n b))

-- the letters and the count
letters_back : (x c : Bool) (m a b n g : ℕ) (t : Bytes) → upper a ≡ true → (eqb b 0 || lower b) ≡ true → (c || eqb m 0) ≡ true → m < 1000 → n < 1000000 → Sep g →
    frun (between x) (print_mass c m ++ (letters (sym_of c m a b) ++ (print_count n ++ (g ∷ t)))) ≡ told (counted (sym_of c m a b) n) t
letters_back x c m a zero n g t u l z h k s =
    start_back x c m a (print_count n ++ (g ∷ t)) u z h ∙ count_back (at_one c m a) (sym_of c m a 0) n g t k s (one_digit c m a) (one_sep c m a g s)
letters_back x c m a (suc b) n g t u l z h k s =
    start_back x c m a (suc b ∷ (print_count n ++ (g ∷ t))) u z h ∙ run_goes _ _ (suc b) _ (one_lower c m a (suc b) (second_lower b l))
    ∙ count_back (at_two (sym_of c m a (suc b))) (sym_of c m a (suc b)) n g t k s (two_digit (sym_of c m a (suc b))) (two_sep (sym_of c m a (suc b)) g s)

-- an entry that can be printed
abbrev pub PrintableEntry : Counted → Type 0
PrintableEntry e = Printable e.symbol × (e.count < 1000000)

pub entry_back : (x : Bool) (e : Counted) (g : ℕ) (t : Bytes) → PrintableEntry e → Sep g → frun (between x) (print_entry e ++ (g ∷ t)) ≡ told e t
unfolding print_entry print_sym
entry_back x e g t p s =
    let M : Bytes = print_mass e.symbol.caret e.symbol.mass in
    let L : Bytes = letters e.symbol in
    let C : Bytes = print_count e.count in
    ap (frun (between x)) (append_assoc (M ++ L) C (g ∷ t) ∙ append_assoc M L (C ++ (g ∷ t)))
    ∙ letters_back x e.symbol.caret e.symbol.mass e.symbol.first e.symbol.second e.count g t p.0.letter p.0.second p.0.massed p.0.mass p.1 s

-- FRAGMENTS
abbrev pub AllPrintable : List Counted → Type 0
AllPrintable [] = Unit {0}
AllPrintable (e ∷ es) = PrintableEntry e × AllPrintable es

pub fragment_back : (x : Bool) (e : Counted) (fs : List Counted) (g : ℕ) (t : Bytes) → PrintableEntry e → AllPrintable fs → Sep g →
    frun (between x) (print_fragment e fs (g ∷ t)) ≡ join (e ∷ fs) (frun (between true) t)
unfolding print_fragment
fragment_back x e [] g t p ps s = entry_back x e g t p s
fragment_back x e (f ∷ fs) g t p ps s =
    entry_back x e 32 (print_fragment f fs (g ∷ t)) p sep32
    ∙ ap (join (e ∷ [])) (fragment_back true f fs g t ps.0 ps.1 s) ∙ join_join (e ∷ []) (f ∷ fs) (frun (between true) t)

abbrev pub Prints : Fragment → Type 0
Prints f = PrintableEntry f.head × AllPrintable f.tail

abbrev pub AllPrint : List Fragment → Type 0
AllPrint [] = Unit {0}
AllPrint (f ∷ fs) = Prints f × AllPrint fs

-- all entries, in order
abbrev pub entries_in : Fragment → List Fragment → List Counted
entries_in f [] = f.head ∷ f.tail
entries_in f (g ∷ gs) = (f.head ∷ f.tail) ++ entries_in g gs

run_back : (f : Fragment) (gs : List Fragment) → Prints f → AllPrint gs → frun (between false) (print_fragments f gs (10 ∷ [])) ≡ Some (entries_in f gs)
unfolding print_fragments gap blank within
run_back f [] p ps =
    fragment_back false f.head f.tail 10 [] p.0 p.1 sep10 ∙ ap (join (f.head ∷ f.tail)) (run_nil (between true)) ∙ ap (λ (r : List Counted). Some (f.head ∷ r)) (append-nil f.tail)
run_back f (g ∷ gs) p ps =
    let s : Bytes = print_fragments g gs (10 ∷ []) in
    fragment_back false f.head f.tail 32 (42 ∷ 32 ∷ s) p.0 p.1 sep32
    ∙ ap (join (f.head ∷ f.tail)) (run_goes (between true) (between false) 42 (32 ∷ s) (between_star true 42 refl refl refl refl) ∙ run_goes (between false) (between false) 32 s (between_gap false 32 refl refl refl) ∙ run_back g gs ps.0 ps.1)

-- what is printed behind the fragments
fragment_behind : (e : Counted) (fs : List Counted) (r s : Bytes) → print_fragment e fs r ++ s ≡ print_fragment e fs (r ++ s)
unfolding print_fragment
fragment_behind e [] r s = append_assoc (print_entry e) r s
fragment_behind e (f ∷ fs) r s = append_assoc (print_entry e) (32 ∷ print_fragment f fs r) s ∙ ap (λ (t : Bytes). print_entry e ++ (32 ∷ t)) (fragment_behind f fs r s)

pub fragments_behind : (f : Fragment) (gs : List Fragment) (r s : Bytes) → print_fragments f gs r ++ s ≡ print_fragments f gs (r ++ s)
unfolding print_fragments
fragments_behind f [] r s = fragment_behind f.head f.tail r s
fragments_behind f (g ∷ gs) r s = fragment_behind f.head f.tail (32 ∷ 42 ∷ 32 ∷ print_fragments g gs r) s ∙ ap (λ (t : Bytes). print_fragment f.head f.tail (32 ∷ 42 ∷ 32 ∷ t)) (fragments_behind g gs r s)

-- behind the label's `=` stands a space, at the end a line feed
pub formula_back : (f : Fragment) (gs : List Fragment) → Prints f → AllPrint gs → formula_shape (32 ∷ (print_fragments f gs [] ++ (10 ∷ []))) ≡ Some (entries_in f gs)
unfolding gap blank within
formula_back f gs p ps =
    formula_is _ ∙ run_goes (between false) (between false) 32 _ (between_gap false 32 refl refl refl) ∙ ap (frun (between false)) (fragments_behind f gs [] (10 ∷ [])) ∙ run_back f gs p ps

-- IN A RECORD: the formula is not empty, of bytes of a printed line, and read back from its value
entry_some : (e : Counted) → 0 < length (print_entry e)
unfolding print_entry
entry_some e = omega (arith, symbol_some e.symbol, length-append (print_sym e.symbol) (print_count e.count))

fragment_some : (e : Counted) (fs : List Counted) (r : Bytes) → 0 < length (print_fragment e fs r)
unfolding print_fragment
fragment_some e [] r = omega (arith, entry_some e, length-append (print_entry e) r)
fragment_some e (f ∷ fs) r = omega (arith, entry_some e, length-append (print_entry e) (32 ∷ print_fragment f fs r))

pub formula_some : (f : Fragment) (gs : List Fragment) (r : Bytes) → 0 < length (print_fragments f gs r)
unfolding print_fragments
formula_some f [] r = fragment_some f.head f.tail r
formula_some f (g ∷ gs) r = fragment_some f.head f.tail _

count_printed : (n : ℕ) → all printed (print_count n) ≡ true
count_printed n = go (eqb n 1) refl
  where
    go : (t : Bool) → eqb n 1 ≡ t → all printed (print_count n) ≡ true
    go true e = rw (count_none n e) (all_nil printed)
    go false e = rw (count_some n e) (digits_printed n)

entry_inline : (e : Counted) → PrintableEntry e → all inline (print_entry e) ≡ true
unfolding print_entry
entry_inline e p = printed_inline _ (all_append_both printed (print_sym e.symbol) (print_count e.count) (symbol_printed e.symbol p.0) (count_printed e.count))

fragment_inline : (e : Counted) (fs : List Counted) (r : Bytes) → PrintableEntry e → AllPrintable fs → all inline r ≡ true → all inline (print_fragment e fs r) ≡ true
unfolding print_fragment
fragment_inline e [] r p ps h = all_append_both inline (print_entry e) r (entry_inline e p) h
fragment_inline e (f ∷ fs) r p ps h =
    all_append_both inline (print_entry e) (32 ∷ print_fragment f fs r) (entry_inline e p) (all_both inline 32 (print_fragment f fs r) refl (fragment_inline f fs r ps.0 ps.1 h))

pub formula_inline : (f : Fragment) (gs : List Fragment) (r : Bytes) → Prints f → AllPrint gs → all inline r ≡ true → all inline (print_fragments f gs r) ≡ true
unfolding print_fragments within
formula_inline f [] r p ps h = fragment_inline f.head f.tail r p.0 p.1 h
formula_inline f (g ∷ gs) r p ps h =
    let t : Bytes = print_fragments g gs r in
    let k : all inline (32 ∷ 42 ∷ 32 ∷ t) ≡ true = all_both inline 32 _ refl (all_both inline 42 _ refl (all_both inline 32 t refl (formula_inline g gs r ps.0 ps.1 h))) in
    fragment_inline f.head f.tail (32 ∷ 42 ∷ 32 ∷ t) p.0 p.1 k

pub formula_value : (f : Fragment) (gs : List Fragment) → Prints f → AllPrint gs → formula_shape (strip (valued (print_fragments f gs []))) ≡ Some (entries_in f gs)
formula_value f gs p ps =
    ap formula_shape (strip_value _ (formula_inline f gs [] p ps (all_nil inline)) ∙ valued_is _ (formula_some f gs [])) ∙ formula_back f gs p ps

-- "The formula is one fragment"
pub fragment_value : (e : Counted) (es : List Counted) → PrintableEntry e → AllPrintable es → formula_shape (strip (valued (print_formula (fragment (e ∷ es))))) ≡ Some (e ∷ es)
fragment_value e es p ps = formula_value (record { head = e; tail = es }) [] (p, ps) tt
