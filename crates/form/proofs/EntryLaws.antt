-- The formula printed entry by entry, each parted from the one before: document 01, "The one written form", and document 02, L1. Assumes nothing.
use Prim.Native.Nat.{ℕ, ◌+◌, ◌/◌, ◌%◌, ◌≤◌, ◌<◌}
use mathlib.Core.Path.{◌≡◌, refl, sym, ap, ◌∙◌}
use mathlib.Core.List.{List, [], ◌∷◌, ◌++◌, append-nil}
use native.Mathlib.Numerals.{add-one}
use native.Mathlib.Omega.{arith}
use borrow.Author.Tests.{eq-eqb, ne_eqb}
use lib.ListN.{length, get_or, drop, drop_of_length-le}
use lib.Seq.{drop-cons}
use Rattle.format.specs.Bytes.{Bytes}
use Rattle.format.specs.Structure.{isotope_of}
use Rattle.format.specs.Writing.{digits, spelt, print_sym, print_count, print_entry}
use Rattle.tally.specs.Ranks.{element_of}
use Rattle.tally.specs.declared.entries.Entry.{Entry as Tallied}
use Rattle.tally.specs.Gathering.{entry_of}
use Rattle.printing.specs.Printing.{Printed, Rests}
use Rattle.printing.specs.declared.Sheet.{Sheet}
use Rattle.form.specs.Entries.{parted, pieces, entries_text}
use Rattle.printing.proofs.PrintLaws.{printed_then, printed_as, rest_on, rest_none}

-- ONE ENTRY
module _ (k n e : ℕ) (is : e ≡ element_of (k / 512)) where
  symbol_is : print_sym (spelt (isotope_of e (k % 512))) ≡ print_sym (entry_of k n).symbol
  unfolding entry_of
  symbol_is = ap (λ x. print_sym (spelt (isotope_of x (k % 512)))) is

  one_is : n ≡ 1 → print_sym (spelt (isotope_of e (k % 512))) ≡ print_entry (entry_of k n)
  unfolding print_entry entry_of
  one_is h = symbol_is ∙ sym (append-nil (print_sym (entry_of k n).symbol)) ∙ sym (ap (λ v. print_sym (entry_of k n).symbol ++ v) (rw (eq-eqb n 1 h, print_count)))

  more_is : (n ≡ 1 → ⊥) → print_sym (spelt (isotope_of e (k % 512))) ++ digits n ≡ print_entry (entry_of k n)
  unfolding print_entry entry_of
  more_is f = ap (λ v. v ++ digits n) symbol_is ∙ sym (ap (λ v. print_sym (entry_of k n).symbol ++ v) (rw (ne_eqb n 1 f, print_count)))

  pub entry_one : {s₀ s' : Sheet} → n ≡ 1 → Printed s₀ (print_sym (spelt (isotope_of e (k % 512)))) s' → Printed s₀ (print_entry (entry_of k n)) s'
  entry_one h l = printed_as (one_is h) l

  pub entry_more : {s₀ s₁ s₂ : Sheet} → (n ≡ 1 → ⊥) → Printed s₀ (print_sym (spelt (isotope_of e (k % 512)))) s₁ → Printed s₁ (digits n) s₂ → Printed s₀ (print_entry (entry_of k n)) s₂
  entry_more f l m = printed_as (more_is f) (printed_then l m)

-- WHAT PARTS TWO ENTRIES
pub parted_same : (g h : ℕ) → g ≡ h → 32 ∷ [] ≡ parted g h
parted_same g h e = rw (eq-eqb g h e, parted)

pub parted_other : (g h : ℕ) → (g ≡ h → ⊥) → 32 ∷ 42 ∷ 32 ∷ [] ≡ parted g h
parted_other g h n = rw (ne_eqb g h n, parted)

-- ENTRY BY ENTRY
pub entries_none : (es : List Tallied) → length es < 1 → [] ≡ entries_text es
unfolding pieces
entries_none [] h = refl
entries_none (e ∷ es) h = absurd (omega arith)

pub entries_from : (es : List Tallied) (d : Tallied) → 1 ≤ length es → entries_text es ≡ pieces ((get_or es 0 d).key / 65536) es
entries_from [] d h = absurd (omega arith)
entries_from (e ∷ es) d h = refl

abbrev pub EntriesRest : List Tallied → (before now : Sheet) (group i : ℕ) → Type 0
EntriesRest es s now group i = Rests s (entries_text es) now (pieces group (drop i es))

module _ (es : List Tallied) where
  pub entries_on_lem : {s now now' : Sheet} (group i : ℕ) (d : Tallied) → i < length es
      → Printed now (parted group ((get_or es i d).key / 65536) ++ print_entry (entry_of ((get_or es i d).key % 65536) (get_or es i d).count)) now'
      → EntriesRest es s now group i → EntriesRest es s now' ((get_or es i d).key / 65536) (i + 1)
  unfolding pieces
  entries_on_lem group i d h l before =
      rest_on
      (ap (pieces group) (drop-cons es i d h)
      ∙ ap (λ (j : ℕ). (parted group ((get_or es i d).key / 65536) ++ print_entry (entry_of ((get_or es i d).key % 65536) (get_or es i d).count)) ++ pieces ((get_or es i d).key / 65536) (drop j es)) (sym (add-one i)))
      l
      before

  pub entries_end : {s now : Sheet} (group i : ℕ) → length es ≤ i → EntriesRest es s now group i → Printed s (entries_text es) now
  unfolding pieces
  entries_end group i h before = rest_none (ap (pieces group) (drop_of_length-le es {i = i} h)) before
