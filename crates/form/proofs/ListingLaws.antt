-- The atoms and the rows of a list printed one by one are the list's text: document 01, "The one written form" ("empty optional ones left out"). Assumes nothing.
use Prim.Native.Nat.{ℕ, suc, ◌+◌, ◌*◌, ◌≤◌, ◌<◌}
use mathlib.Core.Path.{◌≡◌, refl, sym, ap, ap₂, ◌∙◌}
use mathlib.Core.Bool.{true}
use mathlib.Core.List.{List, [], ◌∷◌, ◌++◌, map, append-nil}
use native.Mathlib.Numerals.{add-one}
use native.Mathlib.Omega.{arith}
use borrow.Author.Tests.{ltb-true}
use lib.Dec.{ltb}
use lib.ListN.{length, get_or, drop, drop_of_length-le}
use lib.IntN.{ℤ, pos}
use lib.Seq.{drop-cons}
use Rattle.lists.specs.Lists.{flat}
use Rattle.lists.proofs.ListLaws.{all_at}
use Rattle.lists.proofs.PartLaws.{flat_nil, flat_cons, map_drop}
use Rattle.format.specs.Bytes.{Bytes}
use Rattle.format.specs.Labels.{ListOf, Bonds, Charges, Radicals, Centres, Pairs}
use Rattle.format.specs.Rows.{Row, row}
use Rattle.format.specs.Structure.{isotope_of, Atom, rows_of, lists}
use Rattle.format.specs.Table.{cell, atom_at, atom_records, decode}
use Rattle.format.specs.Writing.{line, row_words, atom_words, print_atoms, list_label, print_record, print_rows}
use Rattle.printing.specs.Printing.{Printed, Rests}
use Rattle.printing.specs.declared.Sheet.{Sheet}
use Rattle.rowform.specs.declared.Listed.{Listed}
use Rattle.rowform.specs.Lines.{list_of, atom_no, atom_line, row_no, RowLaid}
use Rattle.form.specs.Listing.{groups_fit, GroupsFit, rows_text, RowsLaid, ListLaid}
use Rattle.printing.proofs.PrintLaws.{printed_none, printed_then, printed_as, rest_on, rest_none}
use Rattle.rowform.proofs.PlaceLaws.{record_cell}

-- THE ATOMS
atom_is : (t : List ℤ) (i : ℕ) → i < length (atom_records t) → atom_at (get_or (atom_records t) i []) ≡ atom_no t i
atom_is t i h =
    let first : cell (get_or (atom_records t) i []) 0 ≡ cell t (16 + 5 * i) = record_cell t i 0 h (omega arith) ∙ (let q : 16 + 5 * i + 0 ≡ 16 + 5 * i = omega arith in ap (cell t) q) in
    ap₂ (λ e m. record { kind = isotope_of e m; hydrogens = cell (get_or (atom_records t) i []) 2 }) first (record_cell t i 1 h (omega arith))
    ∙ ap (λ n. record { kind = isotope_of (cell t (16 + 5 * i)) (cell t (16 + 5 * i + 1)); hydrogens = n }) (record_cell t i 2 h (omega arith))

pub atoms_on : (t : List ℤ) (i : ℕ) → i < length (atom_records t) → print_atoms (i + 1) (drop i (decode t).atoms) ≡ atom_line t i ++ print_atoms (i + 1 + 1) (drop (i + 1) (decode t).atoms)
unfolding decode print_atoms
atoms_on t i h =
    ap (print_atoms (i + 1)) (sym (map_drop atom_at i (atom_records t)) ∙ ap (map atom_at) (drop-cons (atom_records t) i [] h))
    ∙ ap₂ (λ a (l : List Atom). line (atom_words (i + 1) a) ++ print_atoms (suc (i + 1)) l) (atom_is t i h) (map_drop atom_at (suc i) (atom_records t))
    ∙ ap₂ (λ n k. atom_line t i ++ print_atoms n (drop k (map atom_at (atom_records t)))) (sym (add-one (i + 1))) (sym (add-one i))

pub atoms_end : (t : List ℤ) (i : ℕ) → length (atom_records t) ≤ i → print_atoms (i + 1) (drop i (decode t).atoms) ≡ []
unfolding decode print_atoms
atoms_end t i h = ap (print_atoms (i + 1)) (sym (map_drop atom_at i (atom_records t)) ∙ ap (map atom_at) (drop_of_length-le (atom_records t) h))

-- WHICH LIST
pub label_as : {s₀ s' : Sheet} (x y : Listed) → x ≡ y → Printed s₀ (print_record (list_label (list_of y)) []) s' → Printed s₀ (print_record (list_label (list_of x)) []) s'
label_as x y e l = printed_as (sym (ap (λ z. print_record (list_label (list_of z)) []) e)) l

pub count_as : (t : List ℤ) (n : ℕ) (x y : Listed) → x ≡ y → n ≡ length (rows_of (list_of y) (decode t)) → n ≡ length (rows_of (list_of x) (decode t))
count_as t n x y e p = p ∙ sym (ap (λ z. length (rows_of (list_of z) (decode t))) e)

-- ROW BY ROW
module _ (l : ListOf) (t : List ℤ) (i : ℕ) where
  rows_next : i < length (rows_of l (decode t)) → rows_text l (drop i (rows_of l (decode t))) ≡ line (row_words l (row_no l t i)) ++ rows_text l (drop (i + 1) (rows_of l (decode t)))
  unfolding row_no
  rows_next h =
      ap (rows_text l) (drop-cons (rows_of l (decode t)) i (row [] (pos 0) 0) h) ∙ flat_cons (λ x. line (row_words l x)) (row_no l t i) (drop (suc i) (rows_of l (decode t)))
      ∙ ap (λ k. line (row_words l (row_no l t i)) ++ rows_text l (drop k (rows_of l (decode t)))) (sym (add-one i))

  group_small : i < length (rows_of l (decode t)) → groups_fit (rows_of l (decode t)) ≡ true → (row_no l t i).group < 256
  unfolding row_no
  group_small h fit = ltb-true (row_no l t i).group 256 (all_at (λ r. ltb r.group 256) (row [] (pos 0) 0) (rows_of l (decode t)) i fit h)

  pub rows_on : {s now now' : Sheet} {whole : Bytes} → i < length (rows_of l (decode t)) → RowLaid l t i now now'
      → (groups_fit (rows_of l (decode t)) ≡ true → Rests s whole now (rows_text l (drop i (rows_of l (decode t)))))
      → groups_fit (rows_of l (decode t)) ≡ true → Rests s whole now' (rows_text l (drop (i + 1) (rows_of l (decode t))))
  rows_on h one before fit = rest_on (rows_next h) (one h (group_small h fit)) (before fit)

  pub rows_end : {s now : Sheet} {whole : Bytes} → length (rows_of l (decode t)) ≤ i
      → (groups_fit (rows_of l (decode t)) ≡ true → Rests s whole now (rows_text l (drop i (rows_of l (decode t)))))
      → groups_fit (rows_of l (decode t)) ≡ true → Printed s whole now
  rows_end h before fit = rest_none (ap (rows_text l) (drop_of_length-le (rows_of l (decode t)) h) ∙ flat_nil (λ x. line (row_words l x))) (before fit)

-- A LIST WITH ITS LABEL
no_rows : (l : ListOf) (rs : List Row) → length rs ≡ 0 → [] ≡ print_rows l rs
unfolding print_rows
no_rows l [] e = refl
no_rows l (r ∷ rs) e = absurd (omega arith)

some_rows : (l : ListOf) (rs : List Row) → (length rs ≡ 0 → ⊥) → print_record (list_label l) [] ++ rows_text l rs ≡ print_rows l rs
unfolding print_rows
some_rows l [] f = absurd (f refl)
some_rows l (r ∷ rs) f = refl

module _ (l : ListOf) (t : List ℤ) (n : ℕ) (many : n ≡ length (rows_of l (decode t))) where
  pub list_none : {s : Sheet} → n ≡ 0 → ListLaid l t s s
  list_none e fit = printed_as (no_rows l (rows_of l (decode t)) (sym many ∙ e)) printed_none

  pub list_some : {s₀ s₁ s₂ : Sheet} → (n ≡ 0 → ⊥) → Printed s₀ (print_record (list_label l) []) s₁ → RowsLaid l t s₁ s₂ → ListLaid l t s₀ s₂
  list_some f p q fit = printed_as (some_rows l (rows_of l (decode t)) (λ e. f (many ∙ e))) (printed_then p (q fit))

-- ALL LISTS
module _ (t : List ℤ) {s₀ s₁ s₂ s₃ s₄ s₅ : Sheet} where
  pub lists_laid : ListLaid Bonds t s₀ s₁ → ListLaid Charges t s₁ s₂ → ListLaid Radicals t s₂ s₃ → ListLaid Centres t s₃ s₄ → ListLaid Pairs t s₄ s₅
      → GroupsFit t → Printed s₀ (flat (λ l. print_rows l (rows_of l (decode t))) lists) s₅
  unfolding lists flat
  lists_laid p q r s u fit = printed_then (p (fit Bonds)) (printed_then (q (fit Charges)) (printed_then (r (fit Radicals)) (printed_then (s (fit Centres)) (printed_as (sym (append-nil (print_rows Pairs (rows_of Pairs (decode t))))) (u (fit Pairs))))))
