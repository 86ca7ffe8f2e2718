-- Record by record the one written form: document 01, "The one written form" ("Records in this order"), and document 02, L4 (STEREOMOLECULE "after STEREOPAIR"). Assumes
-- nothing.
use Prim.Native.Nat.{ℕ, ◌+◌}
use Prim.Native.String.{String}
use mathlib.Core.Path.{◌≡◌, sym, ap, ap₂, ◌∙◌}
use mathlib.Core.Bool.{true}
use mathlib.Core.List.{List, [], ◌++◌, map, append-nil}
use native.Mathlib.Nat.{add-zero}
use lib.ListN.{length, get_or, take, drop}
use lib.IntN.{ℤ, pos, nat_abs}
use lib.Dec.{eqb}
use lib.Seq.{drop-drop, get_or-drop}
use Rattle.lists.specs.Lists.{all, count_up, concat, flat, rows_from}
use Rattle.format.specs.Bytes.{Bytes, bytes}
use Rattle.format.specs.Structure.{rows_of, lists, atom_ok, lowest, groups}
use Rattle.format.specs.Table.{cell, decode, span_at, spans_of, text_at}
use Rattle.format.specs.Writing.{fragments, valued, print_id, print_record, print_atoms, print_rows, print_yes, records, canonical, form_of}
use Rattle.cells.proofs.FirstLaws.{decode_first, spans_first}
use Rattle.tally.specs.declared.entries.Entry.{Entry}
use Rattle.tally.proofs.GatherLaws.{groups_all}
use Rattle.printing.specs.Printing.{Printed}
use Rattle.printing.specs.declared.Sheet.{Sheet}
use Rattle.form.specs.Listing.{GroupsFit}
use Rattle.form.specs.Entries.{FormulaLaid}
use Rattle.form.specs.Forms.{FormPrinted}
use Rattle.printing.proofs.PrintLaws.{printed_then, printed_as}

-- THE TEXTS
span_text : (t : List ℤ) (b : Bytes) (p : ℕ) → take (cell t (p + 1)) (drop (cell t p) b) ≡ text_at b (span_at (drop p t))
unfolding text_at
span_text t b p =
    sym (ap₂ (λ x y. take (nat_abs x) (drop (nat_abs y) b)) (get_or-drop p t 1 (pos 0)) (get_or-drop p t 0 (pos 0) ∙ ap (λ k. get_or t k (pos 0)) (add-zero p)))

abbrev texts_of : List ℤ → Bytes → List Bytes
texts_of t b = map (text_at b) (spans_of t)

module _ (t : List ℤ) (b : Bytes) where
  title_is : take (cell t 8) (drop (cell t 7) b) ≡ get_or (texts_of t b) 0 []
  unfolding spans_of rows_from
  title_is = span_text t b 7

  origin_is : take (cell t 10) (drop (cell t 9) b) ≡ get_or (texts_of t b) 1 []
  unfolding spans_of rows_from
  origin_is = span_text t b 9 ∙ ap (λ l. text_at b (span_at l)) (sym (drop-drop 2 7 t))

  owner_is : take (cell t 12) (drop (cell t 11) b) ≡ get_or (texts_of t b) 2 []
  unfolding spans_of rows_from
  owner_is = span_text t b 11 ∙ ap (λ l. text_at b (span_at l)) (sym (ap (drop 2) (drop-drop 2 7 t) ∙ drop-drop 2 9 t))

named : {s₀ s' : Sheet} (l : String) {v w : Bytes} → v ≡ w → Printed s₀ (bytes l ++ valued v) s' → Printed s₀ (print_record l w) s'
unfolding print_record
named l e p = printed_as (ap (λ x. bytes l ++ valued x) e) p

-- THE GROUPS' ATOMS are the table's
groups_fine : (t : List ℤ) → all (atom_ok 103) (decode t).atoms ≡ true → all (all (atom_ok 103)) (groups (decode t)) ≡ true
unfolding groups
groups_fine t h = groups_all (atom_ok 103) (lowest (length (decode t).atoms) (decode t).bonds) (count_up 1 (length (decode t).atoms)) (decode t).atoms h

-- EVERY RECORD
module _ (t : List ℤ) (b : Bytes) (es : List Entry) {s₀ s₁ s₂ s₃ s₄ s₅ s₆ s₇ s₈ s₉ s₁₀ s₁₁ : Sheet} where
  pub form_laid : (id flag : ℕ) → id ≡ cell t 6 → flag ≡ cell t 13
      → Printed s₀ (bytes "##TITLE=" ++ valued (take (cell t 8) (drop (cell t 7) b))) s₁
      → Printed s₁ (print_record "##JCAMP-CS=" (bytes "3.7")) s₂
      → Printed s₂ (bytes "##ORIGIN=" ++ valued (take (cell t 10) (drop (cell t 9) b))) s₃
      → Printed s₃ (bytes "##OWNER=" ++ valued (take (cell t 12) (drop (cell t 11) b))) s₄
      → Printed s₄ (print_id id) s₅
      → FormulaLaid es s₅ s₆
      → Printed s₆ (print_record "##ATOMLIST=" []) s₇
      → Printed s₇ (print_atoms 1 (decode t).atoms) s₈
      → (GroupsFit t → Printed s₈ (flat (λ l. print_rows l (rows_of l (decode t))) lists) s₉)
      → Printed s₉ (print_yes (eqb flag 1)) s₁₀
      → Printed s₁₀ (print_record "##END=" []) s₁₁
      → FormPrinted t b es s₀ s₁₁
  unfolding form_of canonical records concat decode fragments
  form_laid id flag is says title version origin owner number formula label atoms rows whole end fit =
      let first : Printed s₀ (print_record "##TITLE=" (get_or (texts_of t b) 0 [])) s₁ = named "##TITLE=" (title_is t b) title in
      let second : Printed s₂ (print_record "##ORIGIN=" (get_or (texts_of t b) 1 [])) s₃ = named "##ORIGIN=" (origin_is t b) origin in
      let third : Printed s₃ (print_record "##OWNER=" (get_or (texts_of t b) 2 [])) s₄ = named "##OWNER=" (owner_is t b) owner in
      printed_then first (printed_then version (printed_then second (printed_then third (printed_then (printed_as (ap print_id is) number)
      (printed_then (formula (groups (decode t)) (groups_fine t fit.atoms) fit.gathered) (printed_then label (printed_then atoms (printed_then (rows fit.groups)
      (printed_then (printed_as (ap (λ (i : ℕ). print_yes (eqb i 1)) says) whole) (printed_as (sym (append-nil (print_record "##END=" []))) end))))))))))

-- A TABLE'S FRONT is written as the table is
pub form_led : (t u : List ℤ) (b : Bytes) (es : List Entry) {s s' : Sheet} → u ≡ take 3856 t → FormPrinted u b es s s' → FormPrinted t b es s s'
unfolding form_of
form_led t u b es e p fit =
    let d : decode t ≡ decode u = sym (ap decode e ∙ decode_first t) in
    printed_as (ap₂ (λ x ss. canonical x (map (text_at b) ss)) (sym d) (ap spans_of e ∙ spans_first t)) (p (record { atoms = rw (d) at fit.atoms; groups = λ l. rw (d) at (fit.groups l); gathered = rw (d) at fit.gathered }))
