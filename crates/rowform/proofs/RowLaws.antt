-- The line of each list's row is the definition's: document 01, "Rows" and "The one written form". Assumes nothing.
use Prim.Native.Nat.{ℕ, suc, ◌+◌, ◌≤◌, ◌<◌}
use mathlib.Core.Path.{◌≡◌, refl, sym, ap, ap₂, ◌∙◌}
use mathlib.Core.Bool.{Bool, true, false}
use mathlib.Core.List.{List, [], ◌∷◌, ◌++◌, map}
use native.Mathlib.Numerals.{add-one}
use native.Mathlib.Omega.{arith}
use borrow.Author.Tests.{ne_eqb}
use lib.Dec.{eqb}
use lib.ListN.{length, get_or, take, drop, drop_of_length-le}
use lib.IntN.{ℤ, pos}
use lib.Seq.{drop-cons}
use Rattle.format.specs.Bytes.{Bytes, bytes}
use Rattle.format.specs.Labels.{Bonds, Charges, Radicals, Centres, Pairs}
use Rattle.format.specs.Rows.{row}
use Rattle.format.specs.Structure.{rows_of}
use Rattle.format.specs.Table.{row_place, atom_place, cell, members_at, atom_records, decode}
use Rattle.format.specs.Writing.{digits, line, row_words, signed_of}
use Rattle.cells.proofs.FirstLaws.{decode_first}
use Rattle.printing.specs.Printing.{Printed, spaced}
use Rattle.printing.specs.declared.Sheet.{Sheet}
use Rattle.rowform.specs.declared.Listed.{Listed}
use Rattle.rowform.specs.Lines.{list_of, mark_line, member_of, row_no, RowLaid}
use Rattle.printing.proofs.PrintLaws.{printed_as, spaced_none, spaced_more}
use Rattle.rowform.proofs.LineLaws.{spread_printed}
use Rattle.rowform.proofs.PlaceLaws.{bond_is, centre_is, pair_is, charge_is, radical_is, record_read}

-- ROWS WITH A LETTER
module _ (t : List ℤ) (long : 3856 ≤ length t) (i p : ℕ) {s₀ s' : Sheet} where
  pub bond_printed : p ≡ row_place Bonds i → (n m v k : ℕ) → n ≡ cell t p → m ≡ cell t (p + 1) → v ≡ cell t (p + 2) → k ≡ get_or (45 ∷ 83 ∷ 68 ∷ 84 ∷ 81 ∷ 65 ∷ []) v 0
      → (0 < 256 → Printed s₀ (mark_line (n ∷ m ∷ []) k 0) s') → RowLaid Bonds t i s₀ s'
  unfolding row_words bytes
  bond_printed e n m v k x q s u l h g =
      printed_as
      (ap₂ (λ x y. mark_line (x ∷ y ∷ []) k 0) x q
      ∙ ap (λ z. mark_line (cell t p ∷ cell t (p + 1) ∷ []) z 0) (u ∙ ap (λ x. get_or (45 ∷ 83 ∷ 68 ∷ 84 ∷ 81 ∷ 65 ∷ []) x 0) s)
      ∙ sym (ap (λ x. line (row_words Bonds x)) (bond_is t long i p e h)))
      (l (omega arith))

  pub centre_printed : p ≡ row_place Centres i → (n v k o : ℕ) → n ≡ cell t p → v ≡ cell t (p + 1) → k ≡ get_or (48 ∷ 80 ∷ 77 ∷ []) v 0 → o ≡ cell t (p + 2)
      → (o < 256 → Printed s₀ (mark_line (n ∷ []) k o) s') → RowLaid Centres t i s₀ s'
  unfolding row_words bytes
  centre_printed e n v k o x s u w l h g =
      printed_as
      (ap₂ (λ x y. mark_line (x ∷ []) k y) x w
      ∙ ap (λ z. mark_line (cell t p ∷ []) z (cell t (p + 2))) (u ∙ ap (λ x. get_or (48 ∷ 80 ∷ 77 ∷ []) x 0) s)
      ∙ sym (ap (λ x. line (row_words Centres x)) (centre_is t long i p e h)))
      (l (rw (w, ← (ap (λ x. x.group) (centre_is t long i p e h))) g))

  pub pair_printed : p ≡ row_place Pairs i → (n m v k o : ℕ) → n ≡ cell t p → m ≡ cell t (p + 1) → v ≡ cell t (p + 2) → k ≡ get_or (48 ∷ 80 ∷ 77 ∷ []) v 0 → o ≡ cell t (p + 3)
      → (o < 256 → Printed s₀ (mark_line (n ∷ m ∷ []) k o) s') → RowLaid Pairs t i s₀ s'
  unfolding row_words bytes
  pair_printed e n m v k o x q s u w l h g =
      printed_as
      (ap₂ (λ x y. mark_line (x ∷ y ∷ []) k o) x q
      ∙ ap₂ (λ z y. mark_line (cell t p ∷ cell t (p + 1) ∷ []) z y) (u ∙ ap (λ x. get_or (48 ∷ 80 ∷ 77 ∷ []) x 0) s) w
      ∙ sym (ap (λ x. line (row_words Pairs x)) (pair_is t long i p e h)))
      (l (rw (w, ← (ap (λ x. x.group) (pair_is t long i p e h))) g))

-- MEMBERS
pub member_none : (c j n k : ℕ) → c ≡ k → (c ≡ j → ⊥) → [] ≡ member_of (eqb k j) n
member_none c j n k e f = sym (ap (λ x. member_of x n) (ne_eqb k j (λ h. f (e ∙ h))))

abbrev pub members_text : (p j n : ℕ) → List (List ℤ) → Bytes
members_text p j n rs = spaced (map digits (members_at p j n rs))

module _ (p j n : ℕ) (a : List ℤ) (rs : List (List ℤ)) where
  members_hit : eqb (cell a p) j ≡ true → members_at p j n (a ∷ rs) ≡ n ∷ members_at p j (suc n) rs
  unfolding members_at
  members_hit e = rw (e, members_at)

  members_miss : eqb (cell a p) j ≡ false → members_at p j n (a ∷ rs) ≡ members_at p j (suc n) rs
  unfolding members_at
  members_miss e = rw (e, members_at)

  members_cons : members_text p j n (a ∷ rs) ≡ member_of (eqb (cell a p) j) n ++ members_text p j (suc n) rs
  members_cons = go (eqb (cell a p) j) refl
    where
      go : (x : Bool) → eqb (cell a p) j ≡ x → members_text p j n (a ∷ rs) ≡ member_of x n ++ members_text p j (suc n) rs
      go true e = ap (λ l. spaced (map digits l)) (members_hit e) ∙ spaced_more (digits n) (map digits (members_at p j (suc n) rs))
      go false e = ap (λ l. spaced (map digits l)) (members_miss e)

pub members_on : (t : List ℤ) (p j i place : ℕ) → place ≡ atom_place i → p < 5 → i < length (atom_records t)
    → members_text p j (i + 1) (drop i (atom_records t)) ≡ member_of (eqb (cell t (place + p)) j) (i + 1) ++ members_text p j (i + 1 + 1) (drop (i + 1) (atom_records t))
members_on t p j i place e g h =
    ap (members_text p j (i + 1)) (drop-cons (atom_records t) i [] h) ∙ members_cons p j (i + 1) (get_or (atom_records t) i []) (drop (suc i) (atom_records t))
    ∙ ap₂ (λ k (l : List (List ℤ)). member_of (eqb k j) (i + 1) ++ members_text p j (suc (i + 1)) l) (record_read t i place p e h g) (ap (λ k. drop k (atom_records t)) (sym (add-one i)))
    ∙ ap (λ k. member_of (eqb (cell t (place + p)) j) (i + 1) ++ members_text p j k (drop (i + 1) (atom_records t))) (sym (add-one (i + 1)))

pub members_end : (t : List ℤ) (p j i : ℕ) → length (atom_records t) ≤ i → members_text p j (i + 1) (drop i (atom_records t)) ≡ []
unfolding members_at
members_end t p j i h = ap (members_text p j (i + 1)) (drop_of_length-le (atom_records t) h) ∙ spaced_none

-- ROWS OF MEMBERS
module _ (t : List ℤ) (long : 3856 ≤ length t) (i p : ℕ) {s₀ s₁ s₂ : Sheet} where
  pub charge_printed : p ≡ row_place Charges i → Printed s₀ (signed_of (get_or t p (pos 0))) s₁ → Printed s₁ (members_text 3 (i + 1) 1 (atom_records t) ++ (10 ∷ [])) s₂ → RowLaid Charges t i s₀ s₂
  unfolding row_words
  charge_printed e l₁ l₂ h g = printed_as (sym (ap (λ x. line (row_words Charges x)) (charge_is t long i p e h))) (spread_printed (signed_of (get_or t p (pos 0))) (map digits (members_at 3 (i + 1) 1 (atom_records t))) l₁ l₂)

  pub radical_printed : p ≡ row_place Radicals i → (v : ℕ) → v ≡ cell t p → Printed s₀ (digits v) s₁ → Printed s₁ (members_text 4 (i + 1) 1 (atom_records t) ++ (10 ∷ [])) s₂ → RowLaid Radicals t i s₀ s₂
  unfolding row_words
  radical_printed e v f l₁ l₂ h g = printed_as (sym (ap (λ x. line (row_words Radicals x)) (radical_is t long i p e h))) (spread_printed (digits (cell t p)) (map digits (members_at 4 (i + 1) 1 (atom_records t))) (printed_as (ap digits f) l₁) l₂)

-- A ROW OF THE TABLE'S FRONT is the table's, whichever the list
module _ (l m : Listed) (is : l ≡ m) (t u : List ℤ) (i : ℕ) {s s' : Sheet} where
  row_front : u ≡ take 3856 t → RowLaid (list_of m) u i s s' → RowLaid (list_of l) t i s s'
  unfolding row_no
  row_front e p h g =
      let d : decode u ≡ decode t = ap decode e ∙ decode_first t in
      let r : row_no (list_of m) u i ≡ row_no (list_of l) t i = ap₂ (λ k x. get_or (rows_of (list_of k) x) i (row [] (pos 0) 0)) (sym is) d in
      printed_as (ap₂ (λ k x. line (row_words (list_of k) x)) (sym is) r) (p (rw (← is, d) h) (rw (r) g))

  pub row_led : u ≡ take 3856 t → 3856 ≤ length t → i < 512 → RowLaid (list_of m) u i s s'
      → ((i < 512) × (3856 ≤ length t) → RowLaid (list_of l) t i s s') × (512 ≤ i → s' ≡ s) × (length t < 3856 → s' ≡ s)
  row_led e k h p = (λ x. row_front e p, λ x. absurd (omega arith), λ x. absurd (omega arith))
