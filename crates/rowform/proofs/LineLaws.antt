-- A line printed word by word: document 01, "The one written form" ("One line feed a line, one space between fields"; "zero hydrogens and group 0 left out").
-- Assumes nothing.
use Prim.Native.Nat.{ℕ, ◌+◌, ◌*◌, ◌/◌, ◌%◌, ◌≤◌, ◌<◌}
use mathlib.Core.Path.{◌≡◌, refl, sym, ap, ap₂, ◌∙◌}
use mathlib.Core.Bool.{Bool, true, false}
use mathlib.Core.List.{List, [], ◌∷◌, ◌++◌, append_assoc}
use native.Mathlib.Omega.{arith}
use lib.ListN.{length}
use lib.IntN.{ℤ, pos, negsuc, nat_abs}
use Rattle.lists.proofs.Bools.{torn}
use Rattle.format.specs.Bytes.{Bytes}
use Rattle.format.specs.Structure.{isotope_of}
use Rattle.format.specs.Table.{atom_place, cell}
use Rattle.format.specs.Writing.{digits, unless_zero, behind, line, spelt, print_sym, atom_words, signed_of}
use Rattle.cells.specs.Signs.{negative}
use Rattle.format.proofs.PlaceLaws.{atom_place_lem}
use Rattle.printing.specs.Printing.{Printed, spaced}
use Rattle.printing.specs.declared.Sheet.{Sheet}
use Rattle.rowform.specs.Lines.{mark_words, mark_line, atom_no, atom_line, Lent}
use Rattle.printing.proofs.PrintLaws.{over_length, printed_then, printed_as, spaced_none, spaced_more}
use Rattle.printing.proofs.NumberLaws.{digits_single, digits_double, zero_left_out, unless_zero_lem}

-- THE BUFFER THAT WAS LENT: printing keeps it
pub lent_then : {s s₁ s₂ : Sheet} → Lent s s₁ → Lent s₁ s₂ → Lent s s₂
lent_then p q = record { lent = q.lent ∙ p.lent; size = q.size ∙ p.size }

pub printed_lent : {s s' : Sheet} {x : Bytes} → Printed s x s' → Lent s s'
printed_lent {s} {x = x} p = record { lent = p.lent; size = ap length p.print.laid ∙ over_length s.buffer.now s.at x }

-- WORDS BEHIND A WORD, and the line's end
pub behind_spaced : (ws : List Bytes) → behind ws ≡ spaced ws ++ (10 ∷ [])
unfolding behind
behind_spaced [] = sym (ap (λ v. v ++ (10 ∷ [])) spaced_none)
behind_spaced (w ∷ ws) = ap (λ v. 32 ∷ (w ++ v)) (behind_spaced ws) ∙ ap (λ v. 32 ∷ v) (sym (append_assoc w (spaced ws) (10 ∷ []))) ∙ sym (ap (λ v. v ++ (10 ∷ [])) (spaced_more w ws))

pub line_spaced : (w : Bytes) (ws : List Bytes) → w ++ (spaced ws ++ (10 ∷ [])) ≡ line (w ∷ ws)
unfolding line
line_spaced w ws = ap (λ v. w ++ v) (sym (behind_spaced ws))

-- A NUMBER AND THE SPACE BEHIND IT
pub ahead_single : (n : ℕ) → n < 10 → (48 + n) ∷ 32 ∷ [] ≡ digits n ++ (32 ∷ [])
ahead_single n h = ap (λ w. w ++ (32 ∷ [])) (digits_single n h)

pub ahead_double : (n : ℕ) → 10 ≤ n → n < 100 → (48 + n / 10) ∷ (48 + n % 10) ∷ 32 ∷ [] ≡ digits n ++ (32 ∷ [])
ahead_double n l h = ap (λ w. w ++ (32 ∷ [])) (digits_double n l h)

-- AN ATOM
module _ {s₀ s₁ s₂ s₃ s₄ : Sheet} where
  pub atom_printed : (t : List ℤ) (i place e m h : ℕ) → i < 256 → place ≡ atom_place i → e ≡ cell t place → m ≡ cell t (place + 1) → h ≡ cell t (place + 2)
      → Printed s₀ (digits (i + 1) ++ (32 ∷ [])) s₁ → Printed s₁ (print_sym (spelt (isotope_of e m))) s₂ → Printed s₂ (spaced (unless_zero h (digits h))) s₃ → Printed s₃ (10 ∷ []) s₄
      → Printed s₀ (atom_line t i) s₄
  unfolding atom_words
  atom_printed t i place e m h low there p q r l₁ l₂ l₃ l₄ =
      let a : place ≡ 16 + 5 * i = there ∙ atom_place_lem i low in
      let s : print_sym (spelt (isotope_of e m)) ≡ print_sym (spelt (atom_no t i).kind) = ap₂ (λ x y. print_sym (spelt (isotope_of x y))) (p ∙ ap (cell t) a) (q ∙ ap (λ n. cell t (n + 1)) a) in
      let u : spaced (unless_zero h (digits h)) ≡ spaced (unless_zero (atom_no t i).hydrogens (digits (atom_no t i).hydrogens)) = ap (λ x. spaced (unless_zero x (digits x))) (r ∙ ap (λ n. cell t (n + 2)) a) in
      printed_as
      (append_assoc (digits (i + 1)) (32 ∷ []) (print_sym (spelt (atom_no t i).kind) ++ (spaced (unless_zero (atom_no t i).hydrogens (digits (atom_no t i).hydrogens)) ++ (10 ∷ [])))
      ∙ ap (λ v. digits (i + 1) ++ v) (ap (λ v. 32 ∷ v) (sym (append_assoc (print_sym (spelt (atom_no t i).kind)) (spaced (unless_zero (atom_no t i).hydrogens (digits (atom_no t i).hydrogens))) (10 ∷ []))) ∙ sym (ap (λ v. v ++ (10 ∷ [])) (spaced_more (print_sym (spelt (atom_no t i).kind)) (unless_zero (atom_no t i).hydrogens (digits (atom_no t i).hydrogens)))))
      ∙ line_spaced (digits (i + 1)) (print_sym (spelt (atom_no t i).kind) ∷ unless_zero (atom_no t i).hydrogens (digits (atom_no t i).hydrogens)))
      (printed_then l₁ (printed_then (printed_as s l₂) (printed_then (printed_as u l₃) l₄)))

-- A LETTER AND A GROUP
mark_is : (l g : ℕ) (w : Bytes) → w ≡ spaced (unless_zero g (g ∷ [])) → 32 ∷ l ∷ (w ++ (10 ∷ [])) ≡ spaced (mark_words l g) ++ (10 ∷ [])
mark_is l g w e = ap (λ v. 32 ∷ l ∷ (v ++ (10 ∷ []))) e ∙ sym (ap (λ v. v ++ (10 ∷ [])) (spaced_more (l ∷ []) (unless_zero g (g ∷ []))))

pub mark_alone : {s₀ s₁ : Sheet} (l g : ℕ) → g ≡ 0 → Printed s₀ (32 ∷ l ∷ 10 ∷ []) s₁ → g < 256 → Printed s₀ (spaced (mark_words l g) ++ (10 ∷ [])) s₁
mark_alone l g e l₁ h = printed_as (mark_is l g [] (zero_left_out g (g ∷ []) e)) l₁

pub mark_grouped : {s₀ s₁ : Sheet} (l g : ℕ) → (g ≡ 0 → ⊥) → Printed s₀ (32 ∷ l ∷ 32 ∷ (g % 256) ∷ 10 ∷ []) s₁ → g < 256 → Printed s₀ (spaced (mark_words l g) ++ (10 ∷ [])) s₁
mark_grouped l g f l₁ h =
    let q : g % 256 ≡ g = omega arith in
    printed_as (ap (λ x. 32 ∷ l ∷ 32 ∷ x ∷ 10 ∷ []) q ∙ mark_is l g (32 ∷ g ∷ []) (unless_zero_lem g (g ∷ []) f)) l₁

module _ {s₀ s₁ s₂ : Sheet} where
  pub one_printed : (n l g : ℕ) → Printed s₀ (digits n) s₁ → (g < 256 → Printed s₁ (spaced (mark_words l g) ++ (10 ∷ [])) s₂) → g < 256 → Printed s₀ (mark_line (n ∷ []) l g) s₂
  one_printed n l g l₁ l₂ h = printed_as (line_spaced (digits n) (mark_words l g)) (printed_then l₁ (l₂ h))

module _ {s₀ s₁ s₂ s₃ : Sheet} where
  pub two_printed : (n m l g : ℕ) → Printed s₀ (digits n) s₁ → Printed s₁ (32 ∷ digits m) s₂ → (g < 256 → Printed s₂ (spaced (mark_words l g) ++ (10 ∷ [])) s₃) → g < 256
      → Printed s₀ (mark_line (n ∷ m ∷ []) l g) s₃
  two_printed n m l g l₁ l₂ l₃ h =
      printed_as
      (ap (λ v. digits n ++ v) (ap (λ v. 32 ∷ v) (sym (append_assoc (digits m) (spaced (mark_words l g)) (10 ∷ []))) ∙ sym (ap (λ v. v ++ (10 ∷ [])) (spaced_more (digits m) (mark_words l g))))
      ∙ line_spaced (digits n) (digits m ∷ mark_words l g))
      (printed_then l₁ (printed_then l₂ (l₃ h)))

-- A VALUE WITH ITS SIGN
pub minus_is : (z : ℤ) (n x : ℕ) (s : Bool) → n ≡ nat_abs z → s ≡ negative z → s ≡ true → x ≡ 45 → (x ∷ []) ++ digits n ≡ signed_of z
unfolding negative
minus_is (pos m) n x s e p q h = torn false (sym p ∙ q) refl
minus_is (negsuc m) n x s e p q h = ap₂ (λ y k. y ∷ digits k) h e

pub plus_is : (z : ℤ) (n x : ℕ) (s : Bool) → n ≡ nat_abs z → s ≡ negative z → s ≡ false → x ≡ 43 → (x ∷ []) ++ digits n ≡ signed_of z
unfolding negative
plus_is (pos m) n x s e p q h = ap₂ (λ y k. y ∷ digits k) h e
plus_is (negsuc m) n x s e p q h = torn true refl (sym p ∙ q)

-- A ROW OF MEMBERS
module _ {s₀ s₁ s₂ : Sheet} where
  pub spread_printed : (w : Bytes) (ws : List Bytes) → Printed s₀ w s₁ → Printed s₁ (spaced ws ++ (10 ∷ [])) s₂ → Printed s₀ (line (w ∷ ws)) s₂
  spread_printed w ws l₁ l₂ = printed_as (line_spaced w ws) (printed_then l₁ l₂)
