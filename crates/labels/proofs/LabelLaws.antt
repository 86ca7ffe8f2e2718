-- A line's label read on from a place with the key so far, and what a line of a code is. Serves document 01, "Lines and labels" ("A label line starts with `##` in
-- its first column; the label runs to the first `=`"). Assumes nothing.
use Prim.Native.Nat.{ℕ, suc, ◌+◌, ◌≤◌, ◌<◌}
use mathlib.Core.Path.{◌≡◌, refl, sym, ap, ap₂, ◌∙◌}
use mathlib.Core.Bool.{Bool, true, false, ◌&&◌, and-true}
use mathlib.Core.Logic.{◌⊎◌, inl, inr}
use mathlib.Core.List.{List, [], ◌∷◌}
use native.Mathlib.Numerals.{add-one}
use native.Mathlib.Omega.{arith}
use lib.ListN.{length, get_or, drop, drop_of_length-le}
use lib.Seq.{drop-cons}
use lib.Dec.{eqb}
use borrow.Author.Tests.{eq-eqb, ne_eqb, eqb-true}
use Rattle.std.specs.List.{starts_with}
use Rattle.lists.proofs.Bools.{eqb_symm}
use Rattle.format.specs.Bytes.{Bytes, is_label}
use Rattle.format.specs.Labels.{Parts, NoEquals, Parted, longer, parts, Label, label, known, lookup, Line, Plain, Unparted, Labelled, parts_line, line_of, has_code, title_line, end_line}
use Rattle.format.proofs.ByteLaws.{parts_hit, parts_miss}
use Rattle.labels.specs.declared.LineKind.{LineKind}
use Rattle.labels.specs.declared.LineKind.TheVariants as K
use Rattle.labels.specs.Keys.{next_key, key_of, keys, place_of_key}
use Rattle.labels.specs.ShownLines.{by_code, shown_line, code_shown, ShowsLine}
use Rattle.labels.proofs.KeyLaws.{lookup_key, code_hit, code_miss}

-- ON FROM A PLACE
abbrev pub onward : (key : ℕ) → Parts → Line
onward key NoEquals = Unparted
onward key (Parted n v) = Labelled (by_code (place_of_key 1 (key_of key n) keys) known) v

onward_start : (p : Parts) → parts_line p ≡ onward 0 p
onward_start NoEquals = refl
onward_start (Parted n v) = ap (λ (x : Label). Labelled x v) (lookup_key n)

onward_longer : (key b : ℕ) (p : Parts) → onward key (longer b p) ≡ onward (next_key key b) p
unfolding key_of
onward_longer key b NoEquals = refl
onward_longer key b (Parted n v) = refl

module _ (s : Bytes) (i key : ℕ) where
  pub onward_miss : i < length s → (get_or s i 0 ≡ 61 → ⊥) → onward key (parts (drop i s)) ≡ onward (next_key key (get_or s i 0)) (parts (drop (i + 1) s))
  onward_miss h e = rw (drop-cons s i 0 h, parts_miss _ _ (ne_eqb _ _ e), add-one) (onward_longer key (get_or s i 0) (parts (drop (suc i) s)))

  pub onward_hit : i < length s → get_or s i 0 ≡ 61 → onward key (parts (drop i s)) ≡ Labelled (by_code (place_of_key 1 key keys) known) (drop (i + 1) s)
  unfolding key_of
  onward_hit h e = rw (drop-cons s i 0 h, parts_hit _ _ (eq-eqb _ _ e), add-one)

  pub onward_end : length s ≤ i → onward key (parts (drop i s)) ≡ Unparted
  unfolding parts
  onward_end h = rw (drop_of_length-le s h)

-- a byte more of the label
pub onward_next : (s : Bytes) (i key next : ℕ) → i < length s → (get_or s i 0 ≡ 61 → ⊥) → line_of s ≡ onward key (parts (drop i s)) → next ≡ next_key key (get_or s i 0)
    → line_of s ≡ onward next (parts (drop (i + 1) s))
onward_next s i key next h e p q = p ∙ onward_miss s i key h e ∙ ap (λ (k : ℕ). onward k (parts (drop (i + 1) s))) (sym q)

-- THE FIRST TWO BYTES, as the code tests them
pub hashes : (l : Bytes) → starts_with eqb l (35 ∷ 35 ∷ []) ≡ is_label l
hashes [] = refl
hashes (b ∷ []) = ap (λ t. t && false) (eqb_symm 35 b)
hashes (b ∷ c ∷ l) = ap₂ ◌&&◌ (eqb_symm 35 b) (and-true (eqb 35 c) ∙ eqb_symm 35 c)

module _ (l : Bytes) (r : Bool) (told : r ≡ starts_with eqb l (35 ∷ 35 ∷ [])) where
  pub line_plain : r ≡ false → line_of l ≡ Plain
  unfolding line_of
  line_plain e = rw (sym (hashes l) ∙ sym told ∙ e, line_of)

  pub line_label : r ≡ true → line_of l ≡ onward 0 (parts (drop 2 l))
  unfolding line_of
  line_label e = rw (sym (hashes l) ∙ sym told ∙ e, line_of) (onward_start (parts (drop 2 l)))

module _ (l : Bytes) where
  -- ANSWERS
  pub shows_plain : line_of l ≡ Plain → ShowsLine l K.Plain
  shows_plain e = record {
    is = sym e;
    code = λ c at q. let z : ◌≡◌ {A = ℕ} 0 1 = cc in absurd (omega arith);
    high = λ c at q. let z : ◌≡◌ {A = ℕ} 0 1 = cc in absurd (omega arith);
  }

  pub shows_unparted : line_of l ≡ Unparted → ShowsLine l K.Unparted
  shows_unparted e = record {
    is = sym e;
    code = λ c at q. let z : ◌≡◌ {A = ℕ} 0 1 = cc in absurd (omega arith);
    high = λ c at q. let z : ◌≡◌ {A = ℕ} 0 1 = cc in absurd (omega arith);
  }

  pub shows_labelled : (c k at : ℕ) → line_of l ≡ Labelled (by_code k known) (drop at l) → c ≡ k → c < 18 → at ≤ length l → ShowsLine l (K.Labelled c at)
  shows_labelled c k at e d h i = record {
    is = ap (λ (n : ℕ). Labelled (by_code n known) (drop at l)) d ∙ sym e;
    code = λ c' at' q. let z : c ≡ c' = cc in omega arith;
    high = λ c' at' q. let z : at ≡ at' = cc in omega arith;
  }

-- TITLE AND END LINES
-- the label of a code has that code, or it is the skipped one
code_or_none : (c : ℕ) (xs : List Label) → ((by_code c xs).code ≡ c) ⊎ ((by_code c xs).code ≡ 0)
unfolding by_code lookup label
code_or_none c [] = inr refl
code_or_none c (x ∷ xs) = go (eqb c x.code) refl (code_or_none c xs)
  where
    go : (t : Bool) → eqb c x.code ≡ t → ((by_code c xs).code ≡ c) ⊎ ((by_code c xs).code ≡ 0) → ((by_code c (x ∷ xs)).code ≡ c) ⊎ ((by_code c (x ∷ xs)).code ≡ 0)
    go true e h = inl (ap (λ (y : Label). y.code) (code_hit x xs c e) ∙ sym (eqb-true c x.code e))
    go false e (inl h) = inl (ap (λ (y : Label). y.code) (code_miss x xs c e) ∙ h)
    go false e (inr h) = inr (ap (λ (y : Label). y.code) (code_miss x xs c e) ∙ h)

-- k is the code of a label of the list
code_told : (k c : ℕ) (xs : List Label) → 0 < k → (by_code k xs).code ≡ k → eqb c k ≡ eqb k (by_code c xs).code
code_told k c xs p h = go (eqb c k) refl (code_or_none c xs)
  where
    go : (t : Bool) → eqb c k ≡ t → ((by_code c xs).code ≡ c) ⊎ ((by_code c xs).code ≡ 0) → eqb c k ≡ eqb k (by_code c xs).code
    go true e u = e ∙ sym (eq-eqb k (by_code c xs).code (sym (ap (λ (n : ℕ). (by_code n xs).code) (eqb-true c k e) ∙ h)))
    go false e (inl u) = eqb_symm c k ∙ ap (eqb k) (sym u)
    go false e (inr u) = e ∙ sym (ne_eqb k (by_code c xs).code (λ q. omega arith))

-- the code of an answer is that of the line
answer_code : (k : ℕ) (l : Bytes) (r : LineKind) → 0 < k → (by_code k known).code ≡ k → eqb (code_shown r) k ≡ has_code k (shown_line l r)
answer_code k l K.Plain p h = ne_eqb 0 k (λ e. omega arith)
answer_code k l K.Unparted p h = ne_eqb 0 k (λ e. omega arith)
answer_code k l (K.Labelled c at) p h = code_told k c known p h

module _ (l : Bytes) (r : LineKind) (h : ShowsLine l r) where
  pub title_told : eqb (code_shown r) 1 ≡ title_line l
  unfolding title_line by_code known label
  title_told = answer_code 1 l r (omega arith) refl ∙ ap (has_code 1) h.is

  pub end_told : eqb (code_shown r) 13 ≡ end_line l
  unfolding end_line by_code known label
  end_told = answer_code 13 l r (omega arith) refl ∙ ap (has_code 13) h.is
