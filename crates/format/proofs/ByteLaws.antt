-- What the tests on bytes say of numbers, and the clauses of the definitions of Bytes and Labels as equations, with their forms at an index for a loop in code.
-- Serves document 01, "Lines and labels". Assumes nothing.
use Prim.Native.Nat.{ℕ, zero, suc, ◌+◌, ◌-◌, ◌≤◌, ◌<◌}
use mathlib.Core.Path.{◌≡◌, refl, sym, ap, ◌∙◌}
use mathlib.Core.Bool.{Bool, true, false, not, ◌&&◌, ◌||◌}
use mathlib.Core.List.{[], ◌∷◌}
use native.Mathlib.Omega.{arith}
use native.Mathlib.Nat.{add-zero}
use native.Mathlib.Numerals.{add-one}
use lib.ListN.{length, get_or, take, drop, drop_of_length-le}
use lib.Seq.{drop-cons}
use lib.Dec.{eqb, leb}
use borrow.Author.Tests.{eq-eqb, ne_eqb, le-leb, lt-leb, leb-true, leb-false}
use Rattle.lists.specs.Lists.{span}
use Rattle.format.specs.Bytes.{Bytes, within, is_in, head_is, blank, gap, allowed, dollar, strip, hash, is_label, unlabelled}
use Rattle.format.specs.Labels.{NoEquals, Parted, longer, parts, raise, normal}
use Rattle.format.specs.Rows.{digit, upper, lower}
use Rattle.lists.proofs.Bools.{torn, and_parts, and_both, and_left_false, and_right_false, or_parts, or_neither, or_left, or_right}

-- BETWEEN TWO NUMBERS
module _ (lowest highest n : ℕ) where
  pub within_true : within lowest highest n ≡ true → (lowest ≤ n) × (n ≤ highest)
  unfolding within
  within_true e = let p : (leb lowest n ≡ true) × (leb n highest ≡ true) = and_parts (leb lowest n) (leb n highest) e in (leb-true lowest n p.0, leb-true n highest p.1)

  pub within_is : lowest ≤ n → n ≤ highest → within lowest highest n ≡ true
  unfolding within
  within_is h k = and_both (leb lowest n) (leb n highest) (le-leb lowest n h) (le-leb n highest k)

  pub within_low : n < lowest → within lowest highest n ≡ false
  unfolding within
  within_low h = and_left_false (leb lowest n) (leb n highest) (lt-leb lowest n h)

  pub within_high : highest < n → within lowest highest n ≡ false
  unfolding within
  within_high h = and_right_false (leb lowest n) (leb n highest) (lt-leb n highest h)

-- no two of 48 to 57, 65 to 90, 97 to 122 have a byte in common
module _ (b : ℕ) where
  pub digit_bounds : digit b ≡ true → (48 ≤ b) × (b ≤ 57)
  digit_bounds e = within_true 48 57 b e

  pub upper_bounds : upper b ≡ true → (65 ≤ b) × (b ≤ 90)
  upper_bounds e = within_true 65 90 b e

  pub lower_bounds : lower b ≡ true → (97 ≤ b) × (b ≤ 122)
  lower_bounds e = within_true 97 122 b e

  pub digit_upper : digit b ≡ true → upper b ≡ false
  digit_upper e = within_low 65 90 b (omega (arith, (digit_bounds e).1))

  pub digit_lower : digit b ≡ true → lower b ≡ false
  digit_lower e = within_low 97 122 b (omega (arith, (digit_bounds e).1))

  pub upper_digit : upper b ≡ true → digit b ≡ false
  upper_digit e = within_high 48 57 b (omega (arith, (upper_bounds e).0))

  pub upper_lower : upper b ≡ true → lower b ≡ false
  upper_lower e = within_low 97 122 b (omega (arith, (upper_bounds e).1))

  pub lower_digit : lower b ≡ true → digit b ≡ false
  lower_digit e = within_high 48 57 b (omega (arith, (lower_bounds e).0))

  pub lower_upper : lower b ≡ true → upper b ≡ false
  lower_upper e = within_high 65 90 b (omega (arith, (lower_bounds e).0))

-- GAPS
module _ (b : ℕ) where
  pub gap_blank : blank b ≡ true → gap b ≡ true
  unfolding gap
  gap_blank e = or_left (blank b) (eqb b 10) e

  pub gap_feed : b ≡ 10 → gap b ≡ true
  unfolding gap
  gap_feed e = or_right (blank b) (eqb b 10) (eq-eqb b 10 e)

  pub gap_space : b ≡ 32 → gap b ≡ true
  unfolding blank
  gap_space e = gap_blank (or_left (eqb b 32) (eqb b 9 || eqb b 13) (eq-eqb b 32 e))

  pub gap_tab : b ≡ 9 → gap b ≡ true
  unfolding blank
  gap_tab e = gap_blank (or_right (eqb b 32) (eqb b 9 || eqb b 13) (or_left (eqb b 9) (eqb b 13) (eq-eqb b 9 e)))

  pub gap_return : b ≡ 13 → gap b ≡ true
  unfolding blank
  gap_return e = gap_blank (or_right (eqb b 32) (eqb b 9 || eqb b 13) (or_right (eqb b 9) (eqb b 13) (eq-eqb b 13 e)))

  -- what is none of the four is no gap
  pub gap_none : (b ≡ 32 → ⊥) → (b ≡ 9 → ⊥) → (b ≡ 13 → ⊥) → (b ≡ 10 → ⊥) → gap b ≡ false
  unfolding gap blank
  gap_none e f g h = rw (ne_eqb b 32 e, ne_eqb b 9 f, ne_eqb b 13 g, ne_eqb b 10 h)

  pub ink_big : 33 ≤ b → gap b ≡ false
  ink_big h = gap_none (λ e. omega arith) (λ e. omega arith) (λ e. omega arith) (λ e. omega arith)

  pub gap_small : gap b ≡ true → b ≤ 32
  gap_small e = go (leb b 32) refl
    where
      go : (t : Bool) → leb b 32 ≡ t → b ≤ 32
      go true f = leb-true b 32 f
      go false f = torn (gap b) e (ink_big (leb-false b 32 f))

  pub no_feed : gap b ≡ false → eqb b 10 ≡ false
  unfolding gap
  no_feed e = (or_parts (blank b) (eqb b 10) e).1

  pub digit_ink : digit b ≡ true → gap b ≡ false
  digit_ink e = ink_big (omega (arith, (digit_bounds b e).0))

  pub upper_ink : upper b ≡ true → gap b ≡ false
  upper_ink e = ink_big (omega (arith, (upper_bounds b e).0))

  pub lower_ink : lower b ≡ true → gap b ≡ false
  lower_ink e = ink_big (omega (arith, (lower_bounds b e).0))

  -- ALLOWED BYTES
  pub allowed_gap : gap b ≡ true → allowed b ≡ true
  unfolding allowed
  allowed_gap e = or_left (gap b) (within 32 126 b) e

  pub allowed_seen : 32 ≤ b → b ≤ 126 → allowed b ≡ true
  unfolding allowed
  allowed_seen h k = or_right (gap b) (within 32 126 b) (within_is 32 126 b h k)

  pub allowed_low : b < 32 → gap b ≡ false → allowed b ≡ false
  unfolding allowed
  allowed_low h e = or_neither (gap b) (within 32 126 b) e (within_low 32 126 b h)

  pub allowed_high : 126 < b → allowed b ≡ false
  unfolding allowed
  allowed_high h = or_neither (gap b) (within 32 126 b) (ink_big (omega arith)) (within_high 32 126 b h)

pub space_gap : gap 32 ≡ true
space_gap = gap_space 32 refl

pub feed_gap : gap 10 ≡ true
feed_gap = gap_feed 10 refl

-- COMMENTS: strip is a front of the bytes
pub strip_two : (b : ℕ) (s : Bytes) → (dollar b && head_is dollar s) ≡ true → strip (b ∷ s) ≡ []
unfolding strip
strip_two b s e = rw (e, strip)

pub strip_on : (b : ℕ) (s : Bytes) → (dollar b && head_is dollar s) ≡ false → strip (b ∷ s) ≡ b ∷ strip s
unfolding strip
strip_on b s e = rw (e, strip)

pub strip_take : (s : Bytes) → strip s ≡ take (length (strip s)) s
unfolding strip
strip_take [] = refl
strip_take (b ∷ s) = go (dollar b && head_is dollar s) refl (strip_take s)
  where
    go : (t : Bool) → (dollar b && head_is dollar s) ≡ t → strip s ≡ take (length (strip s)) s → strip (b ∷ s) ≡ take (length (strip (b ∷ s))) (b ∷ s)
    go true e ih = rw (strip_two b s e)
    go false e ih = rw (strip_on b s e) (ap (λ (r : Bytes). b ∷ r) ih)

pub strip_le : (s : Bytes) → length (strip s) ≤ length s
unfolding strip
strip_le [] = omega arith
strip_le (b ∷ s) = go (dollar b && head_is dollar s) refl (strip_le s)
  where
    go : (t : Bool) → (dollar b && head_is dollar s) ≡ t → length (strip s) ≤ length s → length (strip (b ∷ s)) ≤ length (b ∷ s)
    go true e ih = rw (strip_two b s e) (omega arith)
    go false e ih = rw (strip_on b s e) (omega arith)

-- its end by an index: the loop looks for two dollars
module _ (s : Bytes) (i : ℕ) where
  next_dollar : i + 1 < length s → head_is dollar (drop (suc i) s) ≡ dollar (get_or s (i + 1) 0)
  next_dollar h = rw (drop-cons s (suc i) 0 (omega arith), add-one)

  pub strip_at_two : i + 1 < length s → get_or s i 0 ≡ 36 → get_or s (i + 1) 0 ≡ 36 → i + length (strip (drop i s)) ≡ i
  strip_at_two h e f =
      let q : (dollar (get_or s i 0) && head_is dollar (drop (suc i) s)) ≡ true = rw (next_dollar h, eq-eqb _ _ e, eq-eqb _ _ f) in
      rw (drop-cons s i 0 (omega arith), strip_two (get_or s i 0) (drop (suc i) s) q) (add-zero i)

  strip_at_on : i < length s → (dollar (get_or s i 0) && head_is dollar (drop (suc i) s)) ≡ false → i + length (strip (drop i s)) ≡ i + 1 + length (strip (drop (i + 1) s))
  strip_at_on h e = rw (drop-cons s i 0 h, strip_on (get_or s i 0) (drop (suc i) s) e, add-one) (omega arith)

  pub strip_at_other : i < length s → (get_or s i 0 ≡ 36 → ⊥) → i + length (strip (drop i s)) ≡ i + 1 + length (strip (drop (i + 1) s))
  strip_at_other h e = strip_at_on h (and_left_false _ _ (ne_eqb _ _ e))

  pub strip_at_one : i + 1 < length s → (get_or s (i + 1) 0 ≡ 36 → ⊥) → i + length (strip (drop i s)) ≡ i + 1 + length (strip (drop (i + 1) s))
  strip_at_one h e = strip_at_on (omega arith) (and_right_false (dollar (get_or s i 0)) _ (next_dollar h ∙ ne_eqb _ _ e))

  pub strip_at_end : length s ≤ i → i + length (strip (drop i s)) ≡ i
  unfolding strip
  strip_at_end h = rw (drop_of_length-le s h) (add-zero i)

  -- one byte is left: it is no comment
  pub strip_at_last : i < length s → length s ≤ i + 1 → i + length (strip (drop i s)) ≡ i + 1
  unfolding strip
  strip_at_last h k =
      let q : drop (suc i) s ≡ [] = drop_of_length-le s {i = suc i} (omega arith) in
      let e : (dollar (get_or s i 0) && head_is dollar (drop (suc i) s)) ≡ false = and_right_false (dollar (get_or s i 0)) _ (ap (head_is dollar) q) in
      rw (drop-cons s i 0 h, strip_on (get_or s i 0) (drop (suc i) s) e, q)

-- LABELS: the first `=`
abbrev pub unequal : ℕ → Bool
unequal b = not (eqb b 61)

pub parts_hit : (b : ℕ) (s : Bytes) → eqb b 61 ≡ true → parts (b ∷ s) ≡ Parted [] s
unfolding parts
parts_hit b s e = rw (e, parts)

pub parts_miss : (b : ℕ) (s : Bytes) → eqb b 61 ≡ false → parts (b ∷ s) ≡ longer b (parts s)
unfolding parts
parts_miss b s e = rw (e, parts)

pub parts_none : (s : Bytes) → length s ≤ span unequal s → parts s ≡ NoEquals
unfolding parts span
parts_none [] h = refl
parts_none (b ∷ s) h = go (eqb b 61) refl (parts_none s)
  where
    go : (t : Bool) → eqb b 61 ≡ t → (length s ≤ span unequal s → parts s ≡ NoEquals) → parts (b ∷ s) ≡ NoEquals
    go true e ih = let q : span unequal (b ∷ s) ≡ 0 = rw (e, span) in absurd (omega arith)
    go false e ih = let q : span unequal (b ∷ s) ≡ suc (span unequal s) = rw (e, span) in parts_miss b s e ∙ ap (longer b) (ih (omega arith))

parts_cut : (s : Bytes) (i : ℕ) → i < length s → span unequal s ≡ i → parts s ≡ Parted (take i s) (drop (suc i) s)
unfolding parts span
parts_cut [] i h k = absurd (omega arith)
parts_cut (b ∷ s) i h k = go (eqb b 61) refl i h k (parts_cut s)
  where
    go : (t : Bool) → eqb b 61 ≡ t → (i : ℕ) → i < suc (length s) → span unequal (b ∷ s) ≡ i → ((i : ℕ) → i < length s → span unequal s ≡ i → parts s ≡ Parted (take i s) (drop (suc i) s))
        → parts (b ∷ s) ≡ Parted (take i (b ∷ s)) (drop (suc i) (b ∷ s))
    go true e zero h k ih = parts_hit b s e
    go true e (suc i) h k ih = let q : span unequal (b ∷ s) ≡ 0 = rw (e, span) in absurd (omega arith)
    go false e zero h k ih = let q : span unequal (b ∷ s) ≡ suc (span unequal s) = rw (e, span) in absurd (omega arith)
    go false e (suc i) h k ih = let q : span unequal (b ∷ s) ≡ suc (span unequal s) = rw (e, span) in parts_miss b s e ∙ ap (longer b) (ih i (omega arith) (omega arith))

pub parts_at : (s : Bytes) (i : ℕ) → i < length s → span unequal s ≡ i → parts s ≡ Parted (take i s) (drop (i + 1) s)
parts_at s i h k = rw (add-one i) (parts_cut s i h k)

-- comparison: what is dropped, and what is raised
abbrev pub passed : ℕ → Bool
passed b = is_in b (32 ∷ 45 ∷ 47 ∷ 95 ∷ [])

pub normal_drop : (b : ℕ) (s : Bytes) → passed b ≡ true → normal (b ∷ s) ≡ normal s
unfolding normal
normal_drop b s e = rw (e, normal)

pub normal_keep : (b : ℕ) (s : Bytes) → passed b ≡ false → normal (b ∷ s) ≡ raise b ∷ normal s
unfolding normal
normal_keep b s e = rw (e, normal)

pub raise_lower : (b : ℕ) → lower b ≡ true → raise b ≡ b - 32
unfolding raise
raise_lower b e = rw (e, raise)

pub raise_other : (b : ℕ) → lower b ≡ false → raise b ≡ b
unfolding raise
raise_other b e = rw (e, raise)

module _ (s : Bytes) (i : ℕ) where
  pub normal_at_drop : i < length s → passed (get_or s i 0) ≡ true → normal (drop i s) ≡ normal (drop (i + 1) s)
  normal_at_drop h e = rw (drop-cons s i 0 h, add-one) (normal_drop _ _ e)

  pub normal_at_keep : i < length s → passed (get_or s i 0) ≡ false → normal (drop i s) ≡ raise (get_or s i 0) ∷ normal (drop (i + 1) s)
  normal_at_keep h e = rw (drop-cons s i 0 h, add-one) (normal_keep _ _ e)

  pub normal_at_end : length s ≤ i → normal (drop i s) ≡ []
  unfolding normal
  normal_at_end h = rw (drop_of_length-le s h)

-- LABEL LINES
pub unlabelled_cons : (b : ℕ) (s : Bytes) → unlabelled (b ∷ s) ≡ (not (eqb b 10 && is_label s) && unlabelled s)
unfolding unlabelled
unlabelled_cons b s = refl

module _ (s : Bytes) (i : ℕ) where
  pub label_at : i + 1 < length s → is_label (drop i s) ≡ (hash (get_or s i 0) && hash (get_or s (i + 1) 0))
  label_at h = rw (drop-cons s i 0 (omega arith), drop-cons s (suc i) 0 (omega arith), add-one)

  pub label_at_end : length s ≤ i + 1 → is_label (drop i s) ≡ false
  label_at_end h = go (leb (length s) i) refl
    where
      go : (t : Bool) → leb (length s) i ≡ t → is_label (drop i s) ≡ false
      go true e = ap is_label (drop_of_length-le s (leb-true _ _ e))
      go false e =
          let f : head_is hash (drop (suc i) s) ≡ false = ap (head_is hash) (drop_of_length-le s {i = suc i} (omega arith)) in
          ap is_label (drop-cons s i 0 (leb-false _ _ e)) ∙ and_right_false (hash (get_or s i 0)) (head_is hash (drop (suc i) s)) f

  pub unlabelled_at_hit : i < length s → get_or s i 0 ≡ 10 → is_label (drop (i + 1) s) ≡ true → unlabelled (drop i s) ≡ false
  unlabelled_at_hit h e f = rw (drop-cons s i 0 h, unlabelled_cons (get_or s i 0) (drop (suc i) s), eq-eqb _ _ e, ← (add-one i), f)

  pub unlabelled_at_feed : i < length s → is_label (drop (i + 1) s) ≡ false → unlabelled (drop i s) ≡ unlabelled (drop (i + 1) s)
  unlabelled_at_feed h f =
      let g : (eqb (get_or s i 0) 10 && is_label (drop (suc i) s)) ≡ false = and_right_false (eqb (get_or s i 0) 10) _ (ap (λ (n : ℕ). is_label (drop n s)) (sym (add-one i)) ∙ f) in
      rw (drop-cons s i 0 h, unlabelled_cons (get_or s i 0) (drop (suc i) s), g, add-one)

  pub unlabelled_at_other : i < length s → (get_or s i 0 ≡ 10 → ⊥) → unlabelled (drop i s) ≡ unlabelled (drop (i + 1) s)
  unlabelled_at_other h e = rw (drop-cons s i 0 h, unlabelled_cons (get_or s i 0) (drop (suc i) s), ne_eqb _ _ e, add-one)

  pub unlabelled_at_end : length s ≤ i → unlabelled (drop i s) ≡ true
  unfolding unlabelled
  unlabelled_at_end h = rw (drop_of_length-le s h)
