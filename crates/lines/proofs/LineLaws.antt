-- Where a line ends and where its comment starts, by an index: what the loops over one line cite. Serves document 01, "Lines and labels". Assumes nothing.
use Prim.Native.Nat.{ℕ, zero, suc, ◌+◌, ◌-◌, ◌%◌, max, ◌≤◌, ◌<◌}
use mathlib.Core.Path.{◌≡◌, refl, sym, subst, ap, ◌∙◌}
use mathlib.Core.Bool.{Bool, true, false, ◌&&◌, cond}
use mathlib.Core.List.{[], ◌∷◌}
use native.Mathlib.Numerals.{add-one}
use native.Mathlib.Omega.{arith}
use lib.ListN.{length, get_or, take, drop, length-drop, drop_of_length-le}
use lib.Seq.{drop-cons}
use lib.Dec.{eqb, ltb, leb}
use borrow.Author.Tests.{lt-ltb, le-ltb, ltb-true, ltb-false, eq-eqb, ne_eqb, le-leb, leb-true, leb-false}
use Rattle.std.specs.Prelude.{Option, Some, None, unwrap_or}
use Rattle.std.specs.List.{position_or_len}
use Rattle.lists.specs.Lists.{all}
use Rattle.lists.proofs.Bools.{both_ways, and_right_false, or_right}
use Rattle.lists.proofs.LibraryLaws.{twos}
use Rattle.lists.proofs.ListLaws.{all_nil, all_in, all_out, all_both, all_parts}
use Rattle.format.specs.Bytes.{Bytes, blank, gap, within, allowed, line_len, dollar, strip}
use Rattle.format.proofs.CutLaws.{len_hit, len_miss, len_at_hit, len_at_miss, len_at_end, line_len_le, line_len_pos}
use Rattle.format.proofs.ByteLaws.{within_true, within_is, strip_two, strip_on, strip_take, strip_le}
use Rattle.lines.specs.Cuts.{LineEnd, Uncommented}
use Rattle.lines.specs.Looks.{line_from, Looking, CleanEnd}

-- what holds at both ends of a count from a place up to the end of the bytes holds where it stops
pub at_top : (P : ℕ → Type 0) (a b i : ℕ) → P a → P i → (a ≤ b → i ≤ b) → b ≤ i → P (max a b)
at_top P a b i p q h k = by (leb a b) refl
  where
    by : (t : Bool) → leb a b ≡ t → P (max a b)
    by true e = let l : a ≤ b = leb-true a b e in let m : i ≡ max a b = omega (arith, h l) in subst P m q
    by false e = let m : a ≡ max a b = omega (arith, leb-false a b e) in subst P m p

-- THE LINE'S END
pub ends : (s : Bytes) (at r : ℕ) → r ≡ at + line_len (drop at s) → LineEnd s at r
ends s at r e = record {
  is = e;
  low = omega arith;
  more = λ h. let k : 0 < length (drop at s) = simp length-drop (omega arith) in omega (arith, line_len_pos (drop at s) k);
  high = λ h. omega (arith, line_len_le (drop at s), length-drop at s);
  reach = omega (arith, line_len_le (drop at s), length-drop at s);
}

-- THE COMMENT'S START: the first `$$` among each two bytes side by side
abbrev pub dollars : Bytes → Bool
dollars w = eqb (length w) 2 && (eqb (get_or w 0 0) 36 && eqb (get_or w 1 0) 36)

-- the place of the first that passes, if there is one
abbrev found : (n k : ℕ) → Option ℕ
found n k = cond (ltb n k) (Some n) None

found_suc : (n k d : ℕ) → suc (unwrap_or (found n k) d) ≡ unwrap_or (found (1 + n) (suc k)) (suc d)
found_suc n k d = by (ltb n k) refl
  where
    by : (t : Bool) → ltb n k ≡ t → suc (unwrap_or (cond t (Some n) None) d) ≡ unwrap_or (found (1 + n) (suc k)) (suc d)
    by true e = rw (lt-ltb (1 + n) (suc k) (omega (arith, ltb-true n k e))) (omega arith)
    by false e = rw (le-ltb (1 + n) (suc k) (omega (arith, ltb-false n k e)))

found_first : (k d : ℕ) → unwrap_or (found 0 (suc k)) d ≡ 0
found_first k d = rw (lt-ltb 0 (suc k) (omega arith))

comment_place : (s : Bytes) → length (strip s) ≡ unwrap_or (found (position_or_len dollars (twos s)) (length (twos s))) (length s)
unfolding strip
comment_place [] = refl
comment_place (b ∷ []) = ap length (strip_on b [] (and_right_false (dollar b) false refl))
comment_place (b ∷ c ∷ s) = by (dollar b && dollar c) refl (comment_place (c ∷ s))
  where
    by : (t : Bool) → (dollar b && dollar c) ≡ t → length (strip (c ∷ s)) ≡ unwrap_or (found (position_or_len dollars (twos (c ∷ s))) (length (twos (c ∷ s)))) (length (c ∷ s))
        → length (strip (b ∷ c ∷ s)) ≡ unwrap_or (found (position_or_len dollars (twos (b ∷ c ∷ s))) (length (twos (b ∷ c ∷ s)))) (length (b ∷ c ∷ s))
    by true e ih = rw (strip_two b (c ∷ s) e, e) (sym (found_first (length (twos (c ∷ s))) (length (b ∷ c ∷ s))))
    by false e ih = rw (strip_on b (c ∷ s) e, e) (ap suc ih ∙ found_suc (position_or_len dollars (twos (c ∷ s))) (length (twos (c ∷ s))) (length (c ∷ s)))

pub uncomments : (s : Bytes) (r : ℕ) → r ≡ unwrap_or (found (position_or_len dollars (twos s)) (length (twos s))) (length s) → Uncommented s r
uncomments s r e =
    let q : r ≡ length (strip s) = e ∙ sym (comment_place s) in
    record { is = q; part = strip_take s ∙ ap (λ (n : ℕ). take n s) (sym q); high = omega (arith, strip_le s, q) }

-- A LINE OF ALLOWED BYTES, byte by byte
printed : (b : ℕ) → 32 ≤ b → leb b 126 ≡ true → allowed b ≡ true
unfolding allowed within
printed b l g = or_right (gap b) (leb 32 b && leb b 126) (rw (le-leb _ _ l, g))

module _ (s : Bytes) (at i : ℕ) (k : Looking s at i) where
  clean_ends : (r : ℕ) → at + line_len (drop at s) ≡ r → all allowed (line_from s i) ≡ true → CleanEnd s at r
  clean_ends r e f = record { end = ends s at r (sym e); clean = k.1 ∙ f }

  -- the input ends
  pub looked_all : length s ≤ i → CleanEnd s at i
  unfolding line_len
  looked_all h =
      let e : line_from s i ≡ [] = rw (drop_of_length-le s h) in
      clean_ends i (k.0 ∙ len_at_end s i h) (ap (all allowed) e ∙ all_nil allowed)

  module _ (h : i < length s) where
    -- a line feed
    pub looked_feed : get_or s i 0 ≡ 10 → CleanEnd s at (i + 1)
    unfolding allowed gap blank
    looked_feed e =
        let l : line_from s i ≡ get_or s i 0 ∷ [] = rw (drop-cons s i 0 h, len_hit (get_or s i 0) (drop (suc i) s) (eq-eqb _ _ e)) in
        clean_ends (i + 1) (k.0 ∙ len_at_hit s i h e) (ap (all allowed) l ∙ all_both allowed (get_or s i 0) [] (rw e) (all_nil allowed))

    -- any other byte
    module _ (o : get_or s i 0 ≡ 10 → ⊥) where
      line_miss : line_from s i ≡ get_or s i 0 ∷ line_from s (i + 1)
      line_miss = rw (drop-cons s i 0 h, len_miss (get_or s i 0) (drop (suc i) s) (ne_eqb _ _ o), add-one)

      pub looked_wrong : allowed (get_or s i 0) ≡ false → all allowed (line_from s at) ≡ false
      looked_wrong f = k.1 ∙ ap (all allowed) line_miss ∙ all_out allowed (get_or s i 0) (line_from s (i + 1)) f

      pub looks_on : allowed (get_or s i 0) ≡ true → Looking s at (i + 1)
      looks_on f = (k.0 ∙ len_at_miss s i h o, k.1 ∙ ap (all allowed) line_miss ∙ all_in allowed (get_or s i 0) (line_from s (i + 1)) f)

    -- a byte from 32 to 126
    pub looks_past : 32 ≤ get_or s i 0 → leb (get_or s i 0) 126 ≡ true → Looking s at (i + 1)
    looks_past l g = looks_on (λ e. omega arith) (printed (get_or s i 0) l g)

-- BYTES FROM 32 TO 126, several at a time
pub plain_test : (b : ℕ) → b < 256 → leb ((b + 224) % 256) 94 ≡ within 32 126 b
plain_test b l = both_ways (leb ((b + 224) % 256) 94) (within 32 126 b) fore back
  where
    fore : leb ((b + 224) % 256) 94 ≡ true → within 32 126 b ≡ true
    fore e = let q : (b + 224) % 256 ≤ 94 = leb-true ((b + 224) % 256) 94 e in within_is 32 126 b (omega arith) (omega arith)

    back : within 32 126 b ≡ true → leb ((b + 224) % 256) 94 ≡ true
    back e = let q = within_true 32 126 b e in le-leb ((b + 224) % 256) 94 (omega arith)

looks_over : (s : Bytes) (at i n j : ℕ) → j ≡ i + n → j ≤ length s → all (within 32 126) (take n (drop i s)) ≡ true → Looking s at i → Looking s at j
looks_over s at i zero j e h a k = let q : j ≡ i = omega arith in rw q k
looks_over s at i (suc n) j e h a k =
    let q : take (suc n) (drop i s) ≡ get_or s i 0 ∷ take n (drop (i + 1) s) = rw (drop-cons s i 0 (omega arith), add-one) in
    let p = all_parts (within 32 126) (get_or s i 0) (take n (drop (i + 1) s)) (ap (all (within 32 126)) (sym q) ∙ a) in
    let w = within_true 32 126 (get_or s i 0) p.0 in
    looks_over s at (i + 1) n j (omega arith) h p.1 (looks_past s at i k (omega arith) w.0 (le-leb _ _ w.1))

pub looks_far : (s : Bytes) (at i j : ℕ) → Looking s at i → i ≤ j → j ≤ length s → all (within 32 126) (take (j - i) (drop i s)) ≡ true → Looking s at j
looks_far s at i j k l h a = looks_over s at i (j - i) j (omega arith) h a k
