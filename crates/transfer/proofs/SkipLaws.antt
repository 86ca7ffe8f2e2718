-- Lines that are not looked at change nothing in a piece that is open, nor do they end a text: the code may go on from the next line that is. Serves
-- document 01, "Walking a transfer file". Assumes nothing.
use Prim.Native.Nat.{ℕ, suc, ◌+◌, ◌-◌, ◌≤◌, ◌<◌}
use mathlib.Core.Path.{◌≡◌, refl, sym, ap, ◌∙◌}
use mathlib.Core.Bool.{Bool, true, false, ◌&&◌, ◌||◌}
use mathlib.Core.List.{List, [], ◌∷◌}
use native.Mathlib.Nat.{add-zero}
use native.Mathlib.Numerals.{add-one}
use native.Mathlib.Omega.{arith}
use lib.ListN.{length, get_or, take, drop, drop_of_length-le}
use lib.Seq.{drop-drop, drop-cons, length-take-le}
use lib.Dec.{eqb}
use borrow.Author.Tests.{eq-eqb, ne_eqb}
use Rattle.std.specs.Prelude.{slice_range}
use Rattle.lists.proofs.LibraryLaws.{rest_is}
use Rattle.lists.proofs.Bools.{eqb_same, and_both, and_left_false, and_right_false}
use Rattle.format.specs.Bytes.{Bytes, head_is, hash, cut, line_len}
use Rattle.format.proofs.CutLaws.{len_hit, len_miss, cut_first, line_len_le}
use Rattle.transfer.specs.Skipping.{any_byte, starts, skipped, fresh_at, starts_at}

-- CLAUSES
module _ (kind : ℕ → Bool) (fresh : Bool) (b : ℕ) (s : Bytes) where
  skip_hit : (starts kind (b ∷ s) && fresh) ≡ true → skipped kind fresh (b ∷ s) ≡ 0
  unfolding skipped
  skip_hit e = rw (e, skipped)

  skip_miss : (starts kind (b ∷ s) && fresh) ≡ false → skipped kind fresh (b ∷ s) ≡ suc (skipped kind (eqb b 10) s)
  unfolding skipped
  skip_miss e = rw (e, skipped)

pub no_hash_first : (s : Bytes) → starts any_byte s ≡ false → head_is hash s ≡ false
unfolding starts
no_hash_first [] e = refl
no_hash_first (b ∷ s) e = by (hash b) e
  where
    by : (h : Bool) → (h && true) ≡ false → h ≡ false
    by true f = f
    by false f = refl

skip_nil : (kind : ℕ → Bool) (fresh : Bool) → skipped kind fresh [] ≡ 0
unfolding skipped
skip_nil kind fresh = refl

-- BY AN INDEX
pub fresh_start : (s : Bytes) (at : ℕ) → fresh_at s at at ≡ true
unfolding fresh_at
fresh_start s at = ap (λ (t : Bool). t || eqb (get_or s (at - 1) 0) 10) (eqb_same at)

pub skip_start : (kind : ℕ → Bool) (s : Bytes) (at : ℕ) → at + skipped kind true (drop at s) ≡ at + skipped kind (fresh_at s at at) (drop at s)
skip_start kind s at = ap (λ (t : Bool). at + skipped kind t (drop at s)) (sym (fresh_start s at))

pub fresh_next : (s : Bytes) (at i : ℕ) → at ≤ i → fresh_at s at (i + 1) ≡ eqb (get_or s i 0) 10
unfolding fresh_at
fresh_next s at i h =
    let p : i + 1 - 1 ≡ i = omega arith in
    rw (ne_eqb (i + 1) at (λ e. omega arith), p)

-- as the code tests it
module _ (kind : ℕ → Bool) (s : Bytes) (some : 0 < length s) where
  pub heeded_not : (get_or s 0 0 ≡ 35 → ⊥) → eqb (get_or s 0 0) 35 ≡ starts kind s
  unfolding starts
  heeded_not e = by s some e
    where
      by : (s : Bytes) → 0 < length s → (get_or s 0 0 ≡ 35 → ⊥) → eqb (get_or s 0 0) 35 ≡ starts kind s
      by [] h e = absurd (omega arith)
      by (b ∷ s) h e = ne_eqb b 35 e ∙ sym (and_left_false (hash b) _ (ne_eqb b 35 e))

  pub heeded_third : (third : ℕ) → get_or s 0 0 ≡ 35 → third ≡ get_or s 2 0 → kind third ≡ starts kind s
  unfolding starts
  heeded_third third e f = ap kind f ∙ by s some e
    where
      by : (s : Bytes) → 0 < length s → get_or s 0 0 ≡ 35 → kind (get_or s 2 0) ≡ starts kind s
      by [] h e = absurd (omega arith)
      by (b ∷ s) h e = rw (eq-eqb b 35 e)

-- r: whether the line that starts at i is looked at
module _ (kind : ℕ → Bool) (s : Bytes) (at i : ℕ) (r : Bool) (told : r ≡ starts kind (slice_range s i (length s))) where
  start_is : starts_at kind s at i ≡ (r && fresh_at s at i)
  unfolding starts_at
  start_is = ap (λ t. t && fresh_at s at i) (ap (starts kind) (sym (rest_is i s)) ∙ sym told)

  pub start_other : r ≡ false → r ≡ starts_at kind s at i
  start_other h = h ∙ sym (start_is ∙ and_left_false r (fresh_at s at i) h)

  pub start_first : r ≡ true → i ≡ at → eqb i at ≡ starts_at kind s at i
  unfolding fresh_at
  start_first h e = sym (start_is ∙ rw (h, eq-eqb i at e))

  pub start_behind : r ≡ true → (i ≡ at → ⊥) → eqb (get_or s (i - 1) 0) 10 ≡ starts_at kind s at i
  unfolding fresh_at
  start_behind h e = sym (start_is ∙ rw (h, ne_eqb i at e))

module _ (kind : ℕ → Bool) (s : Bytes) (at i : ℕ) where
  pub skip_at_hit : i < length s → starts_at kind s at i ≡ true → i + skipped kind (fresh_at s at i) (drop i s) ≡ i
  unfolding starts_at
  skip_at_hit h e = rw (drop-cons s i 0 h, skip_hit _ _ _ _ (ap (λ (l : Bytes). starts kind l && fresh_at s at i) (sym (drop-cons s i 0 h)) ∙ e)) (add-zero i)

  pub skip_at_miss : at ≤ i → i < length s → starts_at kind s at i ≡ false → i + skipped kind (fresh_at s at i) (drop i s) ≡ i + 1 + skipped kind (fresh_at s at (i + 1)) (drop (i + 1) s)
  unfolding starts_at
  skip_at_miss k h e = rw (drop-cons s i 0 h, skip_miss _ _ _ _ (ap (λ (l : Bytes). starts kind l && fresh_at s at i) (sym (drop-cons s i 0 h)) ∙ e), fresh_next s at i k, add-one) (omega arith)

  pub skip_at_end : length s ≤ i → i + skipped kind (fresh_at s at i) (drop i s) ≡ i
  skip_at_end h = ap (λ (l : Bytes). i + skipped kind (fresh_at s at i) l) (drop_of_length-le s h) ∙ omega (arith, skip_nil kind (fresh_at s at i))

-- WHATEVER GOES OVER LINES and is not changed by one that is not looked at
module _ (kind : ℕ → Bool) {X : Type 0} (goes : (at : ℕ) → List Bytes → X)
    (passes : (at : ℕ) (s : Bytes) (ls : List Bytes) → starts kind s ≡ false → goes at (take (line_len s) s ∷ ls) ≡ goes (at + length (take (line_len s) s)) ls) where
  first_passed : (at b : ℕ) (s : Bytes) → starts kind (b ∷ s) ≡ false → goes at (cut (b ∷ s)) ≡ goes (at + line_len (b ∷ s)) (cut (drop (line_len (b ∷ s)) (b ∷ s)))
  first_passed at b s e =
      let n : ℕ = line_len (b ∷ s) in
      ap (goes at) (cut_first (b ∷ s) (omega arith))
      ∙ passes at (b ∷ s) (cut (drop n (b ∷ s))) e
      ∙ ap (λ (k : ℕ). goes (at + k) (cut (drop n (b ∷ s)))) (length-take-le n (b ∷ s) (line_len_le (b ∷ s)))

  -- from a line's start, or from inside a line, up to the first line that is looked at
  abbrev Passed : Bool → ℕ → Bytes → Type 0
  Passed true at s = goes at (cut s) ≡ goes (at + skipped kind true s) (cut (drop (skipped kind true s) s))
  Passed false at s = goes (at + line_len s) (cut (drop (line_len s) s)) ≡ goes (at + skipped kind false s) (cut (drop (skipped kind false s) s))

  on_byte : (at b : ℕ) (s : Bytes) (t : Bool) → eqb b 10 ≡ t → Passed t (at + 1) s
      → goes (at + line_len (b ∷ s)) (cut (drop (line_len (b ∷ s)) (b ∷ s))) ≡ goes (at + suc (skipped kind t s)) (cut (drop (skipped kind t s) s))
  on_byte at b s true e h =
      let q : at + 1 + skipped kind true s ≡ at + suc (skipped kind true s) = omega arith in
      rw (len_hit b s e) (h ∙ ap (λ (n : ℕ). goes n (cut (drop (skipped kind true s) s))) q)
  on_byte at b s false e h =
      let p : at + suc (line_len s) ≡ at + 1 + line_len s = omega arith in
      let q : at + 1 + skipped kind false s ≡ at + suc (skipped kind false s) = omega arith in
      rw (len_miss b s e, p) (h ∙ ap (λ (n : ℕ). goes n (cut (drop (skipped kind false s) s))) q)

  passed_byte : (fresh : Bool) (at b : ℕ) (s : Bytes) (h t : Bool) → starts kind (b ∷ s) ≡ h → eqb b 10 ≡ t → Passed t (at + 1) s → Passed fresh at (b ∷ s)
  passed_byte true at b s true t e f ih = rw (skip_hit kind true b s (and_both (starts kind (b ∷ s)) true e refl)) (ap (λ (n : ℕ). goes n (cut (b ∷ s))) (sym (add-zero at)))
  passed_byte true at b s false t e f ih = rw (skip_miss kind true b s (and_left_false (starts kind (b ∷ s)) true e), f) (first_passed at b s e ∙ on_byte at b s t f ih)
  passed_byte false at b s h t e f ih = rw (skip_miss kind false b s (and_right_false (starts kind (b ∷ s)) false refl), f) (on_byte at b s t f ih)

  passed_nil : (fresh : Bool) (at : ℕ) → Passed fresh at []
  unfolding line_len
  passed_nil true at = rw (skip_nil kind true) (ap (λ (n : ℕ). goes n (cut [])) (sym (add-zero at)))
  passed_nil false at = rw (skip_nil kind false)

  passed : (fresh : Bool) (at : ℕ) (s : Bytes) → Passed fresh at s
  passed fresh at [] = passed_nil fresh at
  passed fresh at (b ∷ s) = passed_byte fresh at b s (starts kind (b ∷ s)) (eqb b 10) refl refl (passed (eqb b 10) (at + 1) s)

  pub skip_on : (s : Bytes) (at r : ℕ) → r ≡ at + skipped kind true (drop at s) → goes at (cut (drop at s)) ≡ goes r (cut (drop r s))
  skip_on s at r e =
      passed true at (drop at s) ∙ ap (λ (l : Bytes). goes (at + skipped kind true (drop at s)) (cut l)) (drop-drop (skipped kind true (drop at s)) at s)
      ∙ ap (λ (n : ℕ). goes n (cut (drop n s))) (sym e)
