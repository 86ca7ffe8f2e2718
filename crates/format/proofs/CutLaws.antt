-- The laws of lines: document 01, "A line ends with a line feed (10) or with the input; nothing after the last line feed is no line." Whoever walks, reads or
-- prints lines cites these and opens no definition. Assumes nothing.
use Prim.Native.Nat.{ℕ, suc, ◌+◌, ◌≤◌, ◌<◌}
use mathlib.Core.Path.{◌≡◌, refl, sym, ap, ◌∙◌}
use mathlib.Core.Bool.{Bool, true, false, not}
use mathlib.Core.List.{List, [], ◌∷◌, ◌++◌, append_assoc, append-nil}
use native.Mathlib.Omega.{arith}
use lib.ListN.{length, get_or, take, drop, length-append, length-drop, take-append-drop, drop_of_length-le}
use lib.Seq.{length-take-le, take-nil, take_at, drop_at, take-add, drop-drop, drop-cons}
use lib.Dec.{eqb}
use borrow.Author.Tests.{eq-eqb, ne_eqb}
use native.Mathlib.Nat.{add-zero}
use native.Mathlib.Numerals.{add-one}
use Rattle.lists.specs.Lists.{is_nil, all, span, concat}
use Rattle.lists.proofs.Bools.{torn}
use Rattle.format.specs.Bytes.{Bytes, cons_to, cut, line_len, whole_from, whole}

-- no line feed; one line feed, at the end
abbrev pub not_feed : ℕ → Bool
not_feed b = not (eqb b 10)

abbrev pub feedless : Bytes → Bool
feedless s = all not_feed s

unfoldable pub full : Bytes → Bool
full [] = false
full (b ∷ s) = elim (eqb b 10) [ true ↦ is_nil s | false ↦ full s ]

abbrev pub all_full : List Bytes → Bool
all_full ls = all full ls

-- clauses
module _ (b : ℕ) (s : Bytes) where
  pub cut_hit : eqb b 10 ≡ true → cut (b ∷ s) ≡ (b ∷ []) ∷ cut s
  unfolding cut
  cut_hit e = rw (e, cut)

  pub cut_miss : eqb b 10 ≡ false → cut (b ∷ s) ≡ cons_to b (cut s)
  unfolding cut
  cut_miss e = rw (e, cut)

  pub len_hit : eqb b 10 ≡ true → line_len (b ∷ s) ≡ 1
  unfolding line_len
  len_hit e = rw (e, line_len)

  pub len_miss : eqb b 10 ≡ false → line_len (b ∷ s) ≡ suc (line_len s)
  unfolding line_len
  len_miss e = rw (e, line_len)

pub cut_nil : cut [] ≡ []
unfolding cut
cut_nil = refl

-- cutting loses nothing
pub cons_to_concat : (b : ℕ) (ls : List Bytes) → concat (cons_to b ls) ≡ b ∷ concat ls
unfolding cons_to concat
cons_to_concat b [] = refl
cons_to_concat b (l ∷ ls) = refl

pub concat_cut : (s : Bytes) → concat (cut s) ≡ s
unfolding concat
concat_cut [] = ap concat cut_nil
concat_cut (b ∷ s) = go (eqb b 10) refl (concat_cut s)
  where
    go : (t : Bool) → eqb b 10 ≡ t → concat (cut s) ≡ s → concat (cut (b ∷ s)) ≡ b ∷ s
    go true e ih = rw (cut_hit b s e) (ap (λ (r : Bytes). b ∷ r) ih)
    go false e ih = rw (cut_miss b s e) (cons_to_concat b (cut s) ∙ ap (λ (r : Bytes). b ∷ r) ih)

-- a full line in front
pub cons_to_cons : (b : ℕ) (l : Bytes) (ls : List Bytes) → cons_to b (l ∷ ls) ≡ (b ∷ l) ∷ ls
unfolding cons_to
cons_to_cons b l ls = refl

pub cons_to_nil : (b : ℕ) → cons_to b [] ≡ (b ∷ []) ∷ []
unfolding cons_to
cons_to_nil b = refl

pub cut_line : (l s : Bytes) → full l ≡ true → cut (l ++ s) ≡ l ∷ cut s
unfolding full
cut_line [] s h = torn false h refl
cut_line (b ∷ l) s h = go (eqb b 10) refl l h (cut_line l s)
  where
    go : (t : Bool) → eqb b 10 ≡ t → (l : Bytes) → full (b ∷ l) ≡ true → (full l ≡ true → cut (l ++ s) ≡ l ∷ cut s) → cut (b ∷ (l ++ s)) ≡ (b ∷ l) ∷ cut s
    go true e [] h ih = cut_hit b s e
    go true e (d ∷ l) h ih = torn (full (b ∷ d ∷ l)) h (rw (e, full))
    go false e l h ih = cut_miss b (l ++ s) e ∙ ap (cons_to b) (ih (sym (rw (e, full)) ∙ h)) ∙ cons_to_cons b l (cut s)

-- full lines in front: with s empty, or a last line without line feed
pub cut_lines : (ls : List Bytes) (s : Bytes) → all_full ls ≡ true → cut (concat ls ++ s) ≡ ls ++ cut s
unfolding all concat
cut_lines [] s h = refl
cut_lines (l ∷ ls) s h = go (full l) refl (cut_lines ls s)
  where
    go : (t : Bool) → full l ≡ t → (all_full ls ≡ true → cut (concat ls ++ s) ≡ ls ++ cut s) → cut ((l ++ concat ls) ++ s) ≡ l ∷ (ls ++ cut s)
    go true e ih =
        let q : all_full ls ≡ true = sym (rw (e, all)) ∙ h in
        ap cut (append_assoc l (concat ls) s) ∙ cut_line l (concat ls ++ s) e ∙ ap (λ (r : List Bytes). l ∷ r) (ih q)
    go false e ih = torn (all_full (l ∷ ls)) h (rw (e, all))

pub cut_last : (s : Bytes) → 0 < length s → feedless s ≡ true → cut s ≡ s ∷ []
unfolding all
cut_last [] n h = absurd (omega arith)
cut_last (b ∷ s) n h = go (eqb b 10) refl s h (cut_last s)
  where
    go : (t : Bool) → eqb b 10 ≡ t → (s : Bytes) → feedless (b ∷ s) ≡ true → (0 < length s → feedless s ≡ true → cut s ≡ s ∷ []) → cut (b ∷ s) ≡ (b ∷ s) ∷ []
    go true e s h ih = torn (feedless (b ∷ s)) h (rw (e, all))
    go false e [] h ih = cut_miss b [] e ∙ ap (cons_to b) cut_nil ∙ cons_to_nil b
    go false e (d ∷ s) h ih = cut_miss b (d ∷ s) e ∙ ap (cons_to b) (ih (omega arith) (sym (rw (e, all)) ∙ h)) ∙ cons_to_cons b (d ∷ s) []

pub cut_concat : (ls : List Bytes) → all_full ls ≡ true → cut (concat ls) ≡ ls
cut_concat ls h = ap cut (sym (append-nil (concat ls))) ∙ cut_lines ls [] h ∙ ap (λ (r : List Bytes). ls ++ r) cut_nil ∙ append-nil ls

-- the same with a last line that lacks its line feed
pub cut_concat_last : (ls : List Bytes) (l : Bytes) → all_full ls ≡ true → 0 < length l → feedless l ≡ true → cut (concat ls ++ l) ≡ ls ++ (l ∷ [])
cut_concat_last ls l h n f = cut_lines ls l h ∙ ap (λ (r : List Bytes). ls ++ r) (cut_last l n f)

-- the first line, and the others
abbrev First : Bytes → Type 0
First s = cut s ≡ take (line_len s) s ∷ cut (drop (line_len s) s)

first_nil : (b : ℕ) → cons_to b (cut []) ≡ take (suc (line_len [])) (b ∷ []) ∷ cut (drop (suc (line_len [])) (b ∷ []))
unfolding cut line_len cons_to
first_nil b = refl

first_cons : (b : ℕ) (s : Bytes) (t : Bool) → eqb b 10 ≡ t → (0 < length s → First s) → First (b ∷ s)
first_cons b s true e ih = rw (cut_hit b s e, len_hit b s e)
first_cons b [] false e ih = rw (cut_miss b [] e, len_miss b [] e) (first_nil b)
first_cons b (d ∷ s) false e ih = rw (cut_miss b (d ∷ s) e, len_miss b (d ∷ s) e, ih (omega arith)) (cons_to_cons b _ _)

pub cut_first : (s : Bytes) → 0 < length s → cut s ≡ take (line_len s) s ∷ cut (drop (line_len s) s)
cut_first [] h = absurd (omega arith)
cut_first (b ∷ s) h = first_cons b s (eqb b 10) refl (cut_first s)

pub line_len_le : (s : Bytes) → line_len s ≤ length s
unfolding line_len
line_len_le [] = omega arith
line_len_le (b ∷ s) = go (eqb b 10) refl (line_len_le s)
  where
    go : (t : Bool) → eqb b 10 ≡ t → line_len s ≤ length s → line_len (b ∷ s) ≤ length (b ∷ s)
    go true e ih = rw (e, line_len) (omega arith)
    go false e ih = rw (e, line_len) (omega arith)

pub line_len_pos : (s : Bytes) → 0 < length s → 0 < line_len s
unfolding line_len
line_len_pos [] h = absurd (omega arith)
line_len_pos (b ∷ s) h = go (eqb b 10) refl
  where
    go : (t : Bool) → eqb b 10 ≡ t → 0 < line_len (b ∷ s)
    go true e = rw (e, line_len) (omega arith)
    go false e = rw (e, line_len) (omega arith)

-- by `span`: up to the first line feed, and it; where there is none `take` and `drop` pass the end and do no harm
pub line_len_span : (s : Bytes) → (take (line_len s) s ≡ take (suc (span not_feed s)) s) × (drop (line_len s) s ≡ drop (suc (span not_feed s)) s)
unfolding line_len span
line_len_span [] = (refl, refl)
line_len_span (b ∷ s) = go (eqb b 10) refl (line_len_span s)
  where
    go : (t : Bool) → eqb b 10 ≡ t → (take (line_len s) s ≡ take (suc (span not_feed s)) s) × (drop (line_len s) s ≡ drop (suc (span not_feed s)) s)
        → (take (line_len (b ∷ s)) (b ∷ s) ≡ take (suc (span not_feed (b ∷ s))) (b ∷ s)) × (drop (line_len (b ∷ s)) (b ∷ s) ≡ drop (suc (span not_feed (b ∷ s))) (b ∷ s))
    go true e ih = rw (e, line_len, span) (refl, refl)
    go false e ih = rw (e, line_len, span) (ap (λ (r : Bytes). b ∷ r) ih.0, ih.1)

-- the line from `at` on, and the lines after it
pub cut_at : (s : Bytes) (at : ℕ) → at < length s →
    cut (drop at s) ≡ take (line_len (drop at s)) (drop at s) ∷ cut (drop (at + line_len (drop at s)) s)
cut_at s at h =
    let p : 0 < length (drop at s) = simp length-drop (omega arith) in
    cut_first (drop at s) p ∙ ap (λ (r : Bytes). take (line_len (drop at s)) (drop at s) ∷ cut r) (drop-drop (line_len (drop at s)) at s)

-- lists that end in a line feed
pub whole_any : (s : Bytes) → whole_from false s ≡ true → whole_from true s ≡ true
unfolding whole_from
whole_any [] h = torn false h refl
whole_any (b ∷ s) h = h

pub whole_cut : (s : Bytes) → whole_from false s ≡ true → (l : Bytes) × (ls : List Bytes) × (cut s ≡ l ∷ ls)
unfolding whole_from
whole_cut [] h = torn false h refl
whole_cut (b ∷ s) h = (_, _, cut_first (b ∷ s) (omega arith))

pub cons_to_append : (b : ℕ) (ls ms : List Bytes) (l : Bytes) (ks : List Bytes) → ls ≡ l ∷ ks → cons_to b (ls ++ ms) ≡ cons_to b ls ++ ms
unfolding cons_to
cons_to_append b ls ms l ks e = rw e

pub cut_append : (a b : Bytes) → whole a ≡ true → cut (a ++ b) ≡ cut a ++ cut b
unfolding whole_from
cut_append [] b h = ap (λ (r : List Bytes). r ++ cut b) (sym cut_nil)
cut_append (x ∷ a) b h = go (eqb x 10) refl (cut_append a b)
  where
    go : (t : Bool) → eqb x 10 ≡ t → (whole a ≡ true → cut (a ++ b) ≡ cut a ++ cut b) → cut (x ∷ (a ++ b)) ≡ cut (x ∷ a) ++ cut b
    go true e ih =
        let w : whole_from true a ≡ true = ap (λ (t : Bool). whole_from t a) (sym e) ∙ h in
        cut_hit x (a ++ b) e ∙ ap (λ (r : List Bytes). (x ∷ []) ∷ r) (ih w) ∙ ap (λ (r : List Bytes). r ++ cut b) (sym (cut_hit x a e))
    go false e ih =
        let w : whole_from false a ≡ true = ap (λ (t : Bool). whole_from t a) (sym e) ∙ h in
        let c : (l : Bytes) × (ls : List Bytes) × (cut a ≡ l ∷ ls) = whole_cut a w in
        cut_miss x (a ++ b) e ∙ ap (cons_to x) (ih (whole_any a w)) ∙ cons_to_append x (cut a) (cut b) c.0 c.1 c.2 ∙ ap (λ (r : List Bytes). r ++ cut b) (sym (cut_miss x a e))

-- at a line boundary n
pub cut_boundary : (s : Bytes) (n : ℕ) → whole (take n s) ≡ true → cut s ≡ cut (take n s) ++ cut (drop n s)
cut_boundary s n h = ap cut (sym (take-append-drop n s)) ∙ cut_append (take n s) (drop n s) h

-- where the lines of s are ls and ms, the lines from the end of ls on are ms
pub cut_rest : (ls ms : List Bytes) (s : Bytes) → cut s ≡ ls ++ ms → cut (drop (length (concat ls)) s) ≡ ms
unfolding concat
cut_rest [] ms s e = e
cut_rest (l ∷ ls) ms [] e = let z : ◌≡◌ {A = ℕ} 0 1 = cc (cut_nil) in absurd (omega arith)
cut_rest (l ∷ ls) ms (b ∷ s) e =
    let n : ℕ = line_len (b ∷ s) in
    let f : cut (b ∷ s) ≡ take n (b ∷ s) ∷ cut (drop n (b ∷ s)) = cut_first (b ∷ s) (omega arith) in
    let g : l ≡ take n (b ∷ s) = cc in
    let r : cut (drop n (b ∷ s)) ≡ ls ++ ms = cc in
    let k : length (l ++ concat ls) ≡ n + length (concat ls) =
    length-append l (concat ls) ∙ ap (λ (m : ℕ). m + length (concat ls)) (ap length g ∙ length-take-le n (b ∷ s) (line_len_le (b ∷ s))) in
    ap (λ (m : ℕ). cut (drop m (b ∷ s))) k ∙ ap cut (sym (drop-drop (length (concat ls)) n (b ∷ s))) ∙ cut_rest ls ms (drop n (b ∷ s)) r

-- and the lines up to there are ls
line_front : (s : Bytes) (m : ℕ) → line_len (take (line_len s + m) s) ≡ line_len s
unfolding line_len
line_front [] m = ap line_len (take-nil (0 + m))
line_front (b ∷ s) m = go (eqb b 10) refl (line_front s m)
  where
    go : (t : Bool) → eqb b 10 ≡ t → line_len (take (line_len s + m) s) ≡ line_len s → line_len (take (line_len (b ∷ s) + m) (b ∷ s)) ≡ line_len (b ∷ s)
    go true e ih =
        let q : line_len (b ∷ s) + m ≡ suc m = omega (arith, len_hit b s e) in
        ap (λ (n : ℕ). line_len (take n (b ∷ s))) q ∙ len_hit b (take m s) e ∙ sym (len_hit b s e)
    go false e ih =
        let q : line_len (b ∷ s) + m ≡ suc (line_len s + m) = omega (arith, len_miss b s e) in
        ap (λ (n : ℕ). line_len (take n (b ∷ s))) q ∙ len_miss b (take (line_len s + m) s) e ∙ ap suc ih ∙ sym (len_miss b s e)

pub cut_front : (ls ms : List Bytes) (s : Bytes) → cut s ≡ ls ++ ms → cut (take (length (concat ls)) s) ≡ ls
unfolding concat
cut_front [] ms s e = cut_nil
cut_front (l ∷ ls) ms [] e = let z : ◌≡◌ {A = ℕ} 0 1 = cc (cut_nil) in absurd (omega arith)
cut_front (l ∷ ls) ms (b ∷ s) e =
    let n : ℕ = line_len (b ∷ s) in
    let m : ℕ = length (concat ls) in
    let t : Bytes = take (n + m) (b ∷ s) in
    let f : cut (b ∷ s) ≡ take n (b ∷ s) ∷ cut (drop n (b ∷ s)) = cut_first (b ∷ s) (omega arith) in
    let g : take n (b ∷ s) ≡ l = cc in
    let r : cut (drop n (b ∷ s)) ≡ ls ++ ms = cc in
    let w : length (take n (b ∷ s)) ≡ n = length-take-le n (b ∷ s) (line_len_le (b ∷ s)) in
    let k : length (l ++ concat ls) ≡ n + m = length-append l (concat ls) ∙ ap (λ (i : ℕ). i + m) (ap length (sym g) ∙ w) in
    let q : line_len t ≡ n = line_front (b ∷ s) m in
    let p : 0 < length t = omega (arith, q, line_len_le t, line_len_pos (b ∷ s) (omega arith)) in
    let d : t ≡ take n (b ∷ s) ++ take m (drop n (b ∷ s)) = take-add n m (b ∷ s) in
    ap (λ (i : ℕ). cut (take i (b ∷ s))) k ∙ cut_first t p ∙ ap (λ (i : ℕ). take i t ∷ cut (drop i t)) q
    ∙ ap (λ (x : Bytes). take n x ∷ cut (drop n x)) d ∙ rw (take_at (take n (b ∷ s)) (take m (drop n (b ∷ s))) n w, drop_at (take n (b ∷ s)) (take m (drop n (b ∷ s))) n w, cut_front ls ms (drop n (b ∷ s)) r)
    (ap (λ (x : Bytes). x ∷ ls) g)

-- no line is empty
abbrev pub Solid : List Bytes → Type 0
Solid [] = Unit {0}
Solid (l ∷ ls) = (0 < length l) × Solid ls

pub cons_to_solid : (b : ℕ) (ls : List Bytes) → Solid ls → Solid (cons_to b ls)
unfolding cons_to
cons_to_solid b [] h = (omega arith, tt)
cons_to_solid b (l ∷ ls) h = (omega arith, h.1)

pub cut_solid : (s : Bytes) → Solid (cut s)
unfolding cut
cut_solid [] = tt
cut_solid (b ∷ s) = go (eqb b 10) refl (cut_solid s)
  where
    go : (t : Bool) → eqb b 10 ≡ t → Solid (cut s) → Solid (cut (b ∷ s))
    go true e ih = rw (cut_hit b s e) (omega arith, ih)
    go false e ih = rw (cut_miss b s e) (cons_to_solid b (cut s) ih)

-- the line's length by an index
pub len_at_hit : (s : Bytes) (i : ℕ) → i < length s → get_or s i 0 ≡ 10 → i + line_len (drop i s) ≡ i + 1
len_at_hit s i h e = rw (drop-cons s i 0 h, len_hit _ _ (eq-eqb _ _ e))

pub len_at_miss : (s : Bytes) (i : ℕ) → i < length s → (get_or s i 0 ≡ 10 → ⊥) → i + line_len (drop i s) ≡ i + 1 + line_len (drop (i + 1) s)
len_at_miss s i h e = rw (drop-cons s i 0 h, len_miss _ _ (ne_eqb _ _ e), add-one) (omega arith)

pub len_at_end : (s : Bytes) (i : ℕ) → length s ≤ i → i + line_len (drop i s) ≡ i
unfolding line_len
len_at_end s i h = rw (drop_of_length-le s h) (add-zero i)
