-- Fields of a line, clause by clause, for a printed row and at an index for a loop in code; a line without comment is left alone. Serves document 01, "Lines and
-- labels" ("Fields are parted by blanks.") and "The one written form" ("one space between fields"). Assumes nothing.
use Prim.Native.Nat.{ℕ, suc, ◌+◌, ◌-◌, ◌≤◌, ◌<◌}
use mathlib.Core.Path.{◌≡◌, refl, sym, ap, ◌∙◌}
use mathlib.Core.Bool.{Bool, true, false, not, ◌||◌}
use mathlib.Core.List.{List, [], ◌∷◌, ◌++◌}
use native.Mathlib.Omega.{arith}
use native.Mathlib.Numerals.{add-one}
use lib.ListN.{length, get_or, take, drop, drop_of_length-le}
use lib.Seq.{drop-cons, drop-drop}
use Rattle.lists.specs.Lists.{all, any, span}
use lib.Dec.{eqb}
use borrow.Author.Tests.{ne_eqb, eqb-true, not-true}
use Rattle.lists.proofs.Bools.{and_left_false, or_neither, or_right, or_other}
use Rattle.lists.proofs.ListLaws.{all_parts, all_both, any_parts, any_nil, any_neither, all_imply, span_nil, in_cons, out_cons, any_append}
use Rattle.format.specs.Bytes.{Bytes, within, head_is, gap, allowed, cons_to, ink, fields, dollar, strip, hash}
use Rattle.format.specs.Writing.{behind, line, valued}
use Rattle.format.proofs.CutLaws.{cons_to_cons}
use Rattle.format.proofs.ByteLaws.{within_true, ink_big, allowed_seen, space_gap, feed_gap, strip_on}

-- CLAUSES
pub fields_nil : fields [] ≡ []
unfolding fields
fields_nil = refl

pub fields_gap : (b : ℕ) (s : Bytes) → gap b ≡ true → fields (b ∷ s) ≡ fields s
unfolding fields
fields_gap b s e = rw (e, fields)

pub fields_more : (b : ℕ) (s : Bytes) → gap b ≡ false → head_is ink s ≡ true → fields (b ∷ s) ≡ cons_to b (fields s)
unfolding fields
fields_more b s e f = rw (e, f, fields)

pub fields_last : (b : ℕ) (s : Bytes) → gap b ≡ false → head_is ink s ≡ false → fields (b ∷ s) ≡ (b ∷ []) ∷ fields s
unfolding fields
fields_last b s e f = rw (e, f, fields)

-- the gaps in front, and the first word
pub fields_lead : (s : Bytes) → fields s ≡ fields (drop (span gap s) s)
fields_lead [] = ap (λ (n : ℕ). fields (drop n [])) (sym (span_nil gap))
fields_lead (b ∷ s) = go (gap b) refl (fields_lead s)
  where
    go : (t : Bool) → gap b ≡ t → fields s ≡ fields (drop (span gap s) s) → fields (b ∷ s) ≡ fields (drop (span gap (b ∷ s)) (b ∷ s))
    go true e ih = rw (in_cons gap b s e) (fields_gap b s e ∙ ih)
    go false e ih = rw (out_cons gap b s e)

pub fields_first : (b : ℕ) (s : Bytes) → gap b ≡ false → fields (b ∷ s) ≡ take (span ink (b ∷ s)) (b ∷ s) ∷ fields (drop (span ink (b ∷ s)) (b ∷ s))
fields_first b [] e = rw (in_cons ink b [] (ap not e), span_nil ink) (fields_last b [] e refl)
fields_first b (d ∷ s) e = rw (in_cons ink b (d ∷ s) (ap not e)) (go (gap d) refl (fields_first d s))
  where
    go : (t : Bool) → gap d ≡ t → (gap d ≡ false → fields (d ∷ s) ≡ take (span ink (d ∷ s)) (d ∷ s) ∷ fields (drop (span ink (d ∷ s)) (d ∷ s)))
        → fields (b ∷ d ∷ s) ≡ (b ∷ take (span ink (d ∷ s)) (d ∷ s)) ∷ fields (drop (span ink (d ∷ s)) (d ∷ s))
    go true f ih = rw (out_cons ink d s (ap not f)) (fields_last b (d ∷ s) e (ap not f))
    go false f ih = fields_more b (d ∷ s) e (ap not f) ∙ ap (cons_to b) (ih f) ∙ cons_to_cons b _ _

-- AT AN INDEX
module _ (s : Bytes) (i : ℕ) where
  pub fields_at_gap : i < length s → gap (get_or s i 0) ≡ true → fields (drop i s) ≡ fields (drop (i + 1) s)
  fields_at_gap h e = rw (drop-cons s i 0 h, add-one) (fields_gap (get_or s i 0) (drop (suc i) s) e)

  pub fields_at_end : length s ≤ i → fields (drop i s) ≡ []
  fields_at_end h = ap fields (drop_of_length-le s h) ∙ fields_nil

  -- behind the gaps
  pub fields_at_lead : (a : ℕ) → a ≡ i + span gap (drop i s) → fields (drop i s) ≡ fields (drop a s)
  fields_at_lead a e = fields_lead (drop i s) ∙ ap fields (drop-drop (span gap (drop i s)) i s) ∙ ap (λ (n : ℕ). fields (drop n s)) (sym e)

  -- the word from i to e
  pub fields_at_word : (e : ℕ) → i < length s → gap (get_or s i 0) ≡ false → e ≡ i + span ink (drop i s) → fields (drop i s) ≡ take (e - i) (drop i s) ∷ fields (drop e s)
  fields_at_word e h g q =
      let n : e - i ≡ span ink (drop i s) = omega arith in
      let f : fields (drop i s) ≡ take (span ink (drop i s)) (drop i s) ∷ fields (drop (span ink (drop i s)) (drop i s)) = rw (drop-cons s i 0 h) (fields_first (get_or s i 0) (drop (suc i) s) g) in
      rw (n, q) (f ∙ ap (λ (r : Bytes). take (span ink (drop i s)) (drop i s) ∷ fields r) (drop-drop (span ink (drop i s)) i s))

-- PRINTED WORDS: bytes that are no gap, no `#`, no `$`
abbrev pub printed : ℕ → Bool
printed b = within 37 126 b

module _ (b : ℕ) (e : printed b ≡ true) where
  pub printed_bounds : (37 ≤ b) × (b ≤ 126)
  printed_bounds = within_true 37 126 b e

  pub printed_ink : ink b ≡ true
  printed_ink = ap not (ink_big b (omega (arith, printed_bounds.0)))

  pub printed_allowed : allowed b ≡ true
  printed_allowed = allowed_seen b (omega (arith, printed_bounds.0)) printed_bounds.1

  pub printed_dollar : dollar b ≡ false
  printed_dollar = ne_eqb b 36 (λ q. omega (arith, printed_bounds.0))

  pub printed_hash : hash b ≡ false
  printed_hash = ne_eqb b 35 (λ q. omega (arith, printed_bounds.0))

pub all_ink : (w : Bytes) → all printed w ≡ true → all ink w ≡ true
all_ink w h = all_imply printed ink printed_ink w h

pub all_allowed : (w : Bytes) → all printed w ≡ true → all allowed w ≡ true
all_allowed w h = all_imply printed allowed printed_allowed w h

-- a word, and then a gap or nothing
fields_run : (b : ℕ) (w s : Bytes) → all ink (b ∷ w) ≡ true → head_is ink s ≡ false → fields ((b ∷ w) ++ s) ≡ (b ∷ w) ∷ fields s
fields_run b [] s h k = fields_last b s (not-true (gap b) (all_parts ink b [] h).0) k
fields_run b (d ∷ w) s h k =
    let e : (ink b ≡ true) × (all ink (d ∷ w) ≡ true) = all_parts ink b (d ∷ w) h in
    fields_more b (d ∷ (w ++ s)) (not-true (gap b) e.0) (all_parts ink d w e.1).0 ∙ ap (cons_to b) (fields_run d w s e.1 k) ∙ cons_to_cons b (d ∷ w) (fields s)

pub fields_word : (w s : Bytes) → 0 < length w → all ink w ≡ true → head_is ink s ≡ false → fields (w ++ s) ≡ w ∷ fields s
fields_word [] s n h k = absurd (omega arith)
fields_word (b ∷ w) s n h k = fields_run b w s h k

-- words to print: not empty, and of printed bytes
abbrev pub Words : List Bytes → Type 0
Words [] = Unit {0}
Words (w ∷ ws) = (0 < length w) × (all printed w ≡ true) × Words ws

pub words_append : (vs ws : List Bytes) → Words vs → Words ws → Words (vs ++ ws)
words_append [] ws h k = k
words_append (v ∷ vs) ws h k = (h.0, h.1, words_append vs ws h.2 k)

behind_gap : (ws : List Bytes) → head_is ink (behind ws) ≡ false
unfolding behind
behind_gap [] = ap not feed_gap
behind_gap (w ∷ ws) = ap not space_gap

pub fields_feed : fields (10 ∷ []) ≡ []
fields_feed = fields_gap 10 [] feed_gap ∙ fields_nil

word_then : (w : Bytes) (ws : List Bytes) → 0 < length w → all printed w ≡ true → fields (w ++ behind ws) ≡ w ∷ fields (behind ws)
word_then w ws n h = fields_word w (behind ws) n (all_ink w h) (behind_gap ws)

pub fields_behind : (ws : List Bytes) → Words ws → fields (behind ws) ≡ ws
unfolding behind
fields_behind [] h = fields_feed
fields_behind (w ∷ ws) h = fields_gap 32 (w ++ behind ws) space_gap ∙ word_then w ws h.0 h.1 ∙ ap (λ (r : List Bytes). w ∷ r) (fields_behind ws h.2)

pub row_back : (ws : List Bytes) → Words ws → fields (line ws) ≡ ws
unfolding line
row_back [] h = fields_feed
row_back (w ∷ ws) h = word_then w ws h.0 h.1 ∙ ap (λ (r : List Bytes). w ∷ r) (fields_behind ws h.2)

-- after the label's `=` comes a space, or at once the line feed
pub valued_is : (v : Bytes) → 0 < length v → valued v ≡ 32 ∷ (v ++ (10 ∷ []))
unfolding valued
valued_is [] n = absurd (omega arith)
valued_is (b ∷ v) n = refl

pub value_back : (w : Bytes) → 0 < length w → all printed w ≡ true → fields (valued w) ≡ w ∷ []
unfolding valued
value_back [] n h = absurd (omega arith)
value_back (b ∷ w) n h =
    fields_gap 32 ((b ∷ w) ++ (10 ∷ [])) space_gap ∙ fields_word (b ∷ w) (10 ∷ []) n (all_ink (b ∷ w) h) (ap not feed_gap) ∙ ap (λ (r : List Bytes). (b ∷ w) ∷ r) fields_feed

pub value_none : fields (valued []) ≡ []
unfolding valued
value_none = fields_feed

-- COMMENTS: a line without `$` at all is left alone, and so is one without two in a row
pub strip_none : (s : Bytes) → any dollar s ≡ false → strip s ≡ s
unfolding strip
strip_none [] h = refl
strip_none (b ∷ s) h =
    let e : (dollar b ≡ false) × (any dollar s ≡ false) = any_parts dollar b s h in
    strip_on b s (and_left_false (dollar b) (head_is dollar s) e.0) ∙ ap (λ (r : Bytes). b ∷ r) (strip_none s e.1)

-- bytes of a printed line before its line feed: printed ones and spaces
abbrev pub inline : ℕ → Bool
inline b = eqb b 32 || printed b

module _ (b : ℕ) (e : inline b ≡ true) where
  pub inline_bounds : (32 ≤ b) × (b ≤ 126) × ((b ≡ 36 → ⊥) × (b ≡ 35 → ⊥))
  inline_bounds = go (eqb b 32) refl
    where
      go : (t : Bool) → eqb b 32 ≡ t → (32 ≤ b) × (b ≤ 126) × ((b ≡ 36 → ⊥) × (b ≡ 35 → ⊥))
      go true f = let q : b ≡ 32 = eqb-true b 32 f in (omega arith, omega arith, ((λ r. omega arith), (λ r. omega arith)))
      go false f =
          let p : (37 ≤ b) × (b ≤ 126) = printed_bounds b (or_other (eqb b 32) (printed b) e f) in
          (omega (arith, p.0), p.1, ((λ r. omega (arith, p.0)), (λ r. omega (arith, p.0))))

  pub inline_allowed : allowed b ≡ true
  inline_allowed = allowed_seen b inline_bounds.0 inline_bounds.1

  pub inline_dollar : dollar b ≡ false
  inline_dollar = ne_eqb b 36 inline_bounds.2.0

  pub inline_feed : not (eqb b 10) ≡ true
  inline_feed = ap not (ne_eqb b 10 (λ r. omega (arith, inline_bounds.0)))

pub printed_inline : (w : Bytes) → all printed w ≡ true → all inline w ≡ true
printed_inline w h = all_imply printed inline (λ b e. or_right (eqb b 32) (printed b) e) w h

pub dollarless : (w : Bytes) → all inline w ≡ true → any dollar w ≡ false
dollarless [] h = any_nil dollar
dollarless (b ∷ w) h = let e : (inline b ≡ true) × (all inline w ≡ true) = all_parts inline b w h in any_neither dollar b w (inline_dollar b e.0) (dollarless w e.1)

pub strip_line : (w : Bytes) → all inline w ≡ true → strip (w ++ (10 ∷ [])) ≡ w ++ (10 ∷ [])
strip_line w h = strip_none (w ++ (10 ∷ [])) (any_append dollar w (10 ∷ []) ∙ or_neither (any dollar w) _ (dollarless w h) (any_neither dollar 10 [] refl (any_nil dollar)))

pub strip_value : (w : Bytes) → all inline w ≡ true → strip (valued w) ≡ valued w
unfolding valued
strip_value [] h = strip_line [] h
strip_value (b ∷ w) h = strip_line (32 ∷ b ∷ w) (all_both inline 32 (b ∷ w) refl h)
