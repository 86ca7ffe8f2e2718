-- Texts that a table names, as the code tests them: a text is trimmed if and only if as much is kept of it as it has, one of size 0 is fine at place 0 alone, and the
-- three spans stand at the places that the table's type answers. Serves document 01, "Refusal numbers" (21). Assumes nothing.
use Prim.Native.Nat.{ℕ, zero, suc, ◌+◌, ◌-◌, ◌*◌, ◌≤◌, ◌<◌}
use mathlib.Core.Path.{◌≡◌, refl, sym, ap, ap₂, ◌∙◌}
use mathlib.Core.Bool.{Bool, true, false, not, ◌&&◌, and-true}
use mathlib.Core.List.{List, []}
use native.Mathlib.Numerals.{add-one}
use native.Mathlib.Omega.{arith}
use lib.ListN.{length, get_or, take, drop, length-take}
use lib.Seq.{drop-cons, drop-drop, take_all}
use lib.IntN.{ℤ}
use lib.Dec.{eqb, leb}
use borrow.Author.Tests.{ne_eqb, le-leb, lt-leb, leb-true, leb-false}
use Rattle.lists.specs.Lists.{all}
use Rattle.lists.proofs.Bools.{and_both, and_left_false, and_shuffle}
use Rattle.lists.proofs.ListLaws.{all_nil, all_cons, all_end}
use Rattle.lists.proofs.PairLaws.{same_differ, bytes_same}
use Rattle.lists.proofs.RegionLaws.{rows_length, rows_at}
use Rattle.format.specs.Bytes.{Bytes, same, allowed, trim, unlabelled}
use Rattle.format.specs.Reading.{Span}
use Rattle.format.specs.Table.{text_place, span_at, spans_of, text_fine, text_at, text_ok, span_ok}
use Rattle.format.proofs.ByteLaws.{allowed_seen, unlabelled_cons, unlabelled_at_end}
use Rattle.format.proofs.TextLaws.{trim_nil}
use Rattle.format.proofs.PlaceLaws.{text_place_lem}
use Rattle.fields.specs.declared.Field.{Field}
use Rattle.fields.specs.Trims.{Trimmed}
use Rattle.texts.specs.Spans.{span, label_after, plain_text}

-- A LABEL LINE INSIDE, by an index
abbrev byte_fine : Bytes → ℕ → Bool
byte_fine s i = allowed (get_or s i 0) && not (label_after (drop i s))

module _ (s : Bytes) (i : ℕ) (h : i < length s) where
  after_other : (get_or s i 0 ≡ 10 → ⊥) → label_after (drop i s) ≡ false
  after_other e = ap label_after (drop-cons s i 0 h) ∙ and_left_false (eqb (get_or s i 0) 10) _ (ne_eqb (get_or s i 0) 10 e)

  plain_is : unlabelled (drop i s) ≡ (not (label_after (drop i s)) && unlabelled (drop (i + 1) s))
  plain_is = ap unlabelled (drop-cons s i 0 h) ∙ unlabelled_cons (get_or s i 0) (drop (suc i) s) ∙ rw (drop-cons s i 0 h, add-one)

  -- ONE BYTE: those from the space on end no line
  pub byte_seen : 32 ≤ get_or s i 0 → get_or s i 0 ≤ 126 → byte_fine s i ≡ true
  byte_seen k m = and_both (allowed (get_or s i 0)) (not (label_after (drop i s))) (allowed_seen (get_or s i 0) k m) (ap not (after_other (λ q. omega arith)))

  -- and the rest
  pub plain_turn : plain_text (drop i s) ≡ (byte_fine s i && plain_text (drop (i + 1) s))
  plain_turn =
      let q : all allowed (drop i s) ≡ (allowed (get_or s i 0) && all allowed (drop (i + 1) s)) = ap (all allowed) (drop-cons s i 0 h) ∙ all_cons allowed (get_or s i 0) (drop (suc i) s) ∙ rw add-one in
      ap₂ (λ (t u : Bool). t && u) q plain_is ∙ and_shuffle (allowed (get_or s i 0)) (all allowed (drop (i + 1) s)) (not (label_after (drop i s))) (unlabelled (drop (i + 1) s))

pub plain_end : (s : Bytes) (i : ℕ) → length s ≤ i → plain_text (drop i s) ≡ true
plain_end s i h = and_both (all allowed (drop i s)) (unlabelled (drop i s)) (all_end allowed s i h) (unlabelled_at_end s i h)

-- A FINE TEXT
module _ (s : Bytes) where
  fine_is : text_fine s ≡ (same (trim s) s && (all allowed s && unlabelled s))
  unfolding text_fine
  fine_is = refl

  -- as much is kept as there is, or less
  untrimmed : (r : Field) → Trimmed s r → r.to - r.from < length s → text_fine s ≡ false
  untrimmed r k h =
      let e : length (trim s) ≡ length (take (r.to - r.from) (drop r.from s)) = sym (ap length k.is) in
      fine_is ∙ and_left_false (same (trim s) s) _ (same_differ eqb (trim s) s (λ q. omega (arith, e, length-take (r.to - r.from) (drop r.from s))))

  trimmed_same : (r : Field) → Trimmed s r → length s ≤ r.to - r.from → same (trim s) s ≡ true
  trimmed_same r k h =
      let f : r.from ≡ 0 = omega (arith, k.high) in
      let e : take (r.to - r.from) (drop r.from s) ≡ s = ap (λ (n : ℕ). take (r.to - r.from) (drop n s)) f ∙ take_all (r.to - r.from) s h in
      bytes_same (trim s) s (sym k.is ∙ e)

  pub fine_turn : (r : Field) → Trimmed s r → text_fine s ≡ (leb (length s) (r.to - r.from) && plain_text s)
  fine_turn r k = go (leb (length s) (r.to - r.from)) refl
    where
      go : (t : Bool) → leb (length s) (r.to - r.from) ≡ t → text_fine s ≡ (t && plain_text s)
      go true e = fine_is ∙ rw (trimmed_same r k (leb-true (length s) (r.to - r.from) e))
      go false e = untrimmed r k (leb-false (length s) (r.to - r.from) e)

fine_nil : text_fine [] ≡ true
unfolding unlabelled
fine_nil = fine_is [] ∙ rw (bytes_same (trim []) [] trim_nil, all_nil allowed)

-- A TEXT IN ITS PLACE
module _ (b : Bytes) (p n : ℕ) where
  ok_is : text_ok b (span p n) ≡ (span_ok p n b && text_fine (take n (drop p b)))
  unfolding text_ok text_at
  ok_is = refl

  inside : (n ≡ 0 → ⊥) → span_ok p n b ≡ leb (p + n) (length b)
  inside e = go n e
    where
      go : (m : ℕ) → (m ≡ 0 → ⊥) → span_ok p m b ≡ leb (p + m) (length b)
      go zero f = absurd (f refl)
      go (suc m) f = refl

  pub ok_outside : (n ≡ 0 → ⊥) → length b < p + n → text_ok b (span p n) ≡ false
  ok_outside e h = ok_is ∙ and_left_false (span_ok p n b) _ (inside e ∙ lt-leb (p + n) (length b) h)

  pub ok_inside : (n ≡ 0 → ⊥) → p + n ≤ length b → text_ok b (span p n) ≡ text_fine (take (p + n - p) (drop p b))
  ok_inside e h =
      let q : n ≡ p + n - p = omega arith in
      ok_is ∙ ap (λ (t : Bool). t && text_fine (take n (drop p b))) (inside e ∙ le-leb (p + n) (length b) h) ∙ ap (λ (m : ℕ). text_fine (take m (drop p b))) q

pub ok_empty : (b : Bytes) (p n : ℕ) → n ≡ 0 → text_ok b (span p n) ≡ eqb p 0
ok_empty b p n e = ap (λ (m : ℕ). text_ok b (span p m)) e ∙ ok_is b p 0 ∙ ap (λ (t : Bool). eqb p 0 && t) fine_nil ∙ and-true (eqb p 0)

-- THE THREE SPANS
module _ (p : Span → Bool) (t : List ℤ) (i : ℕ) where
  many : length (spans_of t) ≡ 3
  unfolding spans_of
  many = rows_length 2 span_at 3 (drop 7 t)

  module _ (h : i < 3) where
    here : get_or (spans_of t) i (span 0 0) ≡ span_at (drop (text_place i) t)
    unfolding spans_of
    here = rows_at 2 span_at (span 0 0) 3 (drop 7 t) i h ∙ ap span_at (drop-drop (2 * i) 7 t ∙ ap (λ (k : ℕ). drop k t) (sym (text_place_lem i h)))

    pub spans_turn : all p (drop i (spans_of t)) ≡ (p (span_at (drop (text_place i) t)) && all p (drop (i + 1) (spans_of t)))
    spans_turn = ap (all p) (drop-cons (spans_of t) i (span 0 0) (omega (arith, many))) ∙ all_cons p (get_or (spans_of t) i (span 0 0)) (drop (suc i) (spans_of t)) ∙ rw (here, add-one)

  pub spans_end : 3 ≤ i → all p (drop i (spans_of t)) ≡ true
  spans_end h = all_end p (spans_of t) i (omega (arith, many))
