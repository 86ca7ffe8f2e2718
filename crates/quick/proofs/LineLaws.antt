-- Words, each behind one space but the first, and a line's end are one line of a block: of allowed bytes, no label line, without comment, and its fields are the
-- words. Document 01, "Lines and labels". Assumes nothing.
use Prim.Native.Nat.{ℕ, ◌-◌, ◌≤◌, ◌<◌}
use mathlib.Core.Path.{◌≡◌, refl, sym, ap, ◌∙◌}
use mathlib.Core.Bool.{Bool, true, false, not}
use mathlib.Core.List.{List, [], ◌∷◌, ◌++◌, append_assoc}
use native.Mathlib.Omega.{arith}
use lib.ListN.{length, take, drop, length-append, length-drop}
use lib.Seq.{take-append_seam}
use lib.Dec.{eqb}
use borrow.Author.Tests.{not-true}
use Rattle.lists.specs.Lists.{is_nil, all, any}
use Rattle.lists.proofs.Bools.{and_left_false, or_neither}
use Rattle.lists.proofs.ListLaws.{all_nil, all_both, all_parts, all_append_both, any_nil, any_neither, any_append}
use Rattle.format.specs.Bytes.{Bytes, head_is, allowed, cut, ink, fields, dollar, strip, hash}
use Rattle.format.specs.Labels.{Plain, line_of}
use Rattle.format.proofs.CutLaws.{not_feed, feedless, full, cut_line}
use Rattle.format.proofs.ByteLaws.{gap_return, feed_gap, space_gap, allowed_gap}
use Rattle.format.proofs.FieldLaws.{printed, printed_hash, all_ink, all_allowed, fields_gap, fields_nil, fields_word, strip_none, printed_inline, dollarless}
use Rattle.format.proofs.RowLines.{inline_feedless}
use Rattle.quick.specs.Pieces.{Word, Words, later, feed}
use Rattle.quick.specs.Quick.{line_at, OneLine}

-- THE REST OF A LINE behind a word, and the fields in it
pub record Rest (fs : List Bytes) (e : Bytes) : Type 0 where
  pub parts : head_is ink e ≡ false
  pub reads : fields e ≡ fs
  pub fine : all allowed e ≡ true
  pub uncommented : any dollar e ≡ false
  pub one : full e ≡ true

feed_rest : Rest [] (10 ∷ [])
unfolding full
feed_rest = record {
  parts = ap not feed_gap;
  reads = fields_gap 10 [] feed_gap ∙ fields_nil;
  fine = all_both allowed 10 [] (allowed_gap 10 feed_gap) (all_nil allowed);
  uncommented = any_neither dollar 10 [] refl (any_nil dollar);
  one = refl;
}

return_rest : Rest [] (13 ∷ 10 ∷ [])
unfolding full
return_rest = record {
  parts = ap not (gap_return 13 refl);
  reads = fields_gap 13 (10 ∷ []) (gap_return 13 refl) ∙ feed_rest.reads;
  fine = all_both allowed 13 (10 ∷ []) (allowed_gap 13 (gap_return 13 refl)) feed_rest.fine;
  uncommented = any_neither dollar 13 (10 ∷ []) refl feed_rest.uncommented;
  one = refl;
}

end_rest : (returned : Bool) → Rest [] (feed returned)
end_rest true = return_rest
end_rest false = feed_rest

-- a list without line feed in front of a full line
full_through : (s e : Bytes) → feedless s ≡ true → full e ≡ true → full (s ++ e) ≡ true
unfolding full
full_through [] e h k = k
full_through (b ∷ s) e h k = let p : (not_feed b ≡ true) × (feedless s ≡ true) = all_parts not_feed b s h in rw (not-true (eqb b 10) p.0, full) (full_through s e p.1 k)

-- a word in front of the rest
module _ (w : Bytes) (fs : List Bytes) (e : Bytes) (h : Word w) (k : Rest fs e) where
  word_reads : fields (w ++ e) ≡ w ∷ fs
  word_reads = fields_word w e h.some (all_ink w h.seen) k.parts ∙ ap (λ (r : List Bytes). w ∷ r) k.reads

  word_fine : all allowed (w ++ e) ≡ true
  word_fine = all_append_both allowed w e (all_allowed w h.seen) k.fine

  word_uncommented : any dollar (w ++ e) ≡ false
  word_uncommented = any_append dollar w e ∙ or_neither (any dollar w) (any dollar e) (dollarless w (printed_inline w h.seen)) k.uncommented

  word_one : full (w ++ e) ≡ true
  word_one = full_through w e (inline_feedless w (printed_inline w h.seen)) k.one

  -- one word more, behind a space
  word_rest : Rest (w ∷ fs) (32 ∷ (w ++ e))
  unfolding full
  word_rest = record {
    parts = ap not space_gap;
    reads = fields_gap 32 (w ++ e) space_gap ∙ word_reads;
    fine = all_both allowed 32 (w ++ e) (allowed_gap 32 space_gap) word_fine;
    uncommented = any_neither dollar 32 (w ++ e) refl word_uncommented;
    one = word_one;
  }

later_rest : (ws : List Bytes) (returned : Bool) → Words ws → Rest ws (later ws (feed returned))
unfolding later
later_rest [] returned h = end_rest returned
later_rest (w ∷ ws) returned h = word_rest w ws (later ws (feed returned)) h.0 (later_rest ws returned h.1)

pub later_append : (ws : List Bytes) (e s : Bytes) → later ws e ++ s ≡ later ws (e ++ s)
unfolding later
later_append [] e s = refl
later_append (w ∷ ws) e s = ap (λ (r : Bytes). 32 ∷ r) (append_assoc w (later ws e) s ∙ ap (λ (r : Bytes). w ++ r) (later_append ws e s))

-- THE LINE
word_plain : (w e : Bytes) → Word w → line_of (w ++ e) ≡ Plain
unfolding line_of
word_plain [] e h = absurd (omega (arith, h.some))
word_plain (b ∷ w) e h = rw (and_left_false (hash b) (head_is hash (w ++ e)) (printed_hash b (all_parts printed b w h.seen).0), line_of)

module _ (block : Bytes) (at next : ℕ) (w : Bytes) (ws : List Bytes) (returned : Bool) (low : at < next) (high : next ≤ length block) (h : Word w) (k : Words ws)
    (is : drop at block ≡ w ++ later ws (feed returned ++ drop next block)) where
  abbrev line : Bytes
  line = w ++ later ws (feed returned)

  rest : Rest ws (later ws (feed returned))
  rest = later_rest ws returned k

  stands : drop at block ≡ line ++ drop next block
  stands = is ∙ ap (λ (r : Bytes). w ++ r) (sym (later_append ws (feed returned) (drop next block))) ∙ sym (append_assoc w (later ws (feed returned)) (drop next block))

  size : next - at ≡ length line
  size = omega (arith, ap length stands, length-append line (drop next block), length-drop at block, length-drop next block)

  line_is : line_at block at next ≡ line
  line_is = ap (λ (n : ℕ). take n (drop at block)) size ∙ ap (take (length line)) stands ∙ take-append_seam line (drop next block)

  pub line_reads : fields (line_at block at next) ≡ w ∷ ws
  line_reads = ap fields line_is ∙ word_reads w ws _ h rest

  pub one_line : OneLine block at next
  one_line = record {
    low = low;
    high = high;
    first = ap cut stands ∙ cut_line line (drop next block) (word_one w ws _ h rest) ∙ ap (λ (l : Bytes). l ∷ cut (drop next block)) (sym line_is);
    fine = ap (all allowed) line_is ∙ word_fine w ws _ h rest;
    plain = ap line_of line_is ∙ word_plain w _ h;
    kept = ap strip line_is ∙ strip_none line (word_uncommented w ws _ h rest) ∙ sym line_is;
    inked = ap is_nil line_reads;
  }
