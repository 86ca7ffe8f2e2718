-- The first field from a place on is the one behind the gaps, and the fields behind it are the rest. Serves document 01, "Lines and labels" ("Fields are parted
-- by blanks."). Assumes nothing.
use Prim.Native.Nat.{ℕ, ◌+◌, ◌-◌, ◌≤◌, ◌<◌}
use mathlib.Core.Path.{◌≡◌, refl, sym, ap, ◌∙◌}
use mathlib.Core.Bool.{Bool, true, false, not}
use mathlib.Core.List.{List, [], ◌∷◌}
use native.Mathlib.Omega.{arith}
use lib.ListN.{length, get_or, drop, length-drop, drop_of_length-le}
use lib.Seq.{take-nil, get_or-drop}
use lib.Dec.{leb}
use borrow.Author.Tests.{leb-true, leb-false}
use Rattle.lists.specs.Lists.{span}
use Rattle.lists.proofs.ListLaws.{span_le, span_within, span_stops, span_end, span_in}
use Rattle.format.specs.Bytes.{Bytes, gap, ink, fields}
use Rattle.format.proofs.FieldLaws.{fields_at_lead, fields_at_word, fields_at_end}
use Rattle.fields.specs.declared.Field.{Field}
use Rattle.fields.specs.NextFields.{NextField, field_in}

module _ (s : Bytes) (at : ℕ) (r : Field) (p : r.from ≡ at + span gap (drop at s)) (q : r.to ≡ r.from + span ink (drop r.from s)) where
  found : fields (drop at s) ≡ fields (drop r.from s)
  found = fields_at_lead s at r.from p

  -- past the gaps and not at the end there is no gap
  no_gap : r.from < length s → gap (get_or s r.from 0) ≡ false
  no_gap h =
      let k : at < length s = omega arith in
      let f : span gap (drop at s) < length (drop at s) = simp length-drop (omega arith) in
      ap gap (ap (λ (n : ℕ). get_or s n 0) p ∙ sym (get_or-drop at s (span gap (drop at s)) 0)) ∙ span_stops gap 0 (drop at s) f

  no_field : length s ≤ r.from → NextField s at r
  no_field h =
      let e : fields (drop at s) ≡ [] = found ∙ fields_at_end s r.from h in
      let z : r.to ≡ r.from = q ∙ span_end ink s r.from h in
      record {
        low = omega arith;
        order = omega arith;
        high = λ k. omega (arith, span_within gap s at k);
        reach = omega (arith, span_le gap (drop at s), length-drop at s);
        is = rw (e, drop_of_length-le s h) (take-nil (r.to - r.from));
        rest = rw (e, z) (fields_at_end s r.from h);
        none = λ k. e;
        some = λ k. absurd (omega arith);
      }

  a_field : r.from < length s → NextField s at r
  a_field h =
      let e : fields (drop at s) ≡ field_in s r ∷ fields (drop r.to s) = found ∙ fields_at_word s r.from r.to h (no_gap h) q in
      let k : r.from < r.to = omega (arith, span_in ink 0 s r.from h (ap not (no_gap h))) in
      record {
        low = omega arith;
        order = omega arith;
        high = λ l. omega (arith, span_within ink s r.from (omega arith));
        reach = omega (arith, span_within ink s r.from (omega arith));
        is = sym (ap (λ (fs : List Bytes). get_or fs 0 []) e);
        rest = sym (ap (λ (fs : List Bytes). drop 1 fs) e);
        none = λ l. absurd (omega arith);
        some = λ l. e;
      }

  pub next_is : NextField s at r
  next_is = go (leb (length s) r.from) refl
    where
      go : (t : Bool) → leb (length s) r.from ≡ t → NextField s at r
      go true e = no_field (leb-true _ _ e)
      go false e = a_field (leb-false _ _ e)
