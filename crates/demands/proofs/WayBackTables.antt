-- The way back over tables: demand 2 of document 01, a sound table whose form fits is written, and the form read again gives a sound table that is the same but for
-- the starts of the texts. Assumes nothing.
use Prim.Native.Nat.{ℕ, zero, suc, ◌+◌, ◌≤◌}
use mathlib.Core.Path.{◌≡◌, refl, sym, ap, ◌∙◌}
use mathlib.Core.Bool.{true, false}
use mathlib.Core.List.{List, [], ◌∷◌, map}
use native.Mathlib.Omega.{arith}
use lib.ListN.{length, take, drop, length-drop}
use lib.Seq.{length-take-le}
use lib.IntN.{ℤ}
use borrow.Author.Tests.{leb-true}
use Rattle.lists.specs.Lists.{all, same_by, flat, rows_from}
use Rattle.lists.proofs.Bools.{and_parts}
use Rattle.lists.proofs.ListLaws.{all_parts, all_imply}
use Rattle.lists.proofs.PartLaws.{all_map}
use Rattle.lists.proofs.PairLaws.{same_by_eq}
use Rattle.format.specs.Bytes.{Bytes}
use Rattle.format.specs.Structure.{Structure, well_formed}
use Rattle.format.specs.Reading.{Span}
use Rattle.format.specs.Table.{counts, encode, decode, span_at, spans_of, same_number, sound_numbers, text_fine, text_at, span_ok, text_ok, sound, Lent, short, ReadResult, read_into}
use Rattle.format.specs.Writing.{form_of}
use Rattle.demands.specs.WayBack.{ReadBack, TableBack, without_starts}
use Rattle.format.proofs.RefusedLaws.{long_read}
use Rattle.format.proofs.TableLaws.{number_equal}
use Rattle.demands.proofs.WayBack.{fine_structure, way_back}
use Rattle.demands.proofs.WayBackSound.{form_written, encoded_sound}

-- A SOUND TABLE is that of its structure, with texts that are fine
pub record Sound (k : ℕ) (t : List ℤ) (b : Bytes) : Type 0 where
  pub structure : well_formed k (decode t) ≡ true
  pub numbers : encode (decode t) (spans_of t) ≡ take 3856 t
  pub texts : all text_fine (map (text_at b) (spans_of t)) ≡ true
  pub placed : all (text_ok b) (spans_of t) ≡ true

text_part : (b : Bytes) (x : Span) → text_ok b x ≡ true → text_fine (text_at b x) ≡ true
unfolding text_ok
text_part b x h = (and_parts (span_ok x.place x.size b) (text_fine (text_at b x)) h).1

pub sound_parts : (k : ℕ) (t : List ℤ) (b : Bytes) → sound k t b ≡ true → Sound k t b
unfolding sound sound_numbers
sound_parts k t b h =
    let p = and_parts (sound_numbers k t) (all (text_ok b) (spans_of t)) h in
    let q = and_parts (well_formed k (decode t)) (same_by same_number (encode (decode t) (spans_of t)) (take 3856 t)) p.0 in
    record {
      structure = q.0;
      numbers = same_by_eq same_number number_equal (encode (decode t) (spans_of t)) (take 3856 t) q.1;
      texts = all_map text_fine (text_at b) (spans_of t) ∙ all_imply (text_ok b) (λ (x : Span). text_fine (text_at b x)) (text_part b) (spans_of t) p.1;
      placed = p.1;
    }

-- A TEXT IN BOUNDS is as long as its span has it, so that texts of the same content have spans of the same size
span_long : (p n : ℕ) (b : Bytes) → span_ok p n b ≡ true → length (take n (drop p b)) ≡ n
span_long p zero b h = refl
span_long p (suc n) b h = length-take-le (suc n) (drop p b) (omega (arith, leb-true (p + suc n) (length b) h, length-drop p b))

text_long : (b : Bytes) (x : Span) → text_ok b x ≡ true → length (text_at b x) ≡ x.size
unfolding text_ok text_at
text_long b x h = span_long x.place x.size b (and_parts (span_ok x.place x.size b) (text_fine (text_at b x)) h).0

sizes_are : (b : Bytes) (xs : List Span) → all (text_ok b) xs ≡ true → map (λ (x : Span). x.size) xs ≡ map (λ (s : Bytes). length s) (map (text_at b) xs)
sizes_are b [] h = refl
sizes_are b (x ∷ xs) h =
    let p : (text_ok b x ≡ true) × (all (text_ok b) xs ≡ true) = all_parts (text_ok b) x xs h in
    rw (text_long b x p.0, sizes_are b xs p.1)

-- with spans of the same size only the starts differ
same_but_starts : (s : Structure) (a b c x y z : Span) → map (λ (w : Span). w.size) (a ∷ b ∷ c ∷ []) ≡ map (λ (w : Span). w.size) (x ∷ y ∷ z ∷ []) →
    without_starts (encode s (a ∷ b ∷ c ∷ [])) ≡ without_starts (encode s (x ∷ y ∷ z ∷ []))
unfolding encode counts flat
same_but_starts s a b c x y z e =
    let p : a.size ≡ x.size = cc in
    let q : b.size ≡ y.size = cc in
    let r : c.size ≡ z.size = cc in
    rw (p, q, r)

three_spans : (t : List ℤ) → spans_of t ≡ span_at (drop 7 t) ∷ span_at (drop 2 (drop 7 t)) ∷ span_at (drop 2 (drop 2 (drop 7 t))) ∷ []
unfolding spans_of rows_from
three_spans t = refl

form_back : (k : ℕ) (t : List ℤ) (b : Bytes) → k ≤ 103 → Sound k t b → length (form_of t b) ≤ 32768 → ReadBack k (decode t) (map (text_at b) (spans_of t))
unfolding form_of spans_of rows_from
form_back k t b most ok fits = way_back k (decode t) _ _ _ most ok.structure ok.texts fits

pub table_back : (k : ℕ) (t : List ℤ) (b buffer : Bytes) (into : Lent) → k ≤ 103 → 3856 ≤ length t → sound k t b ≡ true → length (form_of t b) ≤ 32768 → length (form_of t b) ≤ length buffer →
    short into ≡ false → TableBack k t b buffer into
unfolding form_of
table_back k t b buffer into most long ok fits room wide =
    let S : Sound k t b = sound_parts k t b ok in
    let R : ReadBack k (decode t) (map (text_at b) (spans_of t)) = form_back k t b most S fits in
    let same : map (λ (x : Span). x.size) (R.title ∷ R.origin ∷ R.owner ∷ []) ≡ map (λ (x : Span). x.size) (spans_of t) =
    sizes_are (form_of t b) _ R.sound_texts ∙ ap (map (λ (s : Bytes). length s)) R.same_texts ∙ sym (sizes_are b (spans_of t) S.placed) in
    let reads_as = long_read k (form_of t b) into wide ∙ ap (read_into into) R.reads in
    record {
      title = R.title;
      origin = R.origin;
      owner = R.owner;
      written = form_written k t b buffer long ok fits room;
      reads = reads_as;
      same_numbers =
          same_but_starts (decode t) R.title R.origin R.owner _ _ _ (same ∙ ap (map (λ (x : Span). x.size)) (three_spans t))
          ∙ ap (λ (l : List Span). without_starts (encode (decode t) l)) (sym (three_spans t)) ∙ ap without_starts S.numbers;
      same_texts = R.same_texts;
      sound_again =
          ap (λ (r : ReadResult). sound k r.after.table (form_of t b)) reads_as
          ∙ encoded_sound k (decode t) (fine_structure k (decode t) S.structure) R.title R.origin R.owner (drop 3856 into.table) S.structure (form_of t b) R.sound_texts;
    }
