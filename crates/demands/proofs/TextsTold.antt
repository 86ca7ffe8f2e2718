-- The texts that the answers for a file tell: of an accepted block those of its records, of a refused one three empty ones; they stand in the file where the tables
-- have them, counted from their block's start. Document 01, demand 3, "tables and texts included". Assumes nothing.
use Prim.Native.Nat.{ℕ, zero, suc, ◌+◌, ◌-◌, ◌≤◌}
use mathlib.Core.Path.{◌≡◌, refl, sym, ap, ◌∙◌, subst}
use mathlib.Core.Bool.{Bool, true, false}
use Rattle.std.specs.declared.option.Option.TheVariants.{None, Some}
use mathlib.Core.List.{List, [], ◌∷◌, ◌++◌, map}
use native.Mathlib.Omega.{arith}
use lib.ListN.{length, take, drop, take-append-drop}
use lib.IntN.{ℤ}
use lib.Dec.{ltb}
use borrow.Author.Tests.{leb-true}
use Rattle.lists.specs.Lists.{all, flat, rows_from}
use Rattle.lists.proofs.Bools.{and_parts}
use Rattle.lists.proofs.ListLaws.{all_parts}
use Rattle.lists.proofs.PartLaws.{slice_before}
use Rattle.format.specs.Bytes.{Bytes}
use Rattle.format.specs.Reading.{Span, Reading, Read, Unread, strict, read_block}
use Rattle.format.specs.Table.{zeros, counts, encode, spans_of, text_fine, text_at, span_ok, text_ok, sound_numbers, sound, Lent, cleared, ample, ReadResult, read_into, read_result}
use Rattle.format.specs.Walking.{Kind, block, stray, Piece, pieces, Answer, bytes_of, told_of, answered, answers}
use Rattle.format.proofs.Computing.{computing}
use Rattle.format.proofs.RefusedLaws.{ample_long, long_read}
use Rattle.demands.specs.Stretches.{texts_told, texts_from}
use Rattle.demands.specs.Accepted.{Obeys}
use Rattle.demands.specs.ReadAs.{structure_in, spans_in}
use Rattle.demands.proofs.Refused.{refused_cleared}
use Rattle.demands.proofs.Accepted.{accepted_iff}
use Rattle.demands.proofs.ReadAs.{table_is}
use Rattle.demands.proofs.AcceptedSound.{accepted_sound}

-- OF AN ACCEPTED BLOCK the texts of its records, OF A REFUSED ONE, by the zeroed table, three empty ones
encoded_spans : (k : ℕ) (b : Bytes) (beyond : List ℤ) → spans_of (encode (structure_in k b) (spans_in b) ++ beyond) ≡ spans_in b
unfolding spans_of rows_from encode counts flat
encoded_spans k b beyond = refl

pub accepted_texts : (k : ℕ) (b : Bytes) → Obeys k b → texts_told (told_of k block b) ≡ map (text_at b) (spans_in b)
accepted_texts k b y =
    ap (λ (r : ReadResult). map (text_at b) (spans_of r.after.table)) (table_is k b ample ample_long y) ∙ ap (map (text_at b)) (encoded_spans k b (drop 3856 ample.table))

zeroed_empty : (b : Bytes) (l : Lent) → map (text_at b) (spans_of (cleared l).table) ≡ [] ∷ [] ∷ [] ∷ []
unfolding cleared zeros spans_of rows_from text_at
zeroed_empty b l = refl

pub refused_texts : (k : ℕ) (b : Bytes) → (Obeys k b → ⊥) → texts_told (told_of k block b) ≡ [] ∷ [] ∷ [] ∷ []
refused_texts k b breaks =
    ap (λ (l : Lent). map (text_at b) (spans_of l.table)) (refused_cleared k b ample ample_long (λ e. breaks ((accepted_iff k b ample ample_long).0 e))) ∙ zeroed_empty b ample

-- A TEXT IN BOUNDS of the first n bytes stands in all of them
span_longer : (n : ℕ) (l : Bytes) (p m : ℕ) → span_ok p m (take n l) ≡ true → take m (drop p (take n l)) ≡ take m (drop p l)
span_longer n l p zero h = refl
span_longer n l p (suc m) h =
    sym (slice_before (suc m) p (take n l) (drop n l) (leb-true (p + suc m) (length (take n l)) h)) ∙ ap (λ (r : Bytes). take (suc m) (drop p r)) (take-append-drop n l)

text_longer : (n : ℕ) (l : Bytes) (x : Span) → text_ok (take n l) x ≡ true → text_at (take n l) x ≡ text_at l x
unfolding text_ok text_at
text_longer n l x h = span_longer n l x.place x.size (and_parts (span_ok x.place x.size (take n l)) (text_fine (text_at (take n l) x)) h).0

texts_longer : (n : ℕ) (l : Bytes) (xs : List Span) → all (text_ok (take n l)) xs ≡ true → map (text_at (take n l)) xs ≡ map (text_at l) xs
texts_longer n l [] h = refl
texts_longer n l (x ∷ xs) h =
    let p : (text_ok (take n l) x ≡ true) × (all (text_ok (take n l)) xs ≡ true) = all_parts (text_ok (take n l)) x xs h in
    rw (text_longer n l x p.0, texts_longer n l xs p.1)

-- THE TEXTS OF A READING are in bounds: an accepted block's table is sound, a refused one's is zeroed
sound_texts : (k : ℕ) (t : List ℤ) (b : Bytes) → sound k t b ≡ true → all (text_ok b) (spans_of t) ≡ true
unfolding sound
sound_texts k t b h = (and_parts (sound_numbers k t) (all (text_ok b) (spans_of t)) h).1

zeroed_texts : (b : Bytes) (l : Lent) → all (text_ok b) (spans_of (cleared l).table) ≡ true
unfolding computing
zeroed_texts b l = refl

read_texts : (k : ℕ) (b : Bytes) → 1 ≤ k → all (text_ok b) (spans_of (read_result k b ample).after.table) ≡ true
read_texts k b one = go (read_block (strict k) b) refl
  where
    go : (r : Reading) → read_block (strict k) b ≡ r → all (text_ok b) (spans_of (read_result k b ample).after.table) ≡ true
    go (Read s spans g) e =
        sound_texts k (read_result k b ample).after.table b
        (accepted_sound k b ample one ample_long (ap (λ (x : ReadResult). x.number) (long_read k b ample ample_long ∙ ap (read_into ample) e)))
    go (Unread n p) e =
        ap (λ (x : ReadResult). all (text_ok b) (spans_of x.after.table)) (long_read k b ample ample_long ∙ ap (read_into ample) e) ∙ zeroed_texts b ample

-- EVERY ANSWER for a file
module _ (k : ℕ) (s : Bytes) (one : 1 ≤ k) where
  piece_texts : (x : Kind) (p : Piece) → texts_told (told_of k x (bytes_of p s)) ≡ texts_from p.from s (told_of k x (bytes_of p s))
  piece_texts block p = texts_longer (p.to - p.from) (drop p.from s) _ (read_texts k (bytes_of p s) one)
  piece_texts stray p = refl

  pieces_texts : (ps : List Piece) → map (λ a. texts_told a.told) (answered k s ps) ≡ map (λ a. texts_from a.of.from s a.told) (answered k s ps)
  unfolding answered
  pieces_texts [] = refl
  pieces_texts (p ∷ ps) = rw (piece_texts p.kind p, pieces_texts ps)

  pub texts_told_lem : (l : List Answer) → answers k s ≡ Some l → map (λ a. texts_told a.told) l ≡ map (λ a. texts_from a.of.from s a.told) l
  unfolding answers
  texts_told_lem l e = by (ltb 16777216 (length s)) e
    where
      by : (long : Bool) → elim long [ true ↦ None | false ↦ Some (answered k s (pieces s)) ] ≡ Some l → map (λ a. texts_told a.told) l ≡ map (λ a. texts_from a.of.from s a.told) l
      by true e = let z : ◌≡◌ {A = ℕ} 0 1 = cc in absurd (omega arith)
      by false e =
          let q : answered k s (pieces s) ≡ l = cc in
          subst (λ (r : List Answer). map (λ a. texts_told a.told) r ≡ map (λ a. texts_from a.of.from s a.told) r) q (pieces_texts (pieces s))
