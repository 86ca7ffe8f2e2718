-- The numbers of the C door from what is known of an answer: document 01, "The C host calls a check of one block". Assumes nothing.
use Prim.Native.Nat.{ℕ, ◌+◌, ◌-◌, ◌*◌, ◌≤◌, ◌<◌}
use mathlib.Core.Path.{◌≡◌, refl, sym, ap, ap₂, ◌∙◌}
use mathlib.Core.List.{[], ◌∷◌}
use native.Mathlib.Omega.{arith}
use lib.ListN.{length}
use borrow.Author.Tests.{lt-ltb, le-ltb}
use Rattle.std.specs.Prelude.{Result, Ok, Err}
use Rattle.format.specs.declared.refusal.Refusal.{Refusal}
use Rattle.format.specs.Refusals.{number_of}
use Rattle.format.specs.Bytes.{Bytes, cut}
use Rattle.format.specs.Reading.{span_from}
use Rattle.format.specs.Table.{Lent, ReadResult}
use Rattle.format.specs.Writing.{WriteResult}
use Rattle.format.specs.Walking.{piece, title_of, packed, packed_result}
use Rattle.format.specs.declared.refusal.Refused.{Refused}
use Rattle.reader.specs.Answers.{shown_read}
use Rattle.fields.specs.declared.Field.{Field}
use Rattle.transfer.specs.declared.walks.PieceKind.{PieceKind}
use Rattle.transfer.specs.declared.walks.PieceKind.TheVariants as K
use Rattle.transfer.specs.Shown.{kind_of}
use Rattle.transfer.specs.Texts.{title_start, Titled}
use Rattle.transfer.proofs.NameLaws.{title_size}
use Rattle.writer.specs.Answers.{shown as shown_write}
use Rattle.host.specs.Packed.{kind_number, packed_piece, packed_span, packed_title, packed_written}

-- a reading's answer, from the variant it is, and the tables after it
module _ (x : ReadResult) (r k : Result (Unit {0}) Refused) (l : Lent) (h : shown_read r l ≡ x) (e : r ≡ k) where
  pub read_packed : packed_result (shown_read k l) ≡ packed_result x
  read_packed = ap packed_result (ap (λ (a : Result (Unit {0}) Refused). shown_read a l) (sym e) ∙ h)

  pub read_tables : (shown_read k l).after ≡ x.after
  read_tables = ap (λ (y : ReadResult). y.after) (ap (λ (a : Result (Unit {0}) Refused). shown_read a l) (sym e) ∙ h)

module _ (x : ReadResult) (r : Result (Unit {0}) Refused) (l : Lent) (h : shown_read r l ≡ x) where
  pub refused_packed : (a : Refused) → r ≡ Err a → (n m : ℕ) → n ≡ packed m a.place → m ≡ number_of a.refusal → n ≡ packed_result x
  refused_packed a e n m p q = p ∙ ap (λ (k : ℕ). packed k a.place) q ∙ read_packed x r (Err a) l h e

-- a writing's answer, from the variant it is, and the buffer after it
module _ (x : WriteResult) (r k : Result ℕ Refusal) (b : Bytes) (h : shown_write r b ≡ x) (e : r ≡ k) where
  written_is : shown_write k b ≡ x
  written_is = ap (λ (a : Result ℕ Refusal). shown_write a b) (sym e) ∙ h

  pub written_buffer : (shown_write k b).buffer ≡ x.buffer
  written_buffer = ap (λ (y : WriteResult). y.buffer) written_is

module _ (x : WriteResult) (r : Result ℕ Refusal) (b : Bytes) (h : shown_write r b ≡ x) where
  pub count_packed : (n : ℕ) → r ≡ Ok n → n ≡ packed_written x
  count_packed n e = omega (arith, ap packed_written (written_is x r (Ok n) b h e))

  pub refusal_packed : (d : Refusal) → r ≡ Err d → number_of d * 4294967296 ≡ packed_written x
  refusal_packed d e = omega (arith, ap packed_written (written_is x r (Err d) b h e))

-- a title of some bytes
span_some : (p : ℕ) (t : Bytes) → 0 < length t → packed_span (span_from p t) ≡ packed p (length t)
span_some p [] h = absurd (omega arith)
span_some p (x ∷ t) h = refl

span_none : (p : ℕ) (t : Bytes) → length t ≡ 0 → packed_span (span_from p t) ≡ 0
span_none p [] h = refl
span_none p (x ∷ t) h = absurd (omega arith)

pub title_long : (b : Bytes) → 4294967295 < length b → 0 ≡ packed_title b
unfolding packed_title
title_long b h = sym (rw (le-ltb (length b) 4294967296 (omega arith), packed_title))

module _ (b : Bytes) (r : Field) (short : length b ≤ 4294967295) (k : Titled b r) where
  title_short : packed_title b ≡ packed_span (span_from (title_start (cut b)) (title_of (cut b)))
  unfolding packed_title
  title_short = rw (lt-ltb (length b) 4294967296 (omega arith), packed_title)

  pub title_none : r.from ≡ r.to → 0 ≡ packed_title b
  title_none e = sym (title_short ∙ span_none _ (title_of (cut b)) (omega (arith, title_size b [] r k)))

  pub title_packed : (r.from ≡ r.to → ⊥) → r.from * 4294967296 + (r.to - r.from) ≡ packed_title b
  title_packed e =
      let n : length (title_of (cut b)) ≡ r.to - r.from = title_size b [] r k in
      sym (title_short ∙ span_some _ (title_of (cut b)) (omega (arith, k.order)) ∙ ap₂ packed (sym k.start) n)

-- the kind and the end of a piece
pub kind_packed : (k : PieceKind) (from to : ℕ) → packed (kind_number k) to ≡ packed_piece (piece (kind_of k) from to)
kind_packed K.Block from to = refl
kind_packed K.Stray from to = refl
