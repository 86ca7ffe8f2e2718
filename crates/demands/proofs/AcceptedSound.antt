-- What is read can be written: the table of every accepted block is sound with that block, so that writing it answers its form, or that the form passes 32,768
-- bytes, or that the buffer is shorter; and the form, read again, gives the same numbers. Document 01, demand 2. One element is known at least, as D and T are
-- hydrogen. Assumes nothing.
use Prim.Native.Nat.{ℕ, ◌≤◌}
use mathlib.Core.Path.{◌≡◌, refl, sym, ap, ◌∙◌}
use mathlib.Core.Bool.{Bool, true, false}
use mathlib.Core.List.{List, [], ◌∷◌, ◌++◌, map, append-nil}
use native.Mathlib.Omega.{arith}
use lib.ListN.{length, drop}
use lib.IntN.{ℤ}
use lib.Dec.{ltb}
use borrow.Author.Tests.{le-ltb}
use Rattle.lists.specs.Lists.{all, any}
use Rattle.format.specs.Bytes.{Bytes, is_in}
use Rattle.format.specs.Coordinates.{Geometry}
use Rattle.format.specs.Structure.{Structure, well_formed}
use Rattle.format.specs.Reading.{strict, Span, Read, read_block}
use Rattle.format.specs.Table.{encode, text_fine, text_at, sound, Lent, short, ample, ReadResult, read_into, read_result}
use Rattle.format.specs.Writing.{WriteResult, written_as, form_of, write_result}
use Rattle.format.proofs.RefusedLaws.{ample_long, long_read}
use Rattle.demands.specs.WayBack.{TableBack}
use Rattle.demands.specs.Accepted.{Obeys}
use Rattle.demands.specs.ReadAs.{structure_in, spans_in, geometry_in}
use Rattle.demands.specs.ReadWritten.{form_in}
use Rattle.demands.proofs.WayBack.{Fine, fine_structure}
use Rattle.demands.proofs.WayBackSound.{encoded_sound, table_long, form_of_lem}
use Rattle.demands.proofs.WayBackTables.{table_back}
use Rattle.demands.proofs.Accepted.{accepted_iff}
use Rattle.demands.proofs.ReadAs.{read_as, table_is}
use Rattle.demands.proofs.AcceptedSoundRows.{structure_fine}
use Rattle.demands.proofs.AcceptedSoundTexts.{texts_fine, texts_ok}

-- a block that is read obeys
read_obeys : (k : ℕ) (b : Bytes) (s : Structure) (spans : List Span) (p : Geometry) → read_block (strict k) b ≡ Read s spans p → Obeys k b
read_obeys k b s spans p e = (accepted_iff k b ample ample_long).0 (ap (λ (r : ReadResult). r.number) (long_read k b ample ample_long ∙ ap (read_into ample) e))

-- THE TABLE of a block that obeys, with whatever stands beyond it
module _ (k : ℕ) (one : 1 ≤ k) (b : Bytes) (y : Obeys k b) (beyond : List ℤ) where
  abbrev table : List ℤ
  table = encode (structure_in k b) (spans_in b) ++ beyond

  keeps : Fine k (structure_in k b)
  keeps = fine_structure k (structure_in k b) (structure_fine k one b y)

  table_sound : sound k table b ≡ true
  table_sound = encoded_sound k (structure_in k b) keeps _ _ _ beyond (structure_fine k one b y) b (texts_ok b y.allowed_bytes)

  long : 3856 ≤ length table
  long = table_long k (structure_in k b) keeps _ _ _ beyond

  form_is : form_of table b ≡ form_in k b
  form_is = form_of_lem k (structure_in k b) keeps _ _ _ beyond b

  table_written : (buffer : Bytes) → write_result k table b buffer ≡ written_as (ltb 32768 (length (form_in k b))) (ltb (length buffer) (length (form_in k b))) (form_in k b) buffer
  unfolding write_result
  table_written buffer =
      rw (le-ltb (length table) 3856 long, table_sound, write_result) (ap (λ (f : Bytes). written_as (ltb 32768 (length f)) (ltb (length buffer) (length f)) f buffer) form_is)

-- OF EVERY ACCEPTED BLOCK the structure is well-formed, the texts are fine, and the table is sound
pub read_sound : (k : ℕ) (b : Bytes) (s : Structure) (spans : List Span) (p : Geometry) → 1 ≤ k → read_block (strict k) b ≡ Read s spans p
    → (well_formed k s ≡ true) × (all text_fine (map (text_at b) spans) ≡ true) × (sound k (encode s spans) b ≡ true)
read_sound k b s spans z one e =
    let y : Obeys k b = read_obeys k b s spans z e in
    let q : Read (structure_in k b) (spans_in b) (geometry_in b) ≡ Read s spans z = sym (read_as k b y) ∙ e in
    let p : structure_in k b ≡ s = cc in
    let r : spans_in b ≡ spans = cc in (
      ap (well_formed k) (sym p) ∙ structure_fine k one b y,
      ap (λ (l : List Span). all text_fine (map (text_at b) l)) (sym r) ∙ texts_fine b y.allowed_bytes,
      ap (λ (x : Structure). sound k (encode x spans) b) (sym p)
          ∙ ap (λ (l : List Span). sound k (encode (structure_in k b) l) b) (sym r) ∙ ap (λ (t : List ℤ). sound k t b) (sym (append-nil (encode (structure_in k b) (spans_in b)))) ∙ table_sound k one b y [],
    )

module _ (k : ℕ) (b : Bytes) (t : Lent) (one : 1 ≤ k) (wide : short t ≡ false) (accepted : (read_result k b t).number ≡ 0) where
  obeyed : Obeys k b
  obeyed = (accepted_iff k b t wide).0 accepted

  abbrev given : List ℤ
  given = (read_result k b t).after.table

  given_is : given ≡ table k one b obeyed (drop 3856 t.table)
  given_is = ap (λ (r : ReadResult). r.after.table) (table_is k b t wide obeyed)

  pub accepted_sound : sound k (read_result k b t).after.table b ≡ true
  accepted_sound = ap (λ (l : List ℤ). sound k l b) given_is ∙ table_sound k one b obeyed (drop 3856 t.table)

  -- READ, THEN WRITTEN: the form of what the block was read as, unless it is too long for a block or for the buffer
  pub read_written : (buffer : Bytes) → write_result k (read_result k b t).after.table b buffer ≡ written_as (ltb 32768 (length (form_in k b))) (ltb (length buffer) (length (form_in k b))) (form_in k b) buffer
  read_written buffer = ap (λ (l : List ℤ). write_result k l b buffer) given_is ∙ table_written k one b obeyed (drop 3856 t.table) buffer

  number_is : (long short : Bool) (form buffer : Bytes) → is_in (written_as long short form buffer).number (0 ∷ 22 ∷ 23 ∷ []) ≡ true
  unfolding any
  number_is true short form buffer = refl
  number_is false true form buffer = refl
  number_is false false form buffer = refl

  pub read_then_written : (buffer : Bytes) → is_in (write_result k (read_result k b t).after.table b buffer).number (0 ∷ 22 ∷ 23 ∷ []) ≡ true
  read_then_written buffer = ap (λ (r : WriteResult). is_in r.number (0 ∷ 22 ∷ 23 ∷ [])) (read_written buffer) ∙ number_is (ltb 32768 (length (form_in k b))) (ltb (length buffer) (length (form_in k b))) (form_in k b) buffer

  -- READ, WRITTEN, READ AGAIN: the same numbers but for the places of the texts, where texts of the same content stand
  pub read_written_read : (buffer : Bytes) (into : Lent) → k ≤ 103 → length (form_of (read_result k b t).after.table b) ≤ 32768 → length (form_of (read_result k b t).after.table b) ≤ length buffer → short into ≡ false
      → TableBack k (read_result k b t).after.table b buffer into
  read_written_read buffer into most fits room broad = table_back k given b buffer into most (omega (arith, ap length given_is, long k one b obeyed (drop 3856 t.table))) accepted_sound fits room broad
