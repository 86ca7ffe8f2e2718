-- What the way back of demand 2 speaks of, document 01: a written form read again gives the structure that it was written from, and texts of the same content.
-- Assumes nothing.
use Rattle.std.specs.Prelude.{ℕ, ◌≤◌, ◌≡◌, true, false, List, [], ◌∷◌, ◌++◌, map, length, take, drop, ℤ}
use Rattle.lists.specs.Lists.{all, any}
use Rattle.format.specs.Bytes.{Bytes, cut}
use Rattle.format.specs.Labels.{title_line, end_line}
use Rattle.format.specs.Coordinates.{no_geometry, position_table}
use Rattle.format.specs.Structure.{Structure}
use Rattle.format.specs.Reading.{Span, Read, strict, read_block}
use Rattle.format.specs.Table.{encode, decode, spans_of, text_at, text_ok, sound, Lent, lent, overlaid, read_answer, read_result}
use Rattle.format.specs.Writing.{canonical, form_of, write_result}

-- the form of a structure and its texts is read as that structure, and where its three texts stand stand those texts, each as a sound table has it
pub record ReadBack (k : ℕ) (s : Structure) (texts : List Bytes) : Type 0 where
  pub title : Span
  pub origin : Span
  pub owner : Span
  pub reads : read_block (strict k) (canonical s texts) ≡ Read s (title ∷ origin ∷ owner ∷ []) no_geometry
  pub same_texts : map (text_at (canonical s texts)) (title ∷ origin ∷ owner ∷ []) ≡ texts
  pub sound_texts : all (text_ok (canonical s texts)) (title ∷ origin ∷ owner ∷ []) ≡ true

-- a table's numbers but for the three starts of its texts, 7, 9 and 11: their lengths, 8, 10 and 12, are among them
abbrev pub without_starts : List ℤ → List ℤ
without_starts t = take 7 t ++ (take 1 (drop 8 t) ++ (take 1 (drop 10 t) ++ drop 12 t))

-- a table is written, as its form; the form read into any table is accepted and gives the same numbers but for the starts of the texts, where texts of the same
-- content stand, and the table read back is sound with the form, so that they are in bounds
pub record TableBack (k : ℕ) (t : List ℤ) (b buffer : Bytes) (into : Lent) : Type 0 where
  pub title : Span
  pub origin : Span
  pub owner : Span
  pub written : write_result k t b buffer ≡ record { number = 0; count = length (form_of t b); buffer = form_of t b ++ drop (length (form_of t b)) buffer }
  pub reads : read_result k (form_of t b) into ≡ read_answer 0 0 (overlaid (encode (decode t) (title ∷ origin ∷ owner ∷ [])) (position_table no_geometry) into)
  pub same_numbers : without_starts (encode (decode t) (title ∷ origin ∷ owner ∷ [])) ≡ without_starts (take 3856 t)
  pub same_texts : map (text_at (form_of t b)) (title ∷ origin ∷ owner ∷ []) ≡ map (text_at b) (spans_of t)
  pub sound_again : sound k (read_result k (form_of t b) into).after.table (form_of t b) ≡ true

-- a form is accepted, the table that it is read into is sound with it, and written again into any buffer with room it is the form, byte for byte
pub record WrittenAgain (k : ℕ) (form : Bytes) (into : Lent) : Type 0 where
  pub table : List ℤ
  pub reads : read_result k form into ≡ read_answer 0 0 (lent table (position_table no_geometry ++ drop 1024 into.positions))
  pub sound_again : sound k table form ≡ true
  pub same_form : form_of table form ≡ form
  pub writes : (buffer : Bytes) → length form ≤ length buffer → write_result k table form buffer ≡ record { number = 0; count = length form; buffer = form ++ drop (length form) buffer }

-- the lines of a form: the first is a TITLE line and no other is, the last is an END line and no other is
pub record OneBlock (form : Bytes) : Type 0 where
  pub first : Bytes
  pub middle : List Bytes
  pub last : Bytes
  pub lines : cut form ≡ first ∷ (middle ++ (last ∷ []))
  pub title_first_lem : title_line first ≡ true
  pub title_once : any title_line (middle ++ (last ∷ [])) ≡ false
  pub end_last : end_line last ≡ true
  pub end_once : any end_line (first ∷ middle) ≡ false
