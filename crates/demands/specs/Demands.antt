-- The three demands of document 01, as document 02, L1, L2 and L4, has changed them, each one record of its statements, for the elements 1 to k: what the front file proves
-- for every k in its range, here for one. Assumes nothing.
use Rattle.std.specs.Prelude.{ℕ, ◌+◌, ◌<◌, ◌≤◌, ◌≡◌, ◌⊎◌, true, false, List, [], ◌∷◌, ◌++◌, map, length, drop, ℤ, pos, ltb, Float}
use Rattle.std.specs.declared.option.Option.TheVariants.{Some}
use Rattle.lists.specs.Lists.{all, any}
use Rattle.format.specs.Bytes.{Bytes, is_in, cut, strip, whole}
use Rattle.format.specs.Labels.{end_line}
use Rattle.format.specs.Coordinates.{Geometry, position_table}
use Rattle.format.specs.Formula.{formula_shape}
use Rattle.format.specs.Structure.{Isotope, entries_of, total, Structure, well_formed}
use Rattle.format.specs.Reading.{strict, Span, Read, read_block}
use Rattle.format.specs.Table.{zeros, encode, text_fine, text_at, sound, Lent, lent, noughts, short, overlaid, read_answer, read_result}
use Rattle.format.specs.Writing.{formula_of, fragments, print_formula, valued, canonical, form_of, unwritten, written_as, write_result}
use Rattle.format.specs.Walking.{block, piece, pieces, Answer, told_of, answers}
use Rattle.demands.specs.Stretches.{closing, opening, moved, ◌then◌, texts_told, texts_from}
use Rattle.demands.specs.WayBack.{ReadBack, TableBack, WrittenAgain, OneBlock}
use Rattle.demands.specs.Accepted.{entries_as, Obeys, ◌exactly_when◌}
use Rattle.demands.specs.ReadAs.{structure_in, spans_in, geometry_in}
use Rattle.demands.specs.ReadWritten.{form_in}
use Rattle.demands.specs.Positions.{PositionTold}
use Rattle.demands.specs.Handed.{number_at, HandedTold, HandedAlone}
use Rattle.demands.specs.Groups.{Joined, lowest_in, AtomOf, IsLowest, lowest_atoms, group_in, entries_in}

pub record Demand1 (k : ℕ) : Type 0 where
  -- "A refused reading zeroes the structure table, save where that table is too short and is untouched."; L2: positions are "cleared on refusals other than 1"; "a short
  -- position table is 1, nothing touched"
  pub refused_zero : (b : Bytes) (t : List ℤ) (p : List Float) → 3856 ≤ length t → 1024 ≤ length p → ((read_result k b (lent t p)).number ≡ 0 → ⊥) →
      (read_result k b (lent t p)).after ≡ lent (zeros 3856 ++ drop 3856 t) (noughts 1024 ++ drop 1024 p)
  pub short_untouched : (b : Bytes) (t : List ℤ) (p : List Float) → (length t < 3856) ⊎ (length p < 1024) → read_result k b (lent t p) ≡ read_answer 1 0 (lent t p)
  -- "A refused writing changes nothing."
  pub refused_write : (t : List ℤ) (b buffer : Bytes) → ((write_result k t b buffer).number ≡ 0 → ⊥) → write_result k t b buffer ≡ unwritten (write_result k t b buffer).number buffer

pub record Demand2 (k : ℕ) : Type 0 where
  -- a block is accepted exactly when it obeys, and is then read to its table, which is sound
  pub accepted_iff : (b : Bytes) (l : Lent) → short l ≡ false → ((read_result k b l).number ≡ 0) exactly_when Obeys k b
  pub table_is : (b : Bytes) (l : Lent) → short l ≡ false → Obeys k b → read_result k b l ≡ read_answer 0 0 (overlaid (encode (structure_in k b) (spans_in b)) (position_table (geometry_in b)) l)
  pub read_sound : (b : Bytes) (s : Structure) (spans : List Span) (g : Geometry) → read_block (strict k) b ≡ Read s spans g →
      (well_formed k s ≡ true) × (all text_fine (map (text_at b) spans) ≡ true) × (sound k (encode s spans) b ≡ true)
  pub accepted_sound : (b : Bytes) (l : Lent) → short l ≡ false → (read_result k b l).number ≡ 0 → sound k (read_result k b l).after.table b ≡ true
  -- L2: a position is given exactly when a row of XYZ names the atom, and is then that row's
  pub positions_given : (b : Bytes) (l : Lent) → short l ≡ false → (read_result k b l).number ≡ 0 → (n : ℕ) → 1 ≤ n → n ≤ 256 → PositionTold b n (read_result k b l).after.positions
  -- L4: number 13 is 1 exactly when the block has its YES, else 0; a sound table with 13 set has no centres and no pairs
  pub handed_given : (b : Bytes) (l : Lent) → short l ≡ false → (read_result k b l).number ≡ 0 → HandedTold b (read_result k b l).after.table
  pub handed_alone : (t : List ℤ) (b : Bytes) → sound k t b ≡ true → (number_at 13 t ≡ pos 0 → ⊥) → HandedAlone t
  -- L1: atoms are of one group exactly where a path of S, D, T or Q bonds joins them; the written formula has one fragment for each group, in order of their lowest atom,
  -- and its totals are the atoms'
  pub same_group_iff_path : (s : Structure) → well_formed k s ≡ true → (a b : ℕ) → AtomOf s a → AtomOf s b → (lowest_in s a ≡ lowest_in s b) exactly_when Joined s.bonds a b
  pub lowest_of_group : (s : Structure) → well_formed k s ≡ true → (a : ℕ) → AtomOf s a → IsLowest s a
  pub fragment_for_each_group : (s : Structure) → well_formed k s ≡ true → map entries_in (fragments s) ≡ map (λ i. formula_of (entries_of (group_in s i))) (lowest_atoms s)
  pub fragments_total : (s : Structure) → well_formed k s ≡ true → (i : Isotope) → total i (entries_as k (formula_shape (strip (valued (print_formula (fragments s)))))) ≡ total i (entries_of s.atoms)
  -- what was read can be written, and read again it is the same table with the same texts
  pub read_written : (b : Bytes) (l : Lent) → short l ≡ false → (read_result k b l).number ≡ 0 → (buffer : Bytes) →
      write_result k (read_result k b l).after.table b buffer ≡ written_as (ltb 32768 (length (form_in k b))) (ltb (length buffer) (length (form_in k b))) (form_in k b) buffer
  pub read_then_written : (b : Bytes) (l : Lent) → short l ≡ false → (read_result k b l).number ≡ 0 → (buffer : Bytes) →
      is_in (write_result k (read_result k b l).after.table b buffer).number (0 ∷ 22 ∷ 23 ∷ []) ≡ true
  pub read_written_read : (b : Bytes) (l : Lent) → short l ≡ false → (read_result k b l).number ≡ 0 → (buffer : Bytes) (into : Lent) →
      length (form_of (read_result k b l).after.table b) ≤ 32768 → length (form_of (read_result k b l).after.table b) ≤ length buffer → short into ≡ false → TableBack k (read_result k b l).after.table b buffer into
  -- the written form is read to what it was written from, and is one block
  pub way_back : (s : Structure) (title origin owner : Bytes) → well_formed k s ≡ true → all text_fine (title ∷ origin ∷ owner ∷ []) ≡ true →
      length (canonical s (title ∷ origin ∷ owner ∷ [])) ≤ 32768 → ReadBack k s (title ∷ origin ∷ owner ∷ [])
  pub table_back : (t : List ℤ) (b buffer : Bytes) (into : Lent) → 3856 ≤ length t → sound k t b ≡ true → length (form_of t b) ≤ 32768 → length (form_of t b) ≤ length buffer →
      short into ≡ false → TableBack k t b buffer into
  pub written_again : (s : Structure) (title origin owner : Bytes) → well_formed k s ≡ true → all text_fine (title ∷ origin ∷ owner ∷ []) ≡ true →
      length (canonical s (title ∷ origin ∷ owner ∷ [])) ≤ 32768 → (into : Lent) → short into ≡ false → WrittenAgain k (canonical s (title ∷ origin ∷ owner ∷ [])) into
  pub canonical_lines : (s : Structure) (title origin owner : Bytes) → well_formed k s ≡ true → all text_fine (title ∷ origin ∷ owner ∷ []) ≡ true →
      length (canonical s (title ∷ origin ∷ owner ∷ [])) ≤ 32768 → OneBlock (canonical s (title ∷ origin ∷ owner ∷ []))
  pub canonical_piece : (s : Structure) (title origin owner : Bytes) → well_formed k s ≡ true → all text_fine (title ∷ origin ∷ owner ∷ []) ≡ true →
      length (canonical s (title ∷ origin ∷ owner ∷ [])) ≤ 32768 → pieces (canonical s (title ∷ origin ∷ owner ∷ [])) ≡ piece block 0 (length (canonical s (title ∷ origin ∷ owner ∷ []))) ∷ []

pub record Demand3 (k : ℕ) : Type 0 where
  -- "The answers for the file are those for each stretch read alone, one after the other, only the file places moved along", tables and texts included
  pub three_stretches : (a b c : Bytes) → length (a ++ (b ++ c)) ≤ 16777216 → closing a ≡ true → whole b ≡ true → opening c ≡ true →
      answers k (a ++ (b ++ c)) ≡ answers k a then moved (length a) (answers k b) then moved (length a + length b) (answers k c)
  pub accepted_texts : (b : Bytes) → Obeys k b → texts_told (told_of k block b) ≡ map (text_at b) (spans_in b)
  pub refused_texts : (b : Bytes) → (Obeys k b → ⊥) → texts_told (told_of k block b) ≡ [] ∷ [] ∷ [] ∷ []
  pub texts_told_lem : (s : Bytes) (l : List Answer) → answers k s ≡ Some l → map (λ a. texts_told a.told) l ≡ map (λ a. texts_from a.of.from s a.told) l
  -- "No block without an END line is accepted."
  pub accepted_has_end : (b : Bytes) (l : Lent) → (read_result k b l).number ≡ 0 → any end_line (cut b) ≡ true
