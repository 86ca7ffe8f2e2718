-- What an accepted block is read as: its atoms in order, the rows of each list without repeats and sorted, its block id, its YES, and its texts where their
-- records stand; so the table, number for number, is said of the block's lines alone. Document 01, "The structure table". Assumes nothing.
use Prim.Native.Nat.{ℕ}
use mathlib.Core.Path.{◌≡◌, refl, sym, ap, ◌∙◌}
use mathlib.Core.Bool.{Bool, true, false, ◌&&◌}
use Rattle.std.specs.declared.option.Option.TheVariants.{Some}
use mathlib.Core.List.{List, [], map}
use native.Mathlib.Omega.{arith}
use lib.ListN.{length}
use borrow.Author.Tests.{le-ltb}
use Rattle.lists.specs.Lists.{flat}
use Rattle.lists.specs.Order.{sort}
use Rattle.lists.specs.Folding.{kept}
use Rattle.lists.proofs.Bools.{and_both}
use Rattle.format.specs.Bytes.{Bytes, cut}
use Rattle.format.specs.Labels.{ListOf, Bonds, Charges, Radicals, Centres, Pairs}
use Rattle.format.specs.Rows.{Row}
use Rattle.format.specs.Coordinates.{position_table}
use Rattle.format.specs.Structure.{Atom, Structure, rows_of, meets, row_before}
use Rattle.format.specs.Reading.{strict, State, over, start, finished, Span, span_of, Outcome, Accepted, Refused, Reading, Read, Unread, reading_of, read_lines, read_block}
use Rattle.format.specs.Table.{encode, Lent, overlaid, short, read_answer, read_into, read_result}
use Rattle.demands.specs.Accepted.{list_rows, told_of, Obeys}
use Rattle.demands.specs.ReadAs.{ids_in, id_as, structure_in, spans_in, geometry_in}
use Rattle.demands.proofs.AcceptedContents.{row_of, rows_are, ids_are}
use Rattle.format.proofs.RefusedLaws.{long_read}
use Rattle.demands.proofs.AcceptedAfter.{afters}
use Rattle.demands.proofs.AcceptedSteps.{along, keeps, when, accepted_as, read_is}
use Rattle.demands.proofs.AcceptedRows.{afters_rows}
use Rattle.demands.proofs.AcceptedOnce.{id_is}
use Rattle.demands.proofs.AcceptedTexts.{texts_are}
use Rattle.demands.proofs.AcceptedTests.{start_rows}
use Rattle.demands.proofs.Accepted.{says_atoms, says_geometry, says_yes, tests_kept, all_kept, end_reached}

-- a structure by its parts
abbrev built : List Atom → (ListOf → List Row) → ℕ → Bool → Structure
built as' rows n y = record { atoms = as'; bonds = rows Bonds; charges = rows Charges; radicals = rows Radicals; centres = rows Centres; pairs = rows Pairs; id = n; handed = y }

finished_is : (s : Structure) → finished s ≡ built s.atoms (λ l. sort row_before (rows_of l s)) s.id s.handed
unfolding finished rows_of
finished_is s = refl

accepted_as_lem : (o : Outcome) (st : State) → accepted_as o ≡ Some st → o ≡ Accepted st
accepted_as_lem (Accepted s) st e = let q : s ≡ st = cc in ap Accepted q
accepted_as_lem (Refused n p) st e = let z : ◌≡◌ {A = ℕ} 0 1 = cc in absurd (omega arith)

module _ (k : ℕ) (b : Bytes) (y : Obeys k b) where
  abbrev last : State
  last = afters k start (cut b)

  lines_read : read_lines (strict k) start (cut b) ≡ Accepted last
  lines_read =
      let q : (along k (keeps k) start (cut b) && over last.running) ≡ true = and_both _ _ (all_kept k b y) (end_reached k b y) in
      accepted_as_lem (read_lines (strict k) start (cut b)) last (read_is k start (cut b) ∙ ap (λ (t : Bool). when t last) q)

  block_read : read_block (strict k) b ≡ Read (finished last.body) (map span_of last.texts) last.geometry
  unfolding read_block
  block_read =
      ap (λ (long : Bool). elim long as (λ (t : Bool). Reading) [ true ↦ Unread 2 0 | false ↦ reading_of (read_lines (strict k) start (cut b)) ]) (le-ltb 32768 (length b) y.short) ∙ ap reading_of lines_read

  last_rows : (l : ListOf) → rows_of l last.body ≡ kept (meets l) [] (list_rows l b)
  unfolding start
  last_rows l =
      afters_rows k l start (cut b) ∙ ap (λ (rs : List Row). kept (meets l) rs (flat (row_of l) (told_of b))) (start_rows l) ∙ ap (kept (meets l) []) (sym (rows_are l b))

  last_id : last.body.id ≡ id_as (ids_in b)
  unfolding start
  last_id = id_is k start (cut b) refl (tests_kept k b y).ordered_labels ∙ ap id_as (sym (ids_are b))

  structure_is : finished last.body ≡ structure_in k b
  structure_is =
      finished_is last.body
      ∙ rw (says_atoms k b, last_rows Bonds, last_rows Charges, last_rows Radicals, last_rows Centres, last_rows Pairs, last_id, says_yes k b)

  spans_are : map span_of last.texts ≡ spans_in b
  spans_are = ap (map span_of) (texts_are k (cut b) (tests_kept k b y).ordered_labels (tests_kept k b y).parted)

  pub read_as : read_block (strict k) b ≡ Read (structure_in k b) (spans_in b) (geometry_in b)
  read_as =
      block_read ∙ ap (λ (s : Structure). Read s (map span_of last.texts) last.geometry) structure_is ∙ ap (λ (l : List Span). Read (structure_in k b) l last.geometry) spans_are
      ∙ ap (Read (structure_in k b) (spans_in b)) (says_geometry k b (tests_kept k b y).ordered_labels)

pub table_is : (k : ℕ) (b : Bytes) (l : Lent) → short l ≡ false → Obeys k b → read_result k b l ≡ read_answer 0 0 (overlaid (encode (structure_in k b) (spans_in b)) (position_table (geometry_in b)) l)
table_is k b l h y = long_read k b l h ∙ ap (read_into l) (read_as k b y)
