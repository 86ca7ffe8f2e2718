-- Runs of quick rows of XYZ: at its start a run has reached where it is, and one quick row that joins takes it one line on. Document 02, L2. Assumes nothing.
use Rattle.std.proofs.Common.{◌≡◌, ℕ, ◌+◌, ◌-◌, ◌<◌, ◌≤◌, false, List, length, get_or, drop, ℤ, sym, ap, ◌∙◌, arith, length-drop, length-take-le}
use Rattle.lists.specs.Lists.{is_nil}
use Rattle.format.specs.Bytes.{Bytes, cut}
use Rattle.format.specs.Labels.{XyzRows, Xyz}
use Rattle.format.specs.Coordinates.{XyzRow}
use Rattle.format.specs.Reading.{Rules, State, Go, atom_count, with_geometry, line_step, read_lines}
use Rattle.format.proofs.ReadingLaws.{read_go}
use Rattle.rows.specs.Raised.{xyz_row_of}
use Rattle.quick.specs.Quick.{line_at, XyzAt}
use Rattle.quick.specs.declared.xyz.QuickXyz.{QuickXyz}
use Rattle.quick.proofs.StepLaws.{xyz_step}
use Rattle.coordinates.specs.KeptRows.{kept}
use Rattle.coordinates.proofs.KeptLaws.{kept_length}
use Rattle.geometry.specs.Cells.{row_put}
use Rattle.geometry.specs.XyzRuns.{moved_to, XyzReached, XyzRan}
use Rattle.geometry.proofs.CellLaws.{with_xyz, put_length}
use Rattle.geometry.proofs.LineLaws.{row_goes, put_more}
use Rattle.geometry.proofs.StoreLaws.{store_more, count_is}

module _ (block : Bytes) (at atoms place : ℕ) (t₀ t : List ℕ) (w₀ w : List ℤ) (nine : length t ≡ 9) (ran : XyzRan block at atoms t₀ t w₀ w place)
    (r : QuickXyz) (quick : XyzAt block place r) (listed : r.row.atom ≤ atoms) (above : get_or t 5 0 < r.row.atom) where
  abbrev line : Bytes
  line = line_at block place r.next

  abbrev row : XyzRow
  row = xyz_row_of r.row

  behind : place + length line ≡ r.next
  behind =
      let k : length line ≡ r.next - place = length-take-le (r.next - place) (drop place block) (simp length-drop (omega (arith, quick.line.high))) in
      omega (arith, quick.line.low)

  module _ (u : Rules) (st : State) (running : st.running ≡ Xyz XyzRows) (seen : is_nil st.seen ≡ false) (count : atom_count st ≡ atoms) (h : XyzReached u block at place atoms t w st) where
    abbrev there : State
    there = moved_to place (with_geometry st h.geometry)

    step : line_step u there line ≡ Go (with_geometry there (with_xyz h.geometry row))
    step =
        xyz_step u there block place r.next quick.line seen running
        ∙ row_goes line atoms t quick.line.inked r.row quick.shape quick.small (omega arith) listed there h.shown h.fine count above

    pub one_more_lem : XyzReached u block at r.next atoms (row_put t r.row) (kept w (get_or t 3 0) r.row) st
    one_more_lem =
        let p = put_more line atoms t quick.line.inked r.row quick.shape quick.small (omega arith) listed h.geometry h.shown h.fine above (omega (arith, quick.one)) in
        record {
          geometry = with_xyz h.geometry row;
          shown = p.0;
          fine = p.1;
          stored = store_more w r.row h.geometry.rows (get_or t 3 0) (count_is t h.geometry h.shown) quick.small (omega (arith, quick.one)) h.stored;
          goes =
              h.goes ∙ ap (read_lines u there) quick.line.first ∙ read_go u there (with_geometry there (with_xyz h.geometry row)) line (cut (drop r.next block)) step
              ∙ ap (λ (n : ℕ). read_lines u (moved_to n (with_geometry st (with_xyz h.geometry row))) (cut (drop r.next block))) behind;
        }

  pub xyz_more : (region : List ℕ) (store : List ℤ) → region ≡ row_put t r.row → store ≡ kept w (get_or t 3 0) r.row → (length region ≡ 9) × XyzRan block at atoms t₀ region w₀ store r.next
  xyz_more region store e f = (
    ap length e ∙ put_length t r.row ∙ nine,
    rw (e, f) (record {
      low = omega (arith, ran.low, quick.line.low);
      high = λ h. quick.line.high;
      long = put_length t r.row ∙ ran.long;
      stores = kept_length w (get_or t 3 0) r.row ∙ ran.stores;
      other = λ o. absurd (o (sym ran.long ∙ nine));
      goes = λ u st e run seen c most shown fine stored. one_more_lem u st run seen c (ran.goes u st e run seen c most shown fine stored);
    }),
  )
